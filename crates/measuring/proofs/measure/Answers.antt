-- measure: what is left to count from a line's start is what was left from the first; each turn takes a line.
use Rattle.measuring.proofs.Texts as texts
use borrow.Author.Rules.{rules}
use Rattle.measuring.proofs.measure.Goals as goal

pub loop-l-init : goal.loop-l-init
loop-l-init c = search (rules, texts.text_begin)

pub start_line-requires : goal.start_line-requires
start_line-requires c = search (rules, texts.below)

pub returns-in-Err : goal.returns-in-Err
returns-in-Err c = search (rules, texts.text_stop)

pub overflow_add-due : goal.overflow_add-due
overflow_add-due c = record { fits = search (rules, texts.line_sum) }

pub overflow_add-due-in-loop-l : goal.overflow_add-due-in-loop-l
overflow_add-due-in-loop-l c = record { fits = search (rules, texts.line_due) }

pub measure_line-requires : goal.measure_line-requires
measure_line-requires c = search (rules, texts.line_ok)

pub returns-in-Error : goal.returns-in-Error
returns-in-Error c = search (rules, texts.tail_stop, texts.lined_tailed)

pub overflow_add-result : goal.overflow_add-result
overflow_add-result c = record { fits = search (rules, texts.over_fits, texts.lined_tailed) }

pub returns-in-End : goal.returns-in-End
returns-in-End c = search (rules, texts.tail_over, texts.lined_tailed)

pub loop-l-smaller-then-l-eq0 : goal.loop-l-smaller-then-l-eq0
loop-l-smaller-then-l-eq0 c = search (rules, texts.next_less, texts.lined_tailed)

pub loop-l-preserved-then-l-eq0 : goal.loop-l-preserved-then-l-eq0
loop-l-preserved-then-l-eq0 c = search (rules, texts.text_next, texts.lined_tailed, texts.stored_none)

pub overflow_sub-levels : goal.overflow_sub-levels
overflow_sub-levels c = search (rules, texts.slot_some)

pub offset_bounds-levels-next : goal.offset_bounds-levels-next
offset_bounds-levels-next c = record { fits = search (rules, texts.slot_bytes) }

pub bounds-levels-next : goal.bounds-levels-next
bounds-levels-next c = search (rules, texts.slot_ok)

pub loop-l-smaller : goal.loop-l-smaller
loop-l-smaller c = search (rules, texts.next_less, texts.lined_tailed)

pub loop-l-preserved : goal.loop-l-preserved
loop-l-preserved c = search (rules, texts.text_next, texts.lined_tailed, texts.stored_one)
