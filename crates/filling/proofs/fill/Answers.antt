-- fill: what is left to write from a line's start is what was left from the first.
use Rattle.filling.proofs.Texts as texts
use Rattle.measuring.proofs.Texts as counts
use borrow.Author.Rules.{rules}
use Rattle.filling.proofs.fill.Goals as goal

pub loop-l-init : goal.loop-l-init
loop-l-init g c = search (rules, texts.fill_begin)

pub start_line-requires : goal.start_line-requires
start_line-requires g c = search (rules, counts.below)

pub returns-in-Err : goal.returns-in-Err
returns-in-Err g c = search (rules, texts.text_stop)

pub fill_line-written-requires : goal.fill_line-written-requires
fill_line-written-requires g c = search (rules, texts.line_fill)

pub returns-in-Error : goal.returns-in-Error
returns-in-Error g c = search (rules, texts.tail_stop)

pub put_dedents-requires : goal.put_dedents-requires
put_dedents-requires g c = search (rules, texts.over_room)

pub overflow_add-result : goal.overflow_add-result
overflow_add-result g c = record { fits = search (rules, texts.over_fits) }

pub returns-in-End : goal.returns-in-End
returns-in-End g c = search (rules, texts.tail_over)

pub loop-l-smaller-then-l-eq0 : goal.loop-l-smaller-then-l-eq0
loop-l-smaller-then-l-eq0 g c = search (rules, texts.next_less)

pub loop-l-preserved-then-l-eq0 : goal.loop-l-preserved-then-l-eq0
loop-l-preserved-then-l-eq0 g c = search (rules, texts.text_next, counts.stored_none)

pub overflow_sub-levels : goal.overflow_sub-levels
overflow_sub-levels g c = search (rules, counts.slot_some)

pub offset_bounds-levels-next : goal.offset_bounds-levels-next
offset_bounds-levels-next g c = record { fits = search (rules, counts.slot_bytes) }

pub bounds-levels-next : goal.bounds-levels-next
bounds-levels-next g c = search (rules, counts.slot_ok)

pub loop-l-smaller : goal.loop-l-smaller
loop-l-smaller g c = search (rules, texts.next_less)

pub loop-l-preserved : goal.loop-l-preserved
loop-l-preserved g c = search (rules, texts.text_next, counts.stored_one)
