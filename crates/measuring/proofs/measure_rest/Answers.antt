-- measure_rest: what is left to count from `i` is what was left from `at`; each turn takes an item, which goes forward.
use Rattle.lexer.proofs.Goes as steps
use Rattle.measuring.proofs.Lines as lines
use borrow.Author.Rules.{rules}
use Rattle.measuring.proofs.measure_rest.Goals as goal

pub loop-i-init : goal.loop-i-init
loop-i-init c = search (rules, lines.rest_begin)

pub loop-i-smaller-in-Blank : goal.loop-i-smaller-in-Blank
loop-i-smaller-in-Blank c = search (rules, steps.blank_less)

pub loop-i-preserved-in-Blank : goal.loop-i-preserved-in-Blank
loop-i-preserved-in-Blank c = search (rules, lines.glance_skip)

pub overflow_add-result : goal.overflow_add-result
overflow_add-result c = record { fits = search (rules, lines.on_fits) }

pub overflow_add-result-in-Newline : goal.overflow_add-result-in-Newline
overflow_add-result-in-Newline c = record { fits = search (rules, lines.one_more) }

pub returns-in-Newline : goal.returns-in-Newline
returns-in-Newline c = search (rules, lines.glance_line)

pub nest_after-deep-requires : goal.nest_after-deep-requires
nest_after-deep-requires c = search (rules, lines.deep_fits)

pub overflow_add-k : goal.overflow_add-k
overflow_add-k c = record { fits = search (rules, lines.one_more) }

pub loop-i-smaller-in-Token : goal.loop-i-smaller-in-Token
loop-i-smaller-in-Token c = search (rules, steps.token_less)

pub loop-i-preserved-in-Token : goal.loop-i-preserved-in-Token
loop-i-preserved-in-Token c = search (rules, lines.glance_tok)

pub loop-i-smaller-in-Gap : goal.loop-i-smaller-in-Gap
loop-i-smaller-in-Gap c = search (rules, steps.gap_less)

pub loop-i-preserved-in-Gap : goal.loop-i-preserved-in-Gap
loop-i-preserved-in-Gap c = search (rules, lines.rest_skip)

pub overflow_add-k-then-is_listed : goal.overflow_add-k-then-is_listed
overflow_add-k-then-is_listed c = record { fits = search (rules, lines.one_more) }

pub loop-i-smaller-then-is_listed : goal.loop-i-smaller-then-is_listed
loop-i-smaller-then-is_listed c = search (rules, steps.tok_less)

pub loop-i-preserved-then-is_listed : goal.loop-i-preserved-then-is_listed
loop-i-preserved-then-is_listed c = search (rules, lines.rest_tok)

pub loop-i-smaller : goal.loop-i-smaller
loop-i-smaller c = search (rules, steps.tok_less)

pub loop-i-preserved : goal.loop-i-preserved
loop-i-preserved c = search (rules, lines.rest_note)

pub overflow_add-result-in-Newline-next_step : goal.overflow_add-result-in-Newline-next_step
overflow_add-result-in-Newline-next_step c = record { fits = search (rules, lines.one_more) }

pub returns-in-Newline-next_step : goal.returns-in-Newline-next_step
returns-in-Newline-next_step c = search (rules, lines.rest_line)

pub returns-in-Error : goal.returns-in-Error
returns-in-Error c = search (rules, lines.rest_stop)

pub overflow_add-result-in-End : goal.overflow_add-result-in-End
overflow_add-result-in-End c = record { fits = search (rules, lines.one_more) }

pub returns-in-End : goal.returns-in-End
returns-in-End c = search (rules, lines.rest_end)
