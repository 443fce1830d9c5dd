-- fill_rest: what is left to write, and to count, from `i` is what was left from `at`.
use Rattle.filling.proofs.Lines as lines
use Rattle.measuring.proofs.Lines as counts
use Rattle.lexer.proofs.Goes as steps
use borrow.Author.Rules.{rules}
use Rattle.filling.proofs.fill_rest.Goals as goal

pub loop-i-init : goal.loop-i-init
loop-i-init g c = search (rules, lines.fill_begin)

pub loop-i-smaller-in-Blank : goal.loop-i-smaller-in-Blank
loop-i-smaller-in-Blank g c = search (rules, steps.blank_less)

pub loop-i-preserved-in-Blank : goal.loop-i-preserved-in-Blank
loop-i-preserved-in-Blank g c = search (rules, lines.glance_skip)

pub overflow_add-i : goal.overflow_add-i
overflow_add-i g c = record { fits = search (rules, counts.on_fits) }

pub put_token-requires : goal.put_token-requires
put_token-requires g c = search (rules, lines.glance_line_put)

pub overflow_add-result : goal.overflow_add-result
overflow_add-result g c = record { fits = search (rules, counts.on_fits) }

pub overflow_add-result-in-Newline : goal.overflow_add-result-in-Newline
overflow_add-result-in-Newline g c = record { fits = search (rules, counts.one_more) }

pub overflow_add-result-in-Newline-2 : goal.overflow_add-result-in-Newline-2
overflow_add-result-in-Newline-2 g c = record { fits = search (rules, lines.glance_up) }

pub returns-in-Newline : goal.returns-in-Newline
returns-in-Newline g c = search (rules, lines.glance_line)

pub softened-kind-requires : goal.softened-kind-requires
softened-kind-requires g c = search (rules, lines.glance_in)

pub put-requires : goal.put-requires
put-requires g c = search (rules, lines.glance_put)

pub nest_after-deep-requires : goal.nest_after-deep-requires
nest_after-deep-requires g c = search (rules, counts.deep_fits)

pub overflow_add-k : goal.overflow_add-k
overflow_add-k g c = record { fits = search (rules, counts.one_more) }

pub loop-i-smaller-in-Token : goal.loop-i-smaller-in-Token
loop-i-smaller-in-Token g c = search (rules, lines.glance_less)

pub loop-i-preserved-in-Token : goal.loop-i-preserved-in-Token
loop-i-preserved-in-Token g c = search (rules, lines.glance_tok)

pub line_ends-up-requires : goal.line_ends-up-requires
line_ends-up-requires g c = search (rules, steps.gap_part)

pub overflow_add-up : goal.overflow_add-up
overflow_add-up g c = record { fits = search (rules, lines.gap_fits) }

pub loop-i-smaller-in-Gap : goal.loop-i-smaller-in-Gap
loop-i-smaller-in-Gap g c = search (rules, steps.gap_less)

pub loop-i-preserved-in-Gap : goal.loop-i-preserved-in-Gap
loop-i-preserved-in-Gap g c = search (rules, lines.fill_skip)

pub line_ends-requires : goal.line_ends-requires
line_ends-requires g c = search (rules, steps.tok_part)

pub overflow_add-next : goal.overflow_add-next
overflow_add-next g c = record { fits = search (rules, lines.tok_up) }

pub put-requires-then-full : goal.put-requires-then-full
put-requires-then-full g c = search (rules, lines.note_put)

pub overflow_add-k-then-full : goal.overflow_add-k-then-full
overflow_add-k-then-full g c = record { fits = search (rules, counts.one_more) }

pub loop-i-smaller-then-full : goal.loop-i-smaller-then-full
loop-i-smaller-then-full g c = search (rules, steps.tok_less)

pub loop-i-preserved-then-full : goal.loop-i-preserved-then-full
loop-i-preserved-then-full g c = search (rules, lines.fill_note)

pub loop-i-smaller-then-is_note : goal.loop-i-smaller-then-is_note
loop-i-smaller-then-is_note g c = search (rules, steps.tok_less)

pub loop-i-preserved-then-is_note : goal.loop-i-preserved-then-is_note
loop-i-preserved-then-is_note g c = search (rules, lines.drop_note)

pub softened-kind-requires-in-Tok : goal.softened-kind-requires-in-Tok
softened-kind-requires-in-Tok g c = search (rules, lines.tok_in)

pub put-requires-in-Tok : goal.put-requires-in-Tok
put-requires-in-Tok g c = search (rules, lines.tok_put)

pub overflow_add-k-in-Tok : goal.overflow_add-k-in-Tok
overflow_add-k-in-Tok g c = record { fits = search (rules, counts.one_more) }

pub loop-i-smaller : goal.loop-i-smaller
loop-i-smaller g c = search (rules, steps.tok_less)

pub loop-i-preserved : goal.loop-i-preserved
loop-i-preserved g c = search (rules, lines.fill_tok)

pub put_token-requires-in-Newline-next_step : goal.put_token-requires-in-Newline-next_step
put_token-requires-in-Newline-next_step g c = search (rules, lines.line_put)

pub overflow_add-result-in-Newline-next_step : goal.overflow_add-result-in-Newline-next_step
overflow_add-result-in-Newline-next_step g c = record { fits = search (rules, counts.one_more) }

pub line_ends-requires-in-Newline-next_step : goal.line_ends-requires-in-Newline-next_step
line_ends-requires-in-Newline-next_step g c = search (rules, steps.line_part)

pub overflow_add-result-in-Newline-next_step-2 : goal.overflow_add-result-in-Newline-next_step-2
overflow_add-result-in-Newline-next_step-2 g c = record { fits = search (rules, lines.line_up) }

pub returns-in-Newline-next_step : goal.returns-in-Newline-next_step
returns-in-Newline-next_step g c = search (rules, lines.fill_line)

pub returns-in-Error : goal.returns-in-Error
returns-in-Error g c = search (rules, lines.fill_stop)

pub put_token-requires-in-End : goal.put_token-requires-in-End
put_token-requires-in-End g c = search (rules, lines.over_put)

pub overflow_add-result-in-End : goal.overflow_add-result-in-End
overflow_add-result-in-End g c = record { fits = search (rules, counts.one_more) }

pub returns-in-End : goal.returns-in-End
returns-in-End g c = search (rules, lines.fill_over)
