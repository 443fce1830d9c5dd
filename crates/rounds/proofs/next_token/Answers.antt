-- next_token: a gap, and a note that is not listed, hands out no record, so what is left from `i` is what was left from `at`; the first
-- other step is the answer. The line ends up to `i` are counted, but for what a glance tells.
use Rattle.lines.proofs.Laws.{ends_start, ends_join}
use Rattle.lexer.proofs.Goes as steps
use Rattle.rounds.proofs.Finds as finds
use borrow.Author.Rules.{rules}
use Rattle.rounds.proofs.next_token.Goals as goal

pub loop-i-init : goal.loop-i-init
loop-i-init c = (search (rules, finds.find_begin), search ends_start)

pub loop-i-smaller-in-Blank : goal.loop-i-smaller-in-Blank
loop-i-smaller-in-Blank c = search (rules, steps.blank_less)

pub loop-i-preserved-in-Blank : goal.loop-i-preserved-in-Blank
loop-i-preserved-in-Blank c = (search (rules, finds.glance_skip), search (rules, finds.blank_ends))

pub returns-in-Newline : goal.returns-in-Newline
returns-in-Newline c = search (rules, finds.glanced_line)

pub nest_after-requires : goal.nest_after-requires
nest_after-requires c = search (rules, finds.nest_fits)

pub returns-in-Token : goal.returns-in-Token
returns-in-Token c = search (rules, finds.glanced_tok)

pub line_ends-n-requires : goal.line_ends-n-requires
line_ends-n-requires c = search (rules, steps.gap_part)

pub loop-i-smaller-in-Gap : goal.loop-i-smaller-in-Gap
loop-i-smaller-in-Gap c = search (rules, steps.gap_less)

pub loop-i-preserved-in-Gap : goal.loop-i-preserved-in-Gap
loop-i-preserved-in-Gap c = (search (rules, finds.find_skip), search ends_join)

pub line_ends-within-requires : goal.line_ends-within-requires
line_ends-within-requires c = search (rules, steps.tok_part)

pub returns-then-is_listed : goal.returns-then-is_listed
returns-then-is_listed c = search (rules, finds.found_tok)

pub loop-i-smaller : goal.loop-i-smaller
loop-i-smaller c = search (rules, steps.tok_less)

pub loop-i-preserved : goal.loop-i-preserved
loop-i-preserved c = (search (rules, finds.find_note), search ends_join)

pub line_ends-requires : goal.line_ends-requires
line_ends-requires c = search (rules, steps.line_part)

pub returns-in-Newline-next_step : goal.returns-in-Newline-next_step
returns-in-Newline-next_step c = search (rules, finds.found_line)

pub returns-in-Error : goal.returns-in-Error
returns-in-Error c = search (rules, finds.found_stop)

pub returns-in-End : goal.returns-in-End
returns-in-End c = search (rules, finds.found_last)
