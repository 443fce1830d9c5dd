-- measure_line: what is pending counts with the first item, unless that is an ending; the rest of the line counts itself.
use Rattle.rounds.proofs.Rests.{glance_on}
use Rattle.measuring.proofs.Lines as lines
use borrow.Author.Rules.{rules}
use Rattle.measuring.proofs.measure_line.Goals as goal

pub returns-then-goes_on : goal.returns-then-goes_on
returns-then-goes_on c = search (rules, lines.on_lined, glance_on)

pub returns-then-is_note : goal.returns-then-is_note
returns-then-is_note c = search (rules, lines.on_lined, lines.tok_on)

pub measure_rest-requires-in-Tok : goal.measure_rest-requires-in-Tok
measure_rest-requires-in-Tok c = search (rules, lines.tok_ok)

pub returns-in-Gap : goal.returns-in-Gap
returns-in-Gap c = search (rules, lines.on_lined, lines.skip_on)

pub returns-else-is_note : goal.returns-else-is_note
returns-else-is_note c = search (rules, lines.line_tok)

pub returns-in-Newline : goal.returns-in-Newline
returns-in-Newline c = search (rules, lines.on_lined, lines.line_on)

pub returns-in-Error : goal.returns-in-Error
returns-in-Error c = search (rules, lines.line_stop)

pub returns-in-End : goal.returns-in-End
returns-in-End c = search (rules, lines.line_over)
