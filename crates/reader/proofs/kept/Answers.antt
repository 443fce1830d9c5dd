-- kept: a glance above a blank tells no ending, and of the steps only Error is one.
use Rattle.reader.proofs.Opens as opens
use borrow.Author.Rules.{rules}
use Rattle.reader.proofs.kept.Goals as goal

pub returns-then-goes_on : goal.returns-then-goes_on
returns-then-goes_on c = search (rules, opens.kept_glance)

pub returns-in-Error : goal.returns-in-Error
returns-in-Error c = search (rules, opens.kept_stop)

pub returns-in-Gap : goal.returns-in-Gap
returns-in-Gap c = search (rules, opens.kept_skip)

pub returns-in-Tok : goal.returns-in-Tok
returns-in-Tok c = search (rules, opens.kept_tok)

pub returns-in-Newline : goal.returns-in-Newline
returns-in-Newline c = search (rules, opens.kept_line)

pub returns-in-End : goal.returns-in-End
returns-in-End c = search (rules, opens.kept_over)
