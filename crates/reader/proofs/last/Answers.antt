-- last: within a line a Newline is due; at its start the Dedents, and after them nothing.
use Rattle.reader.proofs.Parts as parts
use borrow.Author.Rules.{rules}
use Rattle.reader.proofs.last.Goals as goal

pub returns-then-depth-eq0 : goal.returns-then-depth-eq0
returns-then-depth-eq0 c = search (rules, parts.last_stop)

pub returns-then-is_bare : goal.returns-then-is_bare
returns-then-is_bare c = search (rules, parts.last_dedent)

pub returns : goal.returns
returns c = search (rules, parts.last_line)
