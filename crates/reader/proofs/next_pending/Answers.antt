-- next_pending: an Indent, then Dedents, then no more, by how many are left.
use Rattle.reader.proofs.Parts as parts
use borrow.Author.Rules.{rules}
use Rattle.reader.proofs.next_pending.Goals as goal

pub returns-then-c-gt0 : goal.returns-then-c-gt0
returns-then-c-gt0 c = search (rules, parts.pend_indent)

pub returns-then-c-gt0-2 : goal.returns-then-c-gt0-2
returns-then-c-gt0-2 c = search (rules, parts.pend_dedent)

pub returns : goal.returns
returns c = search (rules, parts.pend_none)
