-- indent_of: by cases of a number that is 0, or is not.
use Rattle.reader.proofs.Parts as parts
use borrow.Author.Rules.{rules}
use Rattle.reader.proofs.indent_of.Goals as goal

pub returns-then-indents-eq0 : goal.returns-then-indents-eq0
returns-then-indents-eq0 c = search (rules, parts.blanks_none)

pub returns : goal.returns
returns c = search (rules, parts.blanks_some)
