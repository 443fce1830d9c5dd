-- none: the record that stands for none is a blank one.
use Rattle.reader.proofs.Parts as parts
use borrow.Author.Rules.{rules}
use Rattle.reader.proofs.none.Goals as goal

pub returns : goal.returns
returns c = search (rules, parts.given_told)
