-- one: the record is told by its places with the start added.
use Rattle.reader.proofs.Parts as parts
use borrow.Author.Rules.{rules}
use Rattle.reader.proofs.one.Goals as goal

pub returns : goal.returns
returns c = search (rules, parts.given_told)
