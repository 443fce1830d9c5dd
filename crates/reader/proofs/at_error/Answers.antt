-- at_error: the ending's code and detail are the definition's.
use Rattle.reader.proofs.Parts as parts
use borrow.Author.Rules.{rules}
use Rattle.reader.proofs.at_error.Goals as goal

pub returns : goal.returns
returns c = search (rules, parts.by_told)
