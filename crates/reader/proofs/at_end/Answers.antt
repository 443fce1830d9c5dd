-- at_end: the fields that differ from those at a line's start are set.
use Rattle.reader.proofs.Parts as parts
use borrow.Author.Rules.{rules}
use Rattle.reader.proofs.at_end.Goals as goal

pub returns : goal.returns
returns c = search (rules, parts.end_told)
