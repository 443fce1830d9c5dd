-- at_ending: the fields that differ from those at a line's start are set.
use Rattle.reader.proofs.Parts as parts
use borrow.Author.Rules.{rules}
use Rattle.reader.proofs.at_ending.Goals as goal

pub returns : goal.returns
returns c = search (rules, parts.stop_told)
