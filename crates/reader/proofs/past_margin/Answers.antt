-- past_margin: the fields that differ from those at a line's start are set.
use Rattle.reader.proofs.Parts as parts
use borrow.Author.Rules.{rules}
use Rattle.reader.proofs.past_margin.Goals as goal

pub returns : goal.returns
returns c = search (rules, parts.past_told)
