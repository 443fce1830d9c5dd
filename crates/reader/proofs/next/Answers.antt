-- next: what is due comes before the line's items, and an ended reader stays as it is.
use Rattle.reader.proofs.Gives as gives
use borrow.Author.Rules.{rules}
use Rattle.reader.proofs.next.Goals as goal

pub returns : goal.returns
returns c = search (rules, gives.over_takes)
