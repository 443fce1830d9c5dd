-- noted: all of them, or none.
use Rattle.measuring.proofs.NoteCounts as counts
use borrow.Author.Rules.{rules}
use Rattle.measuring.proofs.noted.Goals as goal

pub returns-then-full : goal.returns-then-full
returns-then-full c = search (rules, counts.noted_all)

pub returns : goal.returns
returns c = search (rules, counts.noted_none)
