-- cut_in: the records are looked at from the last one back, and the first cut met is the last.
use Rattle.rereading.proofs.Cuts as cuts
use borrow.Author.Rules.{rules}
use Rattle.rereading.proofs.cut_in.Goals as goal

pub returns-then-is_cut : goal.returns-then-is_cut
returns-then-is_cut g c = search (rules, cuts.cut_found)

pub loop-i-preserved : goal.loop-i-preserved
loop-i-preserved g c = search (rules, cuts.cut_on)

pub returns : goal.returns
returns g c = search (rules, cuts.cut_none)
