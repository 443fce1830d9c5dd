-- second: for each lead byte that narrows the bounds, the bounds compute. Assumes nothing.
use Rattle.choice.proofs.Laws.{tests}
use Rattle.utf8.specs.Utf8.{least_second, greatest_second}
use Rattle.utf8.proofs.second.Goals as goal

pub returns-in-224 : goal.returns-in-224
unfolding least_second greatest_second
returns-in-224 c = simp c.in-224.is c.between.ensures

pub returns-in-237 : goal.returns-in-237
unfolding least_second greatest_second
returns-in-237 c = simp c.in-237.is c.between-in-237.ensures

pub returns-in-240 : goal.returns-in-240
unfolding least_second greatest_second
returns-in-240 c = simp c.in-240.is c.between-in-240.ensures

pub returns-in-244 : goal.returns-in-244
unfolding least_second greatest_second
returns-in-244 c = simp c.in-244.is c.between-in-244.ensures

pub returns-in_default : goal.returns-in_default
unfolding least_second greatest_second
returns-in_default c = search tests
