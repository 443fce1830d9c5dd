-- fine_block: the turns' answers are joined as the definition joins them. Assumes nothing.
use mathlib.Core.Path.{◌≡◌, refl}
use native.Mathlib.Omega.{arith}
use Rattle.utf8.specs.Promises.{fine_run}
use Rattle.utf8.proofs.Blocks.{fine_more}
use Rattle.utf8.proofs.fine_block.Goals as goal

pub loop-k-init : goal.loop-k-init
unfolding fine_run
loop-k-init c = refl

pub loop-k-preserved : goal.loop-k-preserved
loop-k-preserved c = search fine_more

pub returns : goal.returns
returns c = let e : c.loop-k.k ≡ 64 = omega arith in rw e at c.loop-k.invariant
