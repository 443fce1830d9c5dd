use Rattle.measuring.proofs.Texts.{TextInv}
use lib.ListN.{length}
use Prim.Native.Nat.{◌-◌}
use Rattle.measuring.proofs.measure.Given as goal

abbrev pub invariant-loop-l : goal.invariant-loop-l
invariant-loop-l l = TextInv l.full l.s l.initial.levels l.deep l.from l.first l.levels l.top l.depth l.at l.n

abbrev pub decreases-loop-l : goal.decreases-loop-l
decreases-loop-l l = length l.s - l.at
