use Rattle.soft_keywords.proofs.LookAheads.{Seeks}
use lib.ListN.{length}
use Prim.Native.Nat.{◌-◌}
use Rattle.soft_keywords.proofs.stays_keyword.Given as goal

abbrev pub invariant-loop-m : goal.invariant-loop-m
invariant-loop-m l = Seeks l.full l.s l.at l.k l.i l.nest l.x

abbrev pub decreases-loop-m : goal.decreases-loop-m
decreases-loop-m l = length l.s - l.i
