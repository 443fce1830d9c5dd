use Rattle.measuring.proofs.Lines.{RestInv}
use lib.ListN.{length}
use Prim.Native.Nat.{◌-◌}
use Rattle.measuring.proofs.measure_rest.Given as goal

abbrev pub invariant-loop-i : goal.invariant-loop-i
invariant-loop-i l = RestInv l.full l.s l.at l.nest l.n l.i l.deep l.k

abbrev pub decreases-loop-i : goal.decreases-loop-i
decreases-loop-i l = length l.s - l.i
