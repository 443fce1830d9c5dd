use Prim.Native.Nat.{◌-◌}
use lib.ListN.{length}
use Rattle.lines.specs.Promises.{Ends}
use Rattle.rounds.proofs.Finds.{FindInv}
use Rattle.rounds.proofs.next_token.Given as goal

abbrev pub invariant-loop-i : goal.invariant-loop-i
invariant-loop-i l = FindInv l.full l.s l.at l.nest l.i × Ends l.s l.at l.i l.n

abbrev pub decreases-loop-i : goal.decreases-loop-i
decreases-loop-i l = length l.s - l.i
