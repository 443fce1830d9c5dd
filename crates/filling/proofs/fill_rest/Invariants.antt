use Rattle.filling.proofs.Lines.{FillInv}
use lib.ListN.{length}
use Prim.Native.Nat.{◌-◌}
use Rattle.filling.proofs.fill_rest.Given as goal

abbrev pub invariant-loop-i : goal.invariant-loop-i
invariant-loop-i g l = FillInv l.full l.s (g.T.Slot.numbers l.initial.row) l.start l.at l.nest l.n l.line (g.T.Slot.numbers l.row) l.i l.up l.deep l.k l.fresh

abbrev pub decreases-loop-i : goal.decreases-loop-i
decreases-loop-i g l = length l.s - l.i
