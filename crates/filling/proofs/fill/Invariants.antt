use Rattle.filling.proofs.Texts.{FillText}
use lib.ListN.{length}
use Prim.Native.Nat.{◌-◌}
use Rattle.filling.proofs.fill.Given as goal

abbrev pub invariant-loop-l : goal.invariant-loop-l
invariant-loop-l g l = FillText l.full l.s (g.T.Slot.numbers l.initial.row) l.start l.initial.levels l.deep l.from l.first l.line (g.T.Slot.numbers l.row) l.levels l.top l.depth l.at l.above l.n l.fresh

abbrev pub decreases-loop-l : goal.decreases-loop-l
decreases-loop-l g l = length l.s - l.at
