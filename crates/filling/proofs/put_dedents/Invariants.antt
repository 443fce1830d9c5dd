use mathlib.Core.Path.{◌≡◌}
use lib.ListN.{length}
use Prim.Native.Nat.{◌-◌}
use Rattle.filling.proofs.Rows.{DedentsLeft}
use Rattle.filling.proofs.put_dedents.Given as goal

abbrev pub invariant-loop-j : goal.invariant-loop-j
invariant-loop-j g l = (length (g.T.Slot.numbers l.row) ≡ length (g.T.Slot.numbers l.initial.row)) × DedentsLeft l.start l.p l.above (g.T.Slot.numbers l.row) l.j (l.j-end - l.j) (g.T.Slot.numbers l.initial.row) l.i l.n
