use Rattle.filling.proofs.NotePuts as notes
use lib.ListN.{length}
use Prim.Native.Nat.{◌-◌}
use Rattle.filling.proofs.put_notes.Given as goal

abbrev pub invariant-loop-note : goal.invariant-loop-note
invariant-loop-note g l = notes.NotesInv l.s (g.T.Slot.numbers l.initial.row) l.start l.n l.at (g.T.Slot.numbers l.row) l.i l.up l.k

abbrev pub decreases-loop-note : goal.decreases-loop-note
decreases-loop-note g l = length l.s - l.i
