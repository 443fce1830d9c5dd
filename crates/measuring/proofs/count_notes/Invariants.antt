use Rattle.measuring.proofs.NoteCounts as counts
use lib.ListN.{length}
use Prim.Native.Nat.{◌-◌}
use Rattle.measuring.proofs.count_notes.Given as goal

abbrev pub invariant-loop-note : goal.invariant-loop-note
invariant-loop-note l = counts.NotesInv l.s l.at l.i l.k

abbrev pub decreases-loop-note : goal.decreases-loop-note
decreases-loop-note l = length l.s - l.i
