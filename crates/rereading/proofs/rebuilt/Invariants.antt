use Rattle.rereading.proofs.Rebuilds.{Going}
use Rattle.rereading.proofs.rebuilt.Given as goal

abbrev pub invariant-loop-i : goal.invariant-loop-i
invariant-loop-i g l = Going l.s l.e (g.T.Slot.numbers l.row) l.k l.levels l.depth l.i
