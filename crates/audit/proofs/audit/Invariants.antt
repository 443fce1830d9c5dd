use Rattle.audit.specs.Promises.{Scan}
use Rattle.audit.proofs.audit.Given as goal

abbrev pub invariant-loop-i : goal.invariant-loop-i
invariant-loop-i g l = Scan (g.T.Slot.numbers l.row) l.old l.i l.openers l.depth
