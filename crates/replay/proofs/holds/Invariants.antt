use mathlib.Core.Path.{◌≡◌}
use lib.ListN.{drop}
use Rattle.replay.specs.Promises.{due_from, is_held}
use Rattle.replay.proofs.holds.Given as goal

abbrev pub invariant-loop-i : goal.invariant-loop-i
invariant-loop-i l = due_from l.records l.i (drop l.i l.row) ≡ is_held l.records l.row
