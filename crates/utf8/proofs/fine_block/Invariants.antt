use mathlib.Core.Path.{◌≡◌}
use Rattle.utf8.specs.Promises.{fine_run}
use Rattle.utf8.proofs.fine_block.Given as goal

abbrev pub invariant-loop-k : goal.invariant-loop-k
invariant-loop-k l = fine_run l.s l.at l.k ≡ l.fine
