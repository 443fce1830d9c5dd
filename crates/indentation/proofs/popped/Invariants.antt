use Rattle.indentation.specs.Levels.{most_levels, pop_from}
use Rattle.indentation.specs.Promises.{stack}
use Prim.Native.Nat.{◌≤◌}
use mathlib.Core.Path.{◌≡◌}
use Rattle.indentation.proofs.popped.Given as goal

abbrev pub invariant-loop-d : goal.invariant-loop-d
invariant-loop-d l = (l.d ≤ most_levels) × (pop_from (stack l.levels l.d) l.blanks.tabs l.blanks.spaces ≡ pop_from (stack l.levels l.depth) l.blanks.tabs l.blanks.spaces)

abbrev pub decreases-loop-d : goal.decreases-loop-d
decreases-loop-d l = l.d
