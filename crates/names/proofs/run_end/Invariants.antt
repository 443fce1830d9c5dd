use Rattle.names.specs.Runs.{skip_while}
use Rattle.names.specs.Promises.{Tells}
use Prim.Native.Nat.{◌-◌}
use mathlib.Core.Path.{◌≡◌}
use lib.ListN.{length}
use Rattle.window.specs.Place.{place_at}
use Rattle.names.proofs.run_end.Given as goal

abbrev pub invariant-loop-i : goal.invariant-loop-i
invariant-loop-i g l =
    goal.F-IsAlwaysCallable g l.test
    × ((f : _) → Tells (goal.F-post g l.test) f → skip_while f (place_at l.s l.i) ≡ skip_while f (place_at l.s l.at))

abbrev pub decreases-loop-i : goal.decreases-loop-i
decreases-loop-i g l = length l.s - l.i
