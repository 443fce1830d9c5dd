use Rattle.strings.specs.Strings.{body}
use Rattle.window.specs.Place.{place_at}
use lib.ListN.{length}
use Prim.Native.Nat.{◌-◌}
use mathlib.Core.Bool.{false}
use mathlib.Core.Path.{◌≡◌}
use Rattle.strings.proofs.single_end.Given as goal

abbrev pub invariant-loop-i : goal.invariant-loop-i
invariant-loop-i l = body l.kind false l.q (place_at l.s l.i) ≡ body l.kind false l.q (place_at l.s l.at)

abbrev pub decreases-loop-i : goal.decreases-loop-i
decreases-loop-i l = length l.s - l.i
