use Rattle.numbers.specs.Numbers.{digits}
use Rattle.window.specs.Promises.{place}
use mathlib.Core.Path.{◌≡◌}
use lib.ListN.{length}
use Rattle.numbers.proofs.radix_run.Given as goal

abbrev pub invariant-loop-r : goal.invariant-loop-r
invariant-loop-r l = (l.r.text.now ≡ l.initial.r.text.now) × (digits l.radix (place l.r) ≡ digits l.radix (place l.initial.r))

abbrev pub decreases-loop-r : goal.decreases-loop-r
decreases-loop-r l = length (place l.r).rest
