use Rattle.names.specs.Promises.{packed}
use lib.ListN.{drop}
use mathlib.Core.Path.{◌≡◌}
use Rattle.names.proofs.keywords.pack.Given as goal

abbrev pub invariant-loop-i : goal.invariant-loop-i
invariant-loop-i l = l.v ≡ packed (drop l.i l.w)
