use Rattle.names.specs.Names.{number_in}
use lib.Dec.{eqb}
use lib.ListN.{length, drop}
use Prim.Native.Nat.{◌-◌, ◌+◌}
use mathlib.Core.Path.{◌≡◌}
use Rattle.names.proofs.keywords.number_in.Given as goal

abbrev pub invariant-loop-k : goal.invariant-loop-k
invariant-loop-k l = number_in (eqb l.v) (drop l.k l.table) (l.first + l.k) l.other ≡ number_in (eqb l.v) l.table l.first l.other

abbrev pub decreases-loop-k : goal.decreases-loop-k
decreases-loop-k l = length l.table - l.k
