use Rattle.indentation.specs.Blanks.{blanks_from}
use Rattle.utf8.specs.Chars.{chars}
use lib.ListN.{length, drop}
use Prim.Native.Nat.{◌-◌, ◌+◌, ◌≤◌}
use mathlib.Core.Bool.{false}
use mathlib.Core.Path.{◌≡◌}
use Rattle.indentation.proofs.eat_indentation.Given as goal

abbrev pub invariant-scan : goal.invariant-scan
invariant-scan l = (blanks_from false l.i l.tabs l.spaces (chars (drop l.i l.s)) ≡ blanks_from false l.at 0 0 (chars (drop l.at l.s))) × (l.tabs + l.spaces ≤ l.i)

abbrev pub decreases-scan : goal.decreases-scan
decreases-scan l = length l.s - l.i
