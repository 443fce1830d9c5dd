use Prim.Native.Nat.{◌≤◌, ◌-◌}
use mathlib.Core.Path.{◌≡◌}
use Rattle.every_character.specs.Promises.{is_in, run_end}
use Rattle.utf8.specs.Chars.{no_char}
use Rattle.every_character.proofs.run_end.Given as goal

abbrev pub invariant-loop-c : goal.invariant-loop-c
invariant-loop-c l = (l.c ≤ no_char) × (run_end (is_in l.class) l.c ≡ run_end (is_in l.class) l.from)

abbrev pub decreases-loop-c : goal.decreases-loop-c
decreases-loop-c l = no_char - l.c
