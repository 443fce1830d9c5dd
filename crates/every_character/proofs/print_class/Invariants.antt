use Prim.Native.Nat.{◌≤◌, ◌-◌}
use Rattle.utf8.specs.Chars.{no_char}
use Rattle.every_character.proofs.print_class.Given as goal

abbrev pub invariant-loop-c : goal.invariant-loop-c
invariant-loop-c g l = l.c ≤ no_char

abbrev pub decreases-loop-c : goal.decreases-loop-c
decreases-loop-c g l = no_char - l.c
