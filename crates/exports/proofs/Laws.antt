-- A class's flag is small, and the classes add up.
-- Assumes nothing.
use Prim.Native.Nat.{ℕ, ◌+◌, ◌≤◌}
use mathlib.Core.Path.{◌≡◌}
use mathlib.Core.Bool.{Bool, true, false}
use native.Mathlib.Omega.{arith}
use Rattle.classes.specs.Classes.{is_identifier_start, is_identifier_continuation, is_emoji}
use Rattle.exports.specs.Doors.{bit, class_of}

pub bit_small : (b : Bool) (n r : ℕ) → r ≡ bit b n → r ≤ n
bit_small true n r e = omega arith
bit_small false n r e = omega arith

pub class_sum : (c : ℕ) (a b d : Bool) (x y z : ℕ) → is_identifier_start c ≡ a → is_identifier_continuation c ≡ b → is_emoji c ≡ d → x ≡ bit a 1 → y ≡ bit b 2 → z ≡ bit d 4 → x + y + z ≡ class_of c
unfolding class_of
class_sum c a b d x y z p q r e f g = rw (p, q, r, e, f, g)
