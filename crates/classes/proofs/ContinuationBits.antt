-- The bits of letters, digits and the underscore: below 128 they say what the class says, by computing both there.
-- Assumes nothing.
use Prim.Native.Nat.{ℕ, ◌<◌, ◌≤◌}
use Prim.Native.Char.{code}
use mathlib.Core.Bool.{Bool, false}
use mathlib.Core.Path.{◌≡◌, refl, ◌∙◌}
use native.Mathlib.Omega.{arith}
use borrow.Author.Tests.{le-leb, lt-leb}
use lib.Bits.{bit_and, and_mask}
use Rattle.classes.specs.Promises.{is_ascii_continuation, continuation_bits, bit_at}
use Rattle.classes.proofs.Sweep.{agree_below}

pub low_bits : (b : ℕ) → bit_and b 63 < 64
low_bits b = rw (and_mask b 6) (omega arith)

pub word_bit : (b v : ℕ) (r : Bool) → bit_at v b ≡ r → v ≡ continuation_bits b → b < 128 → is_ascii_continuation b ≡ r
unfolding is_ascii_continuation continuation_bits bit_at
word_bit b v r q e h = agree_below 128 is_ascii_continuation (λ c. bit_at (continuation_bits c) c) refl b h ∙ rw e at q

pub name_high : (b : ℕ) → 128 ≤ b → is_ascii_continuation b ≡ false
unfolding is_ascii_continuation
name_high b h = rw (le-leb (code "a") b (omega arith), lt-leb b (code "z") (omega arith))
