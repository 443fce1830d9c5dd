-- The letters that start a name and no string, as bits: below 128 they are what the definition says, by computing both there.
-- Assumes nothing.
use Prim.Native.Nat.{ℕ, ◌<◌, ◌≤◌}
use Prim.Native.Char.{code}
use mathlib.Core.Bool.{Bool, false}
use mathlib.Core.Path.{◌≡◌, refl, ◌∙◌}
use native.Mathlib.Omega.{arith}
use borrow.Author.Tests.{le-ltb, lt-ltb, le-leb, lt-leb, ne_eqb}
use lib.Dec.{ltb}
use Rattle.choice.specs.Choice.{choose}
use Rattle.classes.specs.Promises.{is_ascii_start, bit_at}
use Rattle.classes.proofs.Sweep.{agree_below}
use Rattle.lexer.specs.Promises.{starts_name}

letters : ℕ → Bool
letters b = choose (ltb b 64) (λ _. false) (λ _. bit_at 0x07dbffba87dbffba b)

below : (b : ℕ) → b < 128 → starts_name b ≡ letters b
unfolding starts_name is_ascii_start letters bit_at
below = agree_below 128 starts_name letters refl

pub letter_none : (b : ℕ) → b < 64 → starts_name b ≡ false
unfolding letters
letter_none b h = below b (omega arith) ∙ rw (lt-ltb b 64 h)

pub letter_bit : (b : ℕ) (r : Bool) → bit_at 0x07dbffba87dbffba b ≡ r → 64 ≤ b → b < 128 → starts_name b ≡ r
unfolding letters
letter_bit b r q k h = below b h ∙ rw (le-ltb b 64 k) q

pub letter_high : (b : ℕ) → 128 ≤ b → starts_name b ≡ false
unfolding starts_name is_ascii_start
letter_high b h =
    rw (ne_eqb b (code "B") (λ e. omega arith), ne_eqb b (code "F") (λ e. omega arith), ne_eqb b (code "R") (λ e. omega arith), ne_eqb b (code "U") (λ e. omega arith), ne_eqb b (code "b") (λ e. omega arith), ne_eqb b (code "f") (λ e. omega arith), ne_eqb b (code "r") (λ e. omega arith), ne_eqb b (code "u") (λ e. omega arith), le-leb 0x61 b (omega arith), lt-leb b 0x7a (omega arith))
