-- What the searches of the tables and the tests of ASCII bytes promise.
use Rattle.std.specs.Prelude.{◌≡◌, Bool, true, false, List, [], ◌∷◌, ℕ, suc, ◌/◌, ◌^◌, leb, ltb, eqb, length}
use Rattle.choice.specs.Choice.{both, choose}
use Rattle.classes.specs.Ranges.{in_ranges}
use Prim.Native.Char.{code}
use Rattle.std.specs.Int.Bits.{bit_and}

-- the first range begins at `from` or later, none is empty, and each begins after the one before it ends
unfoldable pub ordered : ℕ → List ℕ → Bool
ordered from [] = true
ordered from (low ∷ []) = false
ordered from (low ∷ high ∷ rest) = both (leb from low) (both (leb low high) (ordered (suc high) rest))

-- the code's ranges, each a pair, as such a list
unfoldable pub flat : List (ℕ × ℕ) → List ℕ
flat [] = []
flat ((low, high) ∷ rest) = low ∷ high ∷ flat rest

-- a part of a table, of 32 ranges, that is enough to look c up in
pub record Part (table : List ℕ) (part : List (ℕ × ℕ)) (c : ℕ) : Type 0 where
  pub size : 32 ≡ length part
  pub in_order : ordered 0 (flat part) ≡ true
  pub same : in_ranges table c ≡ in_ranges (flat part) c

-- Reference 2.3, within ASCII: a letter or the underscore
unfoldable pub is_ascii_start : ℕ → Bool
is_ascii_start c =
    choose (leb (code "a") c) (λ _. leb c (code "z"))
    (λ _. choose (ltb c (code "A")) (λ _. false)
    (λ _. choose (leb c (code "Z")) (λ _. true)
    (λ _. eqb c (code "_"))))

-- Reference 2.3, within ASCII: a letter, a digit or the underscore
unfoldable pub is_ascii_continuation : ℕ → Bool
is_ascii_continuation c =
    choose (leb (code "a") c) (λ _. leb c (code "z"))
    (λ _. choose (ltb c (code "0")) (λ _. false)
    (λ _. choose (leb c (code "9")) (λ _. true)
    (λ _. choose (ltb c (code "A")) (λ _. false)
    (λ _. choose (leb c (code "Z")) (λ _. true)
    (λ _. eqb c (code "_"))))))

-- letters, digits and the underscore as bits of a number: those below 64, the lowest bit for 0, or those from 64 on, the lowest for 64
unfoldable pub continuation_bits : ℕ → ℕ
continuation_bits c = choose (ltb c 64) (λ _. 0x03ff000000000000) (λ _. 0x07fffffe87fffffe)

-- the bit of a byte in a number that has one for each of 64 bytes, from 0 on or from 64 on
unfoldable pub bit_at : ℕ → ℕ → Bool
bit_at bits c = eqb (bit_and (bits / 2 ^ bit_and c 63) 1) 1
