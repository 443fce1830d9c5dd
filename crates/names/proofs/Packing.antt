-- Names packed into numbers: two packed names are one if their numbers are, where no last byte is 0.
-- Assumes nothing.
use Prim.Native.Nat.{ℕ, zero, suc, ◌+◌, ◌*◌, ◌^◌, ◌-◌, ◌<◌, ◌≤◌}
use mathlib.Core.Path.{◌≡◌, sym, ◌∙◌, ap, ap₂}
use mathlib.Core.List.{List, [], ◌∷◌}
use native.Mathlib.Omega.{arith}
use native.Mathlib.Numerals.{add-one}
use native.Mathlib.Nat.{add-zero, add-suc, pow-suc}
use borrow.Author.Tests.{eq-eqb, ne_eqb}
use mir.Syntax.{w8}
use mir.Val.{Fits}
use lib.Dec.{eqb}
use lib.ListN.{length, get_or, drop, length-drop}
use lib.Seq.{get_or-drop, drop-cons, drop-length}
use Rattle.utf8.proofs.Laws.{past}
use Rattle.names.specs.Names.{number_in}
use Rattle.names.specs.Promises.{packed}

-- ---- a packed name is below 256 to the power of its length
abbrev pub Bytes : List ℕ → Type 0
Bytes l = (j : ℕ) → Fits w8 (get_or l j 0)

pub packed_small : (n : ℕ) (l : List ℕ) → Bytes l → length l ≤ n → packed l < 256 ^ n
unfolding packed
packed_small zero [] b h = omega arith
packed_small zero (x ∷ l) b h = absurd (omega arith)
packed_small (suc n) [] b h = omega (arith, packed_small n [] b (omega arith), pow-suc 256 n)
packed_small (suc n) (x ∷ l) b h = omega (arith, packed_small n l (λ j. b (suc j)) (omega arith), b 0, pow-suc 256 n)

-- ---- packing, from the last byte to the first
-- nothing is packed yet
pub pack_start : (w : List ℕ) → 0 ≡ packed (drop (length w) w)
unfolding packed
pack_start w = rw drop-length

module _ (w : List ℕ) (i v : ℕ) (e : v ≡ packed (drop i w)) where
  -- one more byte has room, and is put lowest
  pub pack_room : Bytes w → length w ≤ 8 → 0 < i → i ≤ length w → v < 72057594037927936
  pack_room b n h k = omega (arith, packed_small 7 (drop i w) (λ j. rw get_or-drop (b (i + j))) (omega (arith, length-drop i w)))

  pub pack_more : 0 < i → i ≤ length w → (b : ℕ) → b ≡ get_or w (i - 1) 0 → v * 256 + b ≡ packed (drop (i - 1) w)
  unfolding packed
  pack_more h k b f =
      let d = drop-cons w (i - 1) 0 (omega arith) in
      let n : suc (i - 1) ≡ i = omega arith in
      ap₂ (λ x y. x * 256 + y) e f ∙ sym (ap packed (d ∙ ap (λ x. get_or w (i - 1) 0 ∷ drop x w) n))

-- ---- the walk over a table of packed names
module _ (v first other : ℕ) (t : List ℕ) where
  pub number_start : number_in (eqb v) t (first + 0) other ≡ number_in (eqb v) t first other
  number_start = rw add-zero

  module _ (k n : ℕ) (w : number_in (eqb v) (drop k t) (first + k) other ≡ n) where
    -- the number stands at k, or it does not, or the table is over
    pub number_met : k < length t → v ≡ get_or t k 0 → first + k ≡ n
    unfolding number_in
    number_met h e = simp (eq-eqb v (get_or t k 0) e) at (rw (drop-cons t k 0 h) at w)

    pub number_more : k < length t → (v ≡ get_or t k 0 → ⊥) → number_in (eqb v) (drop (k + 1) t) (first + (k + 1)) other ≡ n
    unfolding number_in
    number_more h e = rw (add-one, add-suc) (simp (ne_eqb v (get_or t k 0) e) at (rw (drop-cons t k 0 h) at w))

    pub number_over : length t ≤ k → other ≡ n
    unfolding number_in
    number_over h = rw (past k t h) at w
