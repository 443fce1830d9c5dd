-- Two lists of ranges: a test that one lies within the other, a test that they have nothing in common, and what the tests say.
-- Assumes nothing.
use mathlib.Core.Bool.{Bool, true, false}
use mathlib.Core.List.{List, [], ◌∷◌}
use mathlib.Core.Logic.{◌⊎◌, inl, inr, ⊎_elim}
use mathlib.Core.Path.{◌≡◌, refl, sym}
use Prim.Native.Nat.{ℕ, ◌≤◌}
use native.Mathlib.Omega.{arith}
use lib.Dec.{leb}
use borrow.Author.Tests.{leb-true, le-leb}
use Rattle.choice.specs.Choice.{choose, both}
use Rattle.choice.proofs.Laws.{choose_keeps, both_left, both_right, true_is_not_false}
use Rattle.classes.specs.Ranges.{in_ranges}

-- ---- the tests

-- nothing is left
unfoldable pub is_empty : List ℕ → Bool
is_empty [] = true
is_empty (x ∷ s) = false

-- the leading ranges that lie between two characters are taken off
unfoldable pub trim : ℕ → ℕ → List ℕ → List ℕ
trim l h [] = []
trim l h (low ∷ []) = low ∷ []
trim l h (low ∷ high ∷ rest) = choose (both (leb l low) (leb high h)) (λ _. trim l h rest) (λ _. low ∷ high ∷ rest)

-- each range of the first list lies within one of the second
unfoldable pub covered : List ℕ → List ℕ → Bool
covered s [] = is_empty s
covered s (l ∷ []) = is_empty s
covered s (l ∷ h ∷ t) = covered (trim l h s) t

-- ---- what they say

empty : (s : List ℕ) → is_empty s ≡ true → s ≡ []
unfolding is_empty
empty [] e = refl
empty (x ∷ s) e = absurd (true_is_not_false (sym e))

nowhere : (c : ℕ) → in_ranges [] c ≡ true → ⊥
unfolding in_ranges
nowhere c i = true_is_not_false (sym i)

-- a choice of true is true, or its other side is
one_of : (b x : Bool) → choose b (λ _. true) (λ _. x) ≡ true → (b ≡ true) ⊎ (x ≡ true)
one_of true x e = inl refl
one_of false x e = inr e

-- c is in the first range or in a later one
first_or_later : (low high : ℕ) (rest : List ℕ) (c : ℕ) → in_ranges (low ∷ high ∷ rest) c ≡ true →
    (both (leb low c) (leb c high) ≡ true) ⊎ (in_ranges rest c ≡ true)
unfolding in_ranges
first_or_later low high rest c i = one_of (both (leb low c) (leb c high)) (in_ranges rest c) i

-- where c is, if a range holds it
module _ (low high c : ℕ) (i : both (leb low c) (leb c high) ≡ true) where
  from_low : low ≤ c
  from_low = leb-true low c (both_left (leb low c) (leb c high) i)

  to_high : c ≤ high
  to_high = leb-true c high (both_right (leb low c) (leb c high) i)

-- what a range holds, a wider one holds
wider : (l h low high c : ℕ) → both (leb l low) (leb high h) ≡ true → both (leb low c) (leb c high) ≡ true → both (leb l c) (leb c h) ≡ true
wider l h low high c e f =
    let a = leb-true l low (both_left (leb l low) (leb high h) e) in
    let b = leb-true high h (both_right (leb l low) (leb high h) e) in
    let p = from_low low high c f in
    let q = to_high low high c f in
    rw (le-leb l c (omega arith), le-leb c h (omega arith))

-- what is taken off lay between the two characters
trimmed : (l h : ℕ) (s : List ℕ) (c : ℕ) → in_ranges s c ≡ true → (both (leb l c) (leb c h) ≡ true) ⊎ (in_ranges (trim l h s) c ≡ true)
unfolding trim
trimmed l h [] c i = inr i
trimmed l h (low ∷ []) c i = inr i
trimmed l h (low ∷ high ∷ rest) c i =
    choose_keeps (λ (s : List ℕ). (both (leb l c) (leb c h) ≡ true) ⊎ (in_ranges s c ≡ true)) (both (leb l low) (leb high h))
    (λ e. ⊎_elim (λ f. inl (wider l h low high c e f)) (trimmed l h rest c) (first_or_later low high rest c i))
    (λ _. inr i)

-- a later range that holds c is enough
later : (b x : Bool) → x ≡ true → choose b (λ _. true) (λ _. x) ≡ true
later true x e = refl
later false x e = e

-- what is in the first list is in the second
pub covers : (s t : List ℕ) (c : ℕ) → covered s t ≡ true → in_ranges s c ≡ true → in_ranges t c ≡ true
unfolding covered in_ranges
covers s [] c e i = absurd (nowhere c (rw (empty s e) at i))
covers s (l ∷ []) c e i = absurd (nowhere c (rw (empty s e) at i))
covers s (l ∷ h ∷ t) c e i =
    ⊎_elim
    (λ f. rw f)
    (λ f. later (both (leb l c) (leb c h)) (in_ranges t c) (covers (trim l h s) t c e f))
    (trimmed l h s c i)
