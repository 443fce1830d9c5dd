-- What a search for the first range that does not end below a character finds: the one range that may hold it.
-- Assumes nothing.
use mathlib.Core.Bool.{Bool, true, false}
use mathlib.Core.List.{List, [], ◌∷◌}
use mathlib.Core.Path.{◌≡◌, refl}
use Prim.Native.Nat.{ℕ, zero, suc, ◌≤◌, ◌<◌}
use native.Mathlib.Omega.{arith}
use native.Mathlib.Decide.{dec_lt}
use lib.Dec.{leb, ltb}
use lib.ListN.{length, get_or}
use borrow.Author.Tests.{le-leb, lt-leb, lt-ltb, ltb-true, ltb-false}
use Rattle.std.specs.List.Sorted.{IsPartitionedBy, IsPartitionPoint}
use Rattle.classes.specs.Ranges.{in_ranges}
use Rattle.classes.specs.Promises.{ordered, flat}
use Rattle.classes.proofs.Ranges.{ends_below, begins_above, begins, ends, others}

-- no range begins below `from`, and none is empty
floor : (from : ℕ) (t : List (ℕ × ℕ)) → ordered from (flat t) ≡ true → (k : ℕ) (d : ℕ × ℕ) → k < length t → (from ≤ (get_or t k d).0) × ((get_or t k d).0 ≤ (get_or t k d).1)
unfolding flat
floor from [] o k d h = absurd (omega arith)
floor from ((low, high) ∷ rest) o zero d h = (begins from low high (flat rest) o, ends from low high (flat rest) o)
floor from ((low, high) ∷ rest) o (suc k) d h =
    let f = floor (suc high) rest (others from low high (flat rest) o) k d (omega arith) in
    (omega (arith, begins from low high (flat rest) o, ends from low high (flat rest) o, f.0), f.1)

-- a later range does not end before an earlier one
rise : (from : ℕ) (t : List (ℕ × ℕ)) → ordered from (flat t) ≡ true → (i j : ℕ) (d : ℕ × ℕ) → i ≤ j → j < length t → (get_or t i d).1 ≤ (get_or t j d).1
unfolding flat
rise from [] o i j d l h = absurd (omega arith)
rise from ((low, high) ∷ rest) o zero zero d l h = omega arith
rise from ((low, high) ∷ rest) o zero (suc j) d l h =
    let f = floor (suc high) rest (others from low high (flat rest) o) j d (omega arith) in
    omega (arith, f.0, f.1)
rise from ((low, high) ∷ rest) o (suc i) zero d l h = absurd (omega arith)
rise from ((low, high) ∷ rest) o (suc i) (suc j) d l h = rise (suc high) rest (others from low high (flat rest) o) i j d (omega arith) (omega arith)

-- below `from` there is nothing
nothing : (from : ℕ) (t : List (ℕ × ℕ)) (c : ℕ) → ordered from (flat t) ≡ true → c < from → in_ranges (flat t) c ≡ false
unfolding flat in_ranges
nothing from [] c o h = refl
nothing from ((low, high) ∷ rest) c o h =
    let a = begins from low high (flat rest) o in
    let b = ends from low high (flat rest) o in
    rw (begins_above low high c (omega arith)) (nothing (suc high) rest c (others from low high (flat rest) o) (omega arith))

-- all ranges end below c
past : (t : List (ℕ × ℕ)) (c : ℕ) (d : ℕ × ℕ) → ((i : ℕ) → i < length t → (get_or t i d).1 < c) → in_ranges (flat t) c ≡ false
unfolding flat in_ranges
past [] c d f = refl
past ((low, high) ∷ rest) c d f = rw (ends_below low high c (f 0 (omega arith))) (past rest c d (λ i h. f (suc i) (omega arith)))

-- those before range k do, and it does not
here : (from : ℕ) (t : List (ℕ × ℕ)) → ordered from (flat t) ≡ true → (c k : ℕ) (d : ℕ × ℕ) → k < length t → ((i : ℕ) → i < k → (get_or t i d).1 < c)
    → c ≤ (get_or t k d).1 → in_ranges (flat t) c ≡ leb (get_or t k d).0 c
unfolding flat in_ranges
here from [] o c k d h f e = absurd (omega arith)
here from ((low, high) ∷ rest) o c zero d h f e = go (dec_lt c low)
  where
    go : Dec (c < low) → in_ranges (low ∷ high ∷ flat rest) c ≡ leb low c
    go (yes l) =
        let b = ends from low high (flat rest) o in
        rw (begins_above low high c l, lt-leb low c l) (nothing (suc high) rest c (others from low high (flat rest) o) (omega arith))
    go (no l) = rw (le-leb low c (omega arith), le-leb c high e) refl
here from ((low, high) ∷ rest) o c (suc k) d h f e =
    rw (ends_below low high c (f 0 (omega arith))) (here (suc high) rest (others from low high (flat rest) o) c k d (omega arith) (λ i l. f (suc i) (omega arith)) e)

-- ---- by what `partition_point` asks and tells
module _ (t : List (ℕ × ℕ)) (o : ordered 0 (flat t) ≡ true) (c : ℕ) where
  -- the test: a range ends below c
  abbrev below : ℕ × ℕ → Bool
  below r = ltb r.1 c

  pub rises : IsPartitionedBy below t
  rises i j d l h e = let r = rise 0 t o i j d l h in lt-ltb (get_or t i d).1 c (omega (arith, ltb-true (get_or t j d).1 c e))

  module _ (k : ℕ) (p : IsPartitionPoint (λ r. below r ≡ true) (λ r. below r ≡ false) t k) where
    pub found : k < length t → in_ranges (flat t) c ≡ leb (get_or t k (0, 0)).0 c
    found h = here 0 t o c k (0, 0) h (λ i l. ltb-true _ c (p.0 i (0, 0) (omega arith) l)) (ltb-false _ c (p.1 k (0, 0) (omega arith) h))

    pub found_none : length t ≤ k → in_ranges (flat t) c ≡ false
    found_none h = past t c (0, 0) (λ i l. ltb-true _ c (p.0 i (0, 0) (omega arith) (omega arith)))
