-- The records of a row, taken one by one.
-- Assumes nothing.
use Prim.Native.Nat.{ℕ, zero, suc, ◌+◌, ◌-◌, ◌<◌, ◌≤◌}
use mathlib.Core.Path.{◌≡◌, refl, ap}
use mathlib.Core.List.{List, [], ◌∷◌}
use native.Mathlib.Omega.{arith}
use native.Mathlib.Nat.{add-zero}
use native.Mathlib.Numerals.{sub-one}
use lib.ListN.{length, take}
use Rattle.token.specs.declared.Record.{Record}
use Rattle.records.specs.Records.{rec_at, recs_in}

-- n records from i on: the first of them, and the others
pub recs_first : (row : List ℕ) (i n : ℕ) → 0 < n → recs_in row i n ≡ rec_at row i ∷ recs_in row (i + 1) (n - 1)
unfolding recs_in
recs_first row i zero h = absurd (omega arith)
recs_first row i (suc n) h = rw sub-one

-- what is left from the record i on
module _ (row : List ℕ) (i n : ℕ) where
  -- record i, and what is left after it
  pub recs_step : i < n → recs_in row i (n - i) ≡ rec_at row i ∷ recs_in row (i + 1) (n - (i + 1))
  recs_step h = let e : n - i - 1 ≡ n - (i + 1) = omega arith in rw (recs_first row i (n - i) (omega arith), e)

  -- nothing
  pub recs_none : n ≤ i → recs_in row i (n - i) ≡ []
  unfolding recs_in
  recs_none h = let e : n - i ≡ 0 = omega arith in rw e

pub length_recs : (row : List ℕ) (i n : ℕ) → length (recs_in row i n) ≡ n
unfolding recs_in
length_recs row i zero = refl
length_recs row i (suc n) = ap suc (length_recs row (i + 1) n)

-- the first of them
pub recs_take : (row : List ℕ) (i k n : ℕ) → k ≤ n → recs_in row i k ≡ take k (recs_in row i n)
unfolding recs_in
recs_take row i zero n h = refl
recs_take row i (suc k) zero h = absurd (omega arith)
recs_take row i (suc k) (suc n) h = ap (λ (l : List Record). rec_at row i ∷ l) (recs_take row (i + 1) k n (omega arith))

-- rows with the same records have the same record at each index
pub recs_at : (x y : List ℕ) (n i j : ℕ) → recs_in x i n ≡ recs_in y i n → j < n → rec_at x (i + j) ≡ rec_at y (i + j)
unfolding recs_in
recs_at x y zero i j e h = absurd (omega arith)
recs_at x y (suc n) i zero e h = rw add-zero cc
recs_at x y (suc n) i (suc j) e h =
    let f : recs_in x (i + 1) n ≡ recs_in y (i + 1) n = cc in
    let k : i + suc j ≡ i + 1 + j = omega arith in
    rw k (recs_at x y n (i + 1) j f (omega arith))
