-- The cut: the records are taken from the last one back, and the first cut met is the last.
-- Assumes nothing.
use Prim.Native.Nat.{ℕ, zero, suc, ◌+◌, ◌-◌, ◌<◌, ◌≤◌}
use mathlib.Core.Path.{◌≡◌, refl, sym, ◌∙◌}
use mathlib.Core.List.{List}
use Rattle.std.specs.Prelude.{None, Some}
use mathlib.Core.Bool.{Bool, true, false}
use mathlib.Core.Logic.{⊎_elim}
use native.Mathlib.Omega.{arith}
use native.Mathlib.Nat.{add-zero, zero-add, eq-or-lt_of_le}
use borrow.Author.Tests.{eq-eqb, lt-ltb, ltb-true}
use lib.Dec.{eqb}
use Rattle.choice.specs.Choice.{choose}
use Rattle.choice.proofs.Laws.{choose_keeps, both_right}
use Rattle.token.specs.Kinds as K
use Rattle.records.specs.Records.{rec_at, recs_in}
use Rattle.rereading.specs.Rereads.{is_cut, or_cut, kept_up_to}
use Rattle.rereading.specs.Promises.{CutOf}

module _ (row : List ℕ) (a : ℕ) where
  -- the last of some records decides, if it is a cut
  kept_from : (k i : ℕ) → kept_up_to a (recs_in row i (suc k)) ≡ choose (is_cut a (rec_at row (i + k))) (λ _. suc k) (λ _. kept_up_to a (recs_in row i k))
  unfolding kept_up_to recs_in
  kept_from zero i = rw add-zero (none (is_cut a (rec_at row i)))
    where
      none : (b : Bool) → or_cut b 0 ≡ choose b (λ _. 1) (λ _. 0)
      none true = refl
      none false = refl
  kept_from (suc k) i =
      let e : i + 1 + k ≡ i + suc k = omega arith in
      rw (kept_from k (i + 1), e) (on (is_cut a (rec_at row (i + suc k))))
    where
      on : (b : Bool) → or_cut (is_cut a (rec_at row i)) (choose b (λ _. suc k) (λ _. kept_up_to a (recs_in row (i + 1) k)))
          ≡ choose b (λ _. suc (suc k)) (λ _. or_cut (is_cut a (rec_at row i)) (kept_up_to a (recs_in row (i + 1) k)))
      on true = refl
      on false = refl

  -- the same from the first record on, k being above 0
  pub kept_last : (k : ℕ) → 0 < k → kept_up_to a (recs_in row 0 k) ≡ choose (is_cut a (rec_at row (k - 1))) (λ _. k) (λ _. kept_up_to a (recs_in row 0 (k - 1)))
  kept_last zero h = absurd (omega arith)
  kept_last (suc k) h = let e : suc k - 1 ≡ k = omega arith in rw (e, kept_from k 0, zero-add)

  -- the cut is among the records, and ends below a
  pub record Cut (n k : ℕ) : Type 0 where
    pub few : k ≤ n
    pub low : 0 < k → (rec_at row (k - 1)).end < a

  -- what is kept ends with such a cut
  pub cut_low : (n : ℕ) → Cut n (kept_up_to a (recs_in row 0 n))
  unfolding kept_up_to recs_in is_cut
  cut_low zero = record { few = omega arith; low = λ h. absurd (omega arith) }
  cut_low (suc n) =
      let e : suc n - 1 ≡ n = omega arith in
      let c = cut_low n in
      rw (kept_last (suc n) (omega arith), e)
      (choose_keeps (Cut (suc n)) (is_cut a (rec_at row n))
      (λ z. record { few = omega arith; low = λ _. rw e (ltb-true _ _ (both_right (eqb (rec_at row n).kind K.newline) _ z)) })
      (λ _. record { few = omega (arith, c.few); low = c.low }))

  -- every counted Newline that ends below a is kept
  pub kept_above : (n i : ℕ) → i < n → (rec_at row i).kind ≡ K.newline → (rec_at row i).end < a → i < kept_up_to a (recs_in row 0 n)
  unfolding is_cut
  kept_above zero i h k l = absurd (omega arith)
  kept_above (suc n) i h k l =
      let e : suc n - 1 ≡ n = omega arith in
      let m : i ≤ n = omega arith in
      rw (kept_last (suc n) (omega arith), e)
      (⊎_elim (λ (q : i ≡ n). let z : is_cut a (rec_at row n) ≡ true = rw (← q, eq-eqb _ _ k, lt-ltb _ _ l) in rw z (omega arith))
      (λ (q : i < n). choose_keeps (λ (x : ℕ). i < x) (is_cut a (rec_at row n)) (λ _. omega arith) (λ _. kept_above n i q k l)) (eq-or-lt_of_le m))

  -- the records from j on are no cut: what is kept of those before is what is kept of all
  module _ (n j : ℕ) (h : j < n) (inv : kept_up_to a (recs_in row 0 (j + 1)) ≡ kept_up_to a (recs_in row 0 n)) where
    last : kept_up_to a (recs_in row 0 n) ≡ choose (is_cut a (rec_at row j)) (λ _. j + 1) (λ _. kept_up_to a (recs_in row 0 j))
    last = let e : j + 1 - 1 ≡ j = omega arith in sym inv ∙ rw e at (kept_last (j + 1) (omega arith))

    -- the record at j is the cut
    pub cut_found : is_cut a (rec_at row j) ≡ true → CutOf row a n (Some j)
    unfolding is_cut
    cut_found w =
        let e : j + 1 - 1 ≡ j = omega arith in
        record { kept = sym (rw w at last); few = omega arith; low = λ _. rw e (ltb-true _ _ (both_right (eqb (rec_at row j).kind K.newline) _ w)) }

    -- it is none
    pub cut_on : is_cut a (rec_at row j) ≡ false → kept_up_to a (recs_in row 0 j) ≡ kept_up_to a (recs_in row 0 n)
    cut_on w = sym (rw w at last)

  -- none of them is one
  pub cut_none : (n : ℕ) → kept_up_to a (recs_in row 0 0) ≡ kept_up_to a (recs_in row 0 n) → CutOf row a n None
  unfolding kept_up_to recs_in
  cut_none n inv = record { kept = inv; few = omega arith; low = λ h. absurd (omega arith) }
