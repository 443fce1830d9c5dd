-- Code 3 tells the fault that the text has, in a reading and in a measure: past the refusals the text is well formed, and has none.
-- Assumes nothing.
use Prim.Native.Nat.{ℕ, ◌+◌}
use mathlib.Core.Path.{◌≡◌, refl, ◌∙◌, ap}
use mathlib.Core.List.{List}
use mathlib.Core.Bool.{Bool}
use Rattle.std.specs.Prelude.{Ok, Err}
use mathlib.Core.Logic.{inl, inr, ⊎_elim}
use native.Mathlib.Omega.{arith}
use borrow.Author.Tests.{eqb-true}
use lib.ListN.{length}
use lib.Dec.{ltb, leb, eqb}
use Rattle.choice.proofs.Laws.{choose_keeps}
use Rattle.utf8.specs.Chars.{Checked, checked}
use Rattle.utf8.specs.Faults.{Bytes, IsWellFormed}
use Rattle.utf8.proofs.Told.{told}
use Rattle.utf8.proofs.Shown.{fault_in, fault_one, none_in, told_well}
use Rattle.rounds.specs.Rounds.{State, view}
use Rattle.records.specs.Limits.{most_bytes, places}
use Rattle.records.specs.Records.{room}
use Rattle.answers.specs.declared.Answer.{Answer}
use Rattle.answers.specs.Answers.{ill_formed, ill_formed_at}
use Rattle.answers.specs.Codes.{FaultTold}
use Rattle.reading.specs.Modes.{last_mode}
use Rattle.reading.specs.Answers.{Plan, answered, plan_answer, plan_measure, bytes_refusal, text_refusal, unless, read_plan, read_answer, measure_answer}
use Rattle.reading.proofs.Refusals.{view_told}

module _ (t : List ℕ) (bytes : Bytes t) where
  -- a text that is not refused is well formed
  pub text_well : (mode start : ℕ) → (text_refusal t mode start).code ≡ 0 → IsWellFormed t
  unfolding text_refusal bytes_refusal
  text_well mode start =
      choose_keeps P (ltb most_bytes (length t)) (λ _ z. absurd (omega arith))
      (λ _. choose_keeps P (leb places (start + length t)) (λ _ z. absurd (omega arith))
      (λ _. choose_keeps P (ltb last_mode mode) (λ _ z. absurd (omega arith))
      (λ _. bytes_well (checked t) refl)))
    where
      P : Answer → Type 0
      P x = x.code ≡ 0 → IsWellFormed t

      bytes_well : (c : Checked) → checked t ≡ c → P (bytes_refusal start c)
      bytes_well (Ok u) e z = told_well t bytes e
      bytes_well (Err x) e z = absurd (omega arith)

  module _ (start : ℕ) where
    -- any answer but code 3 is right for one that is
    pub none_told : (r : Answer) → IsWellFormed t → (r.code ≡ ill_formed → ⊥) → FaultTold t start r
    none_told r w n = record { told = λ z. absurd (n z); given = λ p f x. absurd (none_in t w p f x) }

    -- the refusal
    pub text_told : (mode : ℕ) → FaultTold t start (text_refusal t mode start)
    unfolding text_refusal bytes_refusal
    text_told mode =
        choose_keeps (FaultTold t start) (ltb most_bytes (length t)) (λ _. record { told = λ z. absurd (omega arith); given = λ _ _ _. inl refl })
        (λ _. choose_keeps (FaultTold t start) (leb places (start + length t)) (λ _. record { told = λ z. absurd (omega arith); given = λ _ _ _. inl refl })
        (λ _. choose_keeps (FaultTold t start) (ltb last_mode mode) (λ _. record { told = λ z. absurd (omega arith); given = λ _ _ _. inr (inl refl) })
        (λ _. by (checked t) refl)))
      where
        by : (c : Checked) → checked t ≡ c → FaultTold t start (bytes_refusal start c)
        by (Ok u) e = none_told _ (told_well t bytes e) (λ z. omega arith)
        by (Err w) e =
            let x = fault_in t w.at w.fault (told t w.at w.fault e) bytes in
            record {
              told = λ _. record { faulty = record { place = w.at; fault = w.fault; has = x }; same = refl };
              given = λ q g y. let o = fault_one t w.at q w.fault g x y in inr (inr (ap (λ n. ill_formed_at (start + n) w.fault) o.0 ∙ ap (ill_formed_at (start + q)) o.1));
            }

    -- a reading's own answer is another
    view_other : (full : Bool) (s : State) → (view full t s).code ≡ ill_formed → ⊥
    view_other full s z = ⊎_elim (λ y. omega arith) (λ y. omega arith) (view_told full t s).code

    pub read_on_other : (row : List ℕ) (n : ℕ) (full : Bool) (s : State) → (answered t start row n (view full t s)).code ≡ ill_formed → ⊥
    unfolding answered
    read_on_other row n full s = choose_keeps (λ (x : Answer). x.code ≡ ill_formed → ⊥) (ltb (room row) _) (λ _ z. omega arith) (λ _. view_other full s)

    module _ (mode : ℕ) where
      pub measure_told : FaultTold t start (measure_answer t mode start)
      unfolding measure_answer plan_measure read_plan unless
      measure_told =
          choose_keeps (λ (p : Plan). FaultTold t start (plan_measure t start p)) (eqb (text_refusal t mode start).code 0)
          (λ e. none_told _ (text_well mode start (eqb-true _ _ e)) (view_other _ _)) (λ _. text_told mode)

      pub read_told : (row : List ℕ) → FaultTold t start (read_answer t mode start row)
      unfolding read_answer plan_answer read_plan unless
      read_told row =
          choose_keeps (λ (p : Plan). FaultTold t start (plan_answer t start row p)) (eqb (text_refusal t mode start).code 0)
          (λ e. none_told _ (text_well mode start (eqb-true _ _ e)) (read_on_other row _ _ _)) (λ _. text_told mode)
