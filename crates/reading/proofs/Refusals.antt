-- How a reading ends, and that codes 1 to 6 write nothing: one that writes ends with code 0, or with an ending's.
-- Assumes nothing.
use Prim.Native.Nat.{ℕ, zero, suc, ◌<◌, ◌≤◌}
use mathlib.Core.Path.{◌≡◌, refl}
use mathlib.Core.List.{List}
use mathlib.Core.Bool.{Bool, true, false}
use mathlib.Core.Logic.{◌⊎◌, inl, inr, ⊎_elim}
use native.Mathlib.Omega.{arith}
use lib.Dec.{ltb}
use Rattle.records.specs.Records.{room}
use Rattle.choice.specs.Choice.{choose}
use Rattle.token.specs.Codes.{first_error_code, IsErrorCode, unrecognized}
use Rattle.token.proofs.Laws.{ending_told}
use Rattle.rounds.specs.Rounds.{State, state, Outcome, error, more, end, round, Reading, prefixed, follow, raw_rounds, raw_reading, listed_reading, view}
use Rattle.answers.specs.declared.Answer.{Answer}
use Rattle.reading.specs.Answers.{Plan, refuse, go, answered, written, plan_answer, plan_row}

-- a reading's code is 0 or an ending's, and its detail is 0 but for 26
pub record Told (r : Reading) : Type 0 where
  pub code : (r.code ≡ 0) ⊎ IsErrorCode r.code
  pub detail : (r.code ≡ unrecognized → ⊥) → r.detail ≡ 0

raw_told : (t : List ℕ) (k : ℕ) (s : State) → Told (raw_rounds t k s)
unfolding raw_rounds follow prefixed
raw_told t zero s = record { code = inl refl; detail = λ _. refl }
raw_told t (suc k) s = on (round t s) (raw_told t k)
  where
    on : (o : Outcome) → ((x : State) → Told (raw_rounds t k x)) → Told (follow o (raw_rounds t k))
    on (error w p) ih = let e = ending_told w in record { code = inr e.0; detail = e.1 }
    on (more rs x) ih = record { code = (ih x).code; detail = (ih x).detail }
    on (end rs p) ih = record { code = inl refl; detail = λ _. refl }

pub view_told : (full : Bool) (t : List ℕ) (s : State) → Told (view full t s)
unfolding view listed_reading raw_reading
view_told full t s = let e = raw_told t _ s in record { code = e.code; detail = e.detail }

-- so no code lies between
pub view_high : (full : Bool) (t : List ℕ) (s : State) → 0 < (view full t s).code → first_error_code ≤ (view full t s).code
view_high full t s h = ⊎_elim (λ z. absurd (omega arith)) (λ z. z.0) (view_told full t s).code

-- a choice that answers such a code took the first side
took : (b : Bool) (x y : Answer) (u v : List ℕ) → (0 < y.code → first_error_code ≤ y.code) → 0 < (choose b (λ _. x) (λ _. y)).code → (choose b (λ _. x) (λ _. y)).code < first_error_code
    → choose b (λ _. u) (λ _. v) ≡ u
took true x y u v k h l = refl
took false x y u v k h l = absurd (omega (arith, k h))

-- a plan that answers a code below the errors' leaves the row as it was
pub refused_same : (t : List ℕ) (start : ℕ) (row : List ℕ) (p : Plan) → 0 < (plan_answer t start row p).code → (plan_answer t start row p).code < first_error_code → plan_row t start row p ≡ row
unfolding plan_answer plan_row answered written
refused_same t start row (refuse a) h l = refl
refused_same t start row (go n at full line ls) h l = took (ltb (room row) _) _ _ row _ (view_high full t (state at true 0 ls)) h l
