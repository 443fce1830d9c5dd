-- What an answer's numbers tell, and what stands in document 01's table.
-- Assumes nothing.
use Prim.Native.Nat.{ℕ, ◌<◌, ◌≤◌}
use mathlib.Core.Path.{◌≡◌, refl, ap}
use mathlib.Core.Logic.{⊎_elim, inl, inr}
use native.Mathlib.Omega.{arith}
use Rattle.utf8.specs.declared.Fault.{Fault}
use Rattle.token.specs.Codes.{first_error_code}
use Rattle.answers.specs.declared.Answer.{Answer}
use Rattle.answers.specs.declared.Refusal.{Refusal}
use Rattle.answers.specs.declared.Refusal.TheVariants.{TooLong, UnknownMode, IllFormed, NoRoom, WrongEdit, Unsound}
use Rattle.answers.specs.Answers.{numbers_of, answer_in, answer_of, refusal, ill_formed, ill_formed_at, no_room, no_room_for}
use Rattle.answers.specs.Codes.{InTable}

-- numbers tell their answer
pub numbers_tell : (r : Answer) → answer_in (numbers_of r) ≡ r
numbers_tell r = refl

-- so answers with the same numbers are one
pub numbers_same : (r s : Answer) → numbers_of r ≡ numbers_of s → r ≡ s
numbers_same r s e = ap answer_in e

-- no refusal's code is 0
pub refuses : (r : Refusal) (x : Answer) → x ≡ answer_of r → x.code ≡ 0 → ⊥
refuses TooLong x e z = omega (arith, ap (λ (y : Answer). y.code) e)
refuses UnknownMode x e z = omega (arith, ap (λ (y : Answer). y.code) e)
refuses (IllFormed p f) x e z = omega (arith, ap (λ (y : Answer). y.code) e)
refuses (NoRoom n) x e z = omega (arith, ap (λ (y : Answer). y.code) e)
refuses WrongEdit x e z = omega (arith, ap (λ (y : Answer). y.code) e)
refuses Unsound x e z = omega (arith, ap (λ (y : Answer). y.code) e)

module _ (last end : ℕ) where
  -- a refusal that says no more than its code
  pub refusal_in_table : (c : ℕ) → 0 < c → c ≤ last → (c ≡ ill_formed → ⊥) → InTable last end (refusal c)
  refusal_in_table c h l n = record { code = inl l; read = λ e. absurd (omega arith); detail = λ _ _. refl; fault = λ e. absurd (n e); count = λ _ _. refl; place = λ _ _. refl }

  -- code 3 with its place and fault
  pub ill_formed_in_table : (p : ℕ) (f : Fault) → ill_formed ≤ last → InTable last end (ill_formed_at p f)
  ill_formed_in_table p f l = record { code = inl l; read = λ e. absurd (omega arith); detail = λ _ n. absurd (n refl); fault = λ _. record { fault = f; number = refl }; count = λ _ _. refl; place = λ _ n. absurd (n refl) }

  -- code 4 with its count
  pub no_room_in_table : (n : ℕ) → no_room ≤ last → InTable last end (no_room_for n)
  no_room_in_table n l = record { code = inl l; read = λ e. absurd (omega arith); detail = λ _ _. refl; fault = λ e. absurd (omega arith); count = λ _ n. absurd (n refl); place = λ _ _. refl }

  -- more refusals; no code lies between the last refusal and the first error
  pub more_in_table : (last' : ℕ) (r : Answer) → last ≤ last' → last' < first_error_code → InTable last end r → InTable last' end r
  more_in_table last' r l h t = record {
    code = ⊎_elim (λ z. inl (omega arith)) (λ z. inr z) t.code;
    read = t.read;
    detail = t.detail;
    fault = t.fault;
    count = λ z. t.count (low z);
    place = λ z. t.place (low z);
  }
    where
      low : (0 < r.code) × (r.code ≤ last') → (0 < r.code) × (r.code ≤ last)
      low z = (z.0, ⊎_elim (λ y. y) (λ y. absurd (omega arith)) t.code)
