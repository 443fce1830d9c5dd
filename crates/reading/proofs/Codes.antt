-- What a reading answers stands in document 01's table: a reading ends with its text or with an ending, and what is refused has a code of its own.
-- Assumes nothing.
use Prim.Native.Nat.{ℕ, zero, suc, ◌+◌, ◌-◌, ◌<◌, ◌≤◌}
use mathlib.Core.Path.{◌≡◌, refl, sym, ap, subst}
use mathlib.Core.List.{List}
use mathlib.Core.Bool.{Bool}
use Rattle.std.specs.Prelude.{Ok, Err}
use mathlib.Core.Logic.{inl, inr, ⊎_elim}
use native.Mathlib.Omega.{arith}
use borrow.Author.Tests.{eqb-false}
use lib.ListN.{length}
use lib.Dec.{ltb, leb, eqb}
use Rattle.choice.proofs.Laws.{choose_keeps}
use Rattle.utf8.specs.Chars.{Checked, checked}
use Rattle.token.specs.Codes.{first_error_code}
use Rattle.token.proofs.Laws.{ending_told}
use Rattle.rounds.specs.Rounds.{State, Outcome, error, more, end, round, Reading, prefixed, follow, raw_reading, listed_reading, view}
use Rattle.rounds.proofs.Fuel.{Fwd, round_fwd, reading_round}
use Rattle.records.specs.Limits.{most_bytes, places}
use Rattle.records.specs.Records.{room}
use Rattle.answers.specs.declared.Answer.{Answer}
use Rattle.answers.specs.Answers.{too_long, unknown_mode, ill_formed, no_room, in_room}
use Rattle.answers.specs.Codes.{InTable}
use Rattle.answers.proofs.Laws.{refusal_in_table, ill_formed_in_table, no_room_in_table, more_in_table}
use Rattle.reading.specs.Modes.{last_mode}
use Rattle.reading.specs.Answers.{Plan, answer_with_room, plan_measure, bytes_refusal, text_refusal, unless, read_plan, read_answer, measure_answer}
use Rattle.reading.proofs.Calls.{text_start_within}
use Rattle.reading.proofs.Measures.{measured}
use Rattle.reading.proofs.Refusals.{view_told}

module _ (t : List ℕ) where
  -- a reading with code 0 ends where the text does
  abbrev ToEnd : Reading → Type 0
  ToEnd r = r.code ≡ 0 → r.place ≡ length t

  to_end : (n : ℕ) (s : State) → s.at ≤ length t → length t - s.at < n → ToEnd (raw_reading t s)
  unfolding follow prefixed
  to_end zero s h l = absurd (omega arith)
  to_end (suc n) s h l = subst ToEnd (sym (reading_round t s h)) (on (round t s) (round_fwd t s h) (to_end n))
    where
      on : (o : Outcome) → Fwd s.at (length t) o → ((x : State) → x.at ≤ length t → length t - x.at < n → ToEnd (raw_reading t x)) → ToEnd (follow o (raw_reading t))
      on (error w p) f ih z = absurd (omega (arith, (ending_told w).0.0))
      on (more rs x) f ih z = ih x f.1 (omega arith) z
      on (end rs p) f ih z = f

  -- so a reading that has room stands in the table, behind any records and with its notes or without
  pub ending_in_table : (start n last : ℕ) (full : Bool) (s : State) → last < first_error_code → s.at ≤ length t → InTable last (start + length t) (answer_with_room start n (view full t s))
  unfolding view listed_reading
  ending_in_table start n last full s k h =
      let e = view_told full t s in
      record {
        code = ⊎_elim (λ z. inl (omega arith)) (λ z. inr z) e.code;
        read = λ z. ap (λ (p : ℕ). start + p) (to_end (suc (length t)) s h (omega arith) z);
        detail = λ z _. e.detail z;
        fault = λ z. absurd (⊎_elim (λ y. omega arith) (λ y. omega arith) e.code);
        count = λ z. absurd (⊎_elim (λ y. omega arith) (λ y. omega arith) e.code);
        place = λ z. absurd (⊎_elim (λ y. omega arith) (λ y. omega arith) e.code);
      }

  -- and where it may have none
  pub room_in_table : (last to : ℕ) (row : List ℕ) (r : Answer) → no_room ≤ last → InTable last to r → InTable last to (in_room row r)
  room_in_table last to row r h i = choose_keeps (InTable last to) (ltb (room row) r.count) (λ _. no_room_in_table last to r.count h) (λ _. i)

  -- codes 1 to 3; code 0 refuses nothing
  pub text_refusal_in_table : (mode start last to : ℕ) → ill_formed ≤ last → ((text_refusal t mode start).code ≡ 0 → ⊥) → InTable last to (text_refusal t mode start)
  unfolding text_refusal bytes_refusal
  text_refusal_in_table mode start last to h =
      choose_keeps P (ltb most_bytes (length t)) (λ _ _. refusal_in_table last to too_long (omega arith) (omega arith) (λ z. omega arith))
      (λ _. choose_keeps P (leb places (start + length t)) (λ _ _. refusal_in_table last to too_long (omega arith) (omega arith) (λ z. omega arith))
      (λ _. choose_keeps P (ltb last_mode mode) (λ _ _. refusal_in_table last to unknown_mode (omega arith) (omega arith) (λ z. omega arith))
      (λ _. bytes (checked t))))
    where
      P : Answer → Type 0
      P x = (x.code ≡ 0 → ⊥) → InTable last to x

      bytes : (c : Checked) → P (bytes_refusal start c)
      bytes (Ok u) z = absurd (z refl)
      bytes (Err e) z = ill_formed_in_table last to (start + e.at) e.fault h

  module _ (mode start : ℕ) where
    -- a measure answers 0, 1 to 3, or an error's code
    pub measure_in_table : InTable ill_formed (start + length t) (measure_answer t mode start)
    unfolding measure_answer plan_measure read_plan unless
    measure_in_table =
        choose_keeps (λ (p : Plan). InTable ill_formed (start + length t) (plan_measure t start p)) (eqb (text_refusal t mode start).code 0)
        (λ _. ending_in_table start 0 ill_formed _ _ (omega arith) (text_start_within t))
        (λ e. text_refusal_in_table mode start ill_formed _ (omega arith) (eqb-false _ _ e))

    -- a reading code 4 besides
    pub read_in_table : (row : List ℕ) → InTable no_room (start + length t) (read_answer t mode start row)
    read_in_table row =
        subst (InTable no_room (start + length t)) (sym (measured t mode start row))
        (room_in_table no_room _ row _ (omega arith) (more_in_table ill_formed _ no_room _ (omega arith) (omega arith) measure_in_table))
