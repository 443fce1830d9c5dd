-- Measuring answers as a reading with room enough: a reading's answer is the measure's, or code 4 with its count; and a measure is never code 4.
-- Assumes nothing.
use Prim.Native.Nat.{ℕ, ◌+◌, ◌<◌, ◌≤◌}
use mathlib.Core.Path.{◌≡◌, refl, ◌∙◌, ap}
use mathlib.Core.List.{List, []}
use mathlib.Core.Bool.{Bool, true}
use Rattle.std.specs.Prelude.{Ok, Err}
use native.Mathlib.Omega.{arith}
use borrow.Author.Tests.{lt-ltb, le-ltb}
use lib.ListN.{length}
use lib.Dec.{ltb, leb, eqb}
use Rattle.stacks.specs.Promises.{stack_in}
use Rattle.records.specs.Records.{room}
use Rattle.choice.proofs.Laws.{choose_keeps}
use Rattle.utf8.specs.Chars.{Checked, checked}
use Rattle.window.specs.Place.{Place, place_at, text_start}
use Rattle.indentation.specs.declared.Level.{Level}
use Rattle.indentation.specs.Levels.{most_levels}
use Rattle.rounds.specs.Rounds.{state, view}
use Rattle.measuring.specs.declared.Tally.{Tally}
use Rattle.measuring.specs.declared.Numbers.{Numbers}
use Rattle.measuring.specs.Promises.{end_code, end_detail, TextOk, Measured}
use Rattle.records.specs.Limits.{most_bytes, places}
use Rattle.answers.specs.declared.Answer.{Answer}
use Rattle.reading.specs.Modes.{last_mode, lists_notes}
use Rattle.reading.specs.Answers.{Plan, answer_with_room, plan_measure, answered, plan_answer, bytes_refusal, text_refusal, unless, read_plan, read_answer, measure_answer}
use Rattle.answers.specs.Answers.{answer, in_room, no_room_for}
use Rattle.answers.specs.Promises.{Fits}
use Rattle.reading.specs.Promises.{FinishOk}
use Rattle.reading.proofs.Finishes.{text_ok, tell_ok}
use Rattle.reading.proofs.Calls.{readable, whole_ok, on, off}
use Rattle.reading.proofs.Refusals.{view_high}

module _ (t : List ℕ) (mode start : ℕ) (r : Answer) (q : r ≡ text_refusal t mode start) where
  -- a code refuses
  pub measure_refused : (r.code ≡ 0 → ⊥) → r ≡ measure_answer t mode start
  unfolding measure_answer plan_measure
  measure_refused n = ap (plan_measure t start) (off t mode start r q n)

  -- no code refuses: the text is measured from its start, with no level open
  module _ (e : r.code ≡ 0) (from : ℕ) (f : place_at t from ≡ text_start t) (a : List Level) (l : length a ≡ most_levels) where
    ok : FinishOk t start a 0 from 0
    ok = whole_ok t start from (readable t mode start r q e) f a l

    pub measure_ok : TextOk t a 0 from 0
    measure_ok = text_ok t start a 0 from 0 ok

    module _ (full : Bool) (k : full ≡ lists_notes mode) (m : Tally) (c : Measured full t a 0 from 0 m) where
      pub measure_tell : Fits m.count (start + m.place)
      measure_tell = tell_ok full t start a 0 from 0 ok m c

      pub measure_answer_lem : (x : Answer) → x ≡ answer (end_code m.ending) m.count (start + m.place) (end_detail m.ending) → x ≡ measure_answer t mode start
      unfolding measure_answer plan_measure stack_in
      measure_answer_lem x p =
          p
          ∙ ap (λ (y : Numbers). answer y.code y.count (start + y.place) y.detail) c.same
          ∙ ap (λ (b : Place). answer_with_room start 0 (view full t (state b.at true 0 []))) f
          ∙ ap (λ (x : Bool). answer_with_room start 0 (view x t (state (text_start t).at true 0 []))) k
          ∙ ap (plan_measure t start) (on t mode start r q e)

module _ (t : List ℕ) (mode start : ℕ) where
  -- codes 1, 2 and 3 come with no count
  pub refusal_small : ((text_refusal t mode start).count ≡ 0) × ((text_refusal t mode start).code ≤ 3)
  unfolding text_refusal bytes_refusal
  refusal_small =
      choose_keeps P (ltb most_bytes (length t)) (λ _. (refl, omega arith))
      (λ _. choose_keeps P (leb places (start + length t)) (λ _. (refl, omega arith))
      (λ _. choose_keeps P (ltb last_mode mode) (λ _. (refl, omega arith))
      (λ _. bytes (checked t))))
    where
      P : Answer → Type 0
      P x = (x.count ≡ 0) × (x.code ≤ 3)

      bytes : (c : Checked) → P (bytes_refusal start c)
      bytes (Ok u) = (refl, omega arith)
      bytes (Err e) = (refl, omega arith)

  -- a measure is never code 4
  pub never_four : (measure_answer t mode start).code ≡ 4 → ⊥
  unfolding measure_answer plan_measure read_plan unless
  never_four =
      choose_keeps (λ (p : Plan). (plan_measure t start p).code ≡ 4 → ⊥) (eqb (text_refusal t mode start).code 0)
      (λ _ z. absurd (omega (arith, view_high (lists_notes mode) t (state (text_start t).at true 0 []) (omega arith))))
      (λ _ z. absurd (omega (arith, refusal_small.1)))

  module _ (row : List ℕ) where
    -- a reading's answer is the measure's, if there is room for its count
    pub measured : read_answer t mode start row ≡ in_room row (measure_answer t mode start)
    unfolding read_answer measure_answer plan_answer plan_measure answered read_plan unless
    measured =
        choose_keeps (λ (p : Plan). plan_answer t start row p ≡ in_room row (plan_measure t start p)) (eqb (text_refusal t mode start).code 0)
        (λ _. refl)
        (λ _. rw (le-ltb (room row) (text_refusal t mode start).count (omega (arith, refusal_small.0))))

    -- a row with room for the count
    pub room_same : (measure_answer t mode start).count ≤ room row → read_answer t mode start row ≡ measure_answer t mode start
    room_same h = measured ∙ rw (le-ltb _ _ h)

    -- a shorter one
    pub short_four : room row < (measure_answer t mode start).count → read_answer t mode start row ≡ no_room_for (measure_answer t mode start).count
    short_four h = measured ∙ rw (lt-ltb _ _ h)
