-- What a re-reading answers stands in document 01's table, and its code 3 tells the fault that the text has: it refuses, or it reads on within
-- the text.
-- Assumes nothing.
use Prim.Native.Nat.{ℕ, ◌-◌, ◌≤◌}
use mathlib.Core.Path.{◌≡◌, refl}
use mathlib.Core.List.{List, []}
use mathlib.Core.Bool.{Bool, true}
use native.Mathlib.Omega.{arith}
use native.Mathlib.Nat.{zero-add}
use borrow.Author.Tests.{eqb-true, eqb-false}
use lib.ListN.{length}
use lib.Dec.{ltb, eqb}
use Rattle.choice.proofs.Laws.{choose_keeps}
use Rattle.indentation.specs.declared.Level.{Level}
use Rattle.rounds.specs.Rounds.{state, view}
use Rattle.records.specs.Limits.{most_records}
use Rattle.records.specs.Records.{rec_at, recs_in, room}
use Rattle.answers.specs.declared.Answer.{Answer}
use Rattle.answers.specs.Answers.{refusal, wrong_edit, unsound, is_above}
use Rattle.utf8.specs.Faults.{Bytes}
use Rattle.answers.specs.Codes.{InTable, FaultTold}
use Rattle.answers.proofs.Laws.{refusal_in_table}
use Rattle.reading.specs.Answers.{Plan, refuse, text_refusal, unless, answered, plan_answer}
use Rattle.reading.proofs.Calls.{text_start_within}
use Rattle.reading.proofs.Codes.{ending_in_table, room_in_table, text_refusal_in_table}
use Rattle.reading.proofs.Faults.{text_well, none_told, text_told, read_on_other}
use Rattle.rereading.specs.Rereads.{kept_up_to, Built, broken, built, rebuild, ends_line, has_its_line, go_on, cut_plan, kept_plan, edit_refusal, reread_plan, reread_answer}
use Rattle.rereading.proofs.Cuts.{cut_low}
use Rattle.rereading.proofs.Plans.{editable}

-- what code 5 has, where it refuses
editing : (P : Answer → Type 0) (bytes space old a : ℕ) → P (refusal wrong_edit) → ((edit_refusal bytes space old a).code ≡ 0 → ⊥) → P (edit_refusal bytes space old a)
unfolding edit_refusal
editing P bytes space old a five =
    choose_keeps Q (is_above space old) (λ _ _. five)
    (λ _. choose_keeps Q (ltb most_records old) (λ _ _. five)
    (λ _. choose_keeps Q (ltb bytes a) (λ _ _. five)
    (λ _ z. absurd (z refl))))
  where
    Q : Answer → Type 0
    Q x = (x.code ≡ 0 → ⊥) → P x

-- ---- each way to answer
module _ (t : List ℕ) (mode : ℕ) (row : List ℕ) (old a : ℕ) (P : Answer → Type 0) where
  abbrev Planned : Plan → Type 0
  Planned p = P (plan_answer t 0 row p)

  -- an answer refuses, or another plan is gone by
  unless_has : (r : Answer) (on : Unit {0} → Plan) → ((r.code ≡ 0 → ⊥) → P r) → (r.code ≡ 0 → Planned (on tt)) → Planned (unless r on)
  unfolding unless plan_answer
  unless_has r on f g = choose_keeps Planned (eqb r.code 0) {x = on tt} {y = refuse r} (λ e. g (eqb-true _ _ e)) (λ e. f (eqb-false _ _ e))

  -- what codes 1 to 3, 5 and 6 have, and a reading on within the text, a re-reading has
  pub reread_has : (((text_refusal t mode 0).code ≡ 0 → ⊥) → P (text_refusal t mode 0))
      → ((text_refusal t mode 0).code ≡ 0 → P (refusal wrong_edit))
      → ((text_refusal t mode 0).code ≡ 0 → P (refusal unsound))
      → ((text_refusal t mode 0).code ≡ 0 → (n at : ℕ) (full : Bool) (ls : List Level) → at ≤ length t → P (answered t 0 row n (view full t (state at true 0 ls))))
      → P (reread_answer t mode row old a)
  unfolding reread_answer reread_plan kept_plan cut_plan go_on plan_answer
  reread_has text five six read = unless_has (text_refusal t mode 0) _ text (λ y. unless_has (edit_refusal (length t) (room row) old a) _ (editing P (length t) (room row) old a (five y)) (λ z. kept y (editable (length t) (room row) old a _ refl z).within))
    where
      -- the plan of what is kept: a cut ends below A
      kept : (text_refusal t mode 0).code ≡ 0 → a ≤ length t → Planned (kept_plan t mode row (kept_up_to a (recs_in row 0 old)))
      kept y h =
          let k = kept_up_to a (recs_in row 0 old) in
          choose_keeps Planned (eqb k 0) (λ _. read y _ _ _ _ (text_start_within t))
          (λ z. let n = eqb-false k 0 z in
          let r = rec_at row (k - 1) in
          let e = r.end in
          choose_keeps Planned (ends_line t e)
          (λ _. choose_keeps Planned (has_its_line t r) (λ _. on e (omega (arith, (cut_low row a old).low (omega arith))) (rebuild t e (recs_in row 0 k) [])) (λ _. six y))
          (λ _. six y))
        where
          on : (e : ℕ) → e ≤ length t → (b : Built) → Planned (go_on mode (kept_up_to a (recs_in row 0 old)) e b)
          on e l broken = six y
          on e l (built ls) = read y _ e _ ls l

module _ (t : List ℕ) (mode : ℕ) (row : List ℕ) (old a : ℕ) where
  -- a re-reading answers 0, 1 to 6, or an error's code; code 0's place is the text's length
  pub reread_in_table : InTable unsound (length t) (reread_answer t mode row old a)
  unfolding answered
  reread_in_table =
      reread_has t mode row old a (InTable unsound (length t)) (text_refusal_in_table t mode 0 unsound (length t) (omega arith))
      (λ _. refusal_in_table unsound (length t) wrong_edit (omega arith) (omega arith) (λ z. omega arith))
      (λ _. refusal_in_table unsound (length t) unsound (omega arith) (omega arith) (λ z. omega arith))
      (λ _ n at full ls h. room_in_table t unsound (length t) row _ (omega arith) (rw (zero-add (length t)) at (ending_in_table t 0 n unsound full (state at true 0 ls) (omega arith) h)))

  -- its code 3 tells the fault that the text has (document 02 item 2)
  pub reread_told : Bytes t → FaultTold t 0 (reread_answer t mode row old a)
  reread_told bytes =
      reread_has t mode row old a (FaultTold t 0) (λ _. text_told t bytes 0 mode)
      (λ e. none_told t bytes 0 _ (text_well t bytes mode 0 e) (λ z. omega arith))
      (λ e. none_told t bytes 0 _ (text_well t bytes mode 0 e) (λ z. omega arith))
      (λ e n at full ls _. none_told t bytes 0 _ (text_well t bytes mode 0 e) (read_on_other t bytes 0 row n full (state at true 0 ls)))
