-- Document 02 item 1 of what the calls answer and leave: a text read in mode 0, 1 or 2 into one row, and in mode 3, 4 or 5 into another, each with
-- room enough. Both rows hold the second pass's records of one raw reading, with its notes or without.
-- Assumes nothing.
use Prim.Native.Nat.{ℕ, zero, suc, ◌+◌, ◌≤◌}
use mathlib.Core.Path.{◌≡◌, refl, sym, ◌∙◌, ap}
use mathlib.Core.List.{List, map}
use mathlib.Core.Bool.{Bool, true, false}
use native.Mathlib.Omega.{arith}
use borrow.Author.Tests.{lt-ltb, le-ltb}
use lib.Dec.{eqb}
use Rattle.choice.proofs.Laws.{choose_both}
use Rattle.rounds.specs.Rounds.{raw_reading, listed_records, view}
use Rattle.soft_keywords.specs.SoftKeywords.{soften}
use Rattle.answers.specs.declared.Answer.{Answer}
use Rattle.answers.specs.Codes.{HasRecords}
use Rattle.reading.specs.Modes.{last_mode, lists_notes, starts_line}
use Rattle.reading.specs.Answers.{Plan, answer_with_room, plan_measure, text_refusal, unless, read_plan, read_answer, read_row, measure_answer}
use Rattle.records.specs.Records.{Spanned, record_in}
use Rattle.edit_theorem.specs.Calls.{in_row, spans_in_row}
use Rattle.edit_theorem.proofs.RowHolds.{first, spans_hold, lines_right, row_holds}
use Rattle.comments.specs.Clear.{clear}
use Rattle.comments.specs.Alike.{AllAlike}
use Rattle.comments.proofs.Theorem.{same_ending, agree, alike}

-- what three more changes in a mode: notes are listed, and nothing else
plain : (mode : ℕ) → mode ≤ 2 → lists_notes mode ≡ false
unfolding lists_notes
plain mode h = le-ltb 2 mode h

full : (mode : ℕ) → lists_notes (mode + 3) ≡ true
unfolding lists_notes
full mode = lt-ltb 2 (mode + 3) (omega arith)

same_line : (mode : ℕ) → mode ≤ 2 → starts_line (mode + 3) ≡ starts_line mode
unfolding starts_line
same_line zero h = refl
same_line (suc zero) h = refl
same_line (suc (suc zero)) h = refl
same_line (suc (suc (suc mode))) h = absurd (omega arith)

-- how two answers end
abbrev pub EndAlike : Answer → Answer → Type 0
EndAlike a b = (a.code ≡ b.code) × (a.place ≡ b.place) × (a.detail ≡ b.detail)

module _ (t : List ℕ) (mode start : ℕ) (m : mode ≤ 2) where
  same_refusal : text_refusal t (mode + 3) start ≡ text_refusal t mode start
  unfolding text_refusal
  same_refusal = rw (le-ltb last_mode (mode + 3) (omega arith), le-ltb last_mode mode (omega arith))

  same_view : EndAlike (answer_with_room start 0 (view (lists_notes (mode + 3)) t (first t))) (answer_with_room start 0 (view (lists_notes mode) t (first t)))
  same_view = let e = same_ending t (first t) in rw (full mode, plain mode m) (e.0, ap (λ (n : ℕ). start + n) e.1, e.2)

  -- the ending is the same for every text at every start, refusals included
  pub measures_agree : EndAlike (measure_answer t (mode + 3) start) (measure_answer t mode start)
  unfolding measure_answer plan_measure read_plan unless
  measures_agree =
      rw same_refusal
      (choose_both (λ (p q : Plan). EndAlike (plan_measure t start p) (plan_measure t start q)) (eqb (text_refusal t mode start).code 0) (λ _. same_view) (λ _. (refl, refl, refl)))

module _ (t : List ℕ) (mode : ℕ) (m : mode ≤ 2) (row row' : List ℕ) (told : HasRecords (read_answer t mode 0 row)) (told' : HasRecords (read_answer t (mode + 3) 0 row')) where
  -- the records that each call leaves, but for their lines
  abbrev records : List Spanned
  records = spans_in_row (read_answer t mode 0 row) (read_row t mode 0 row)

  abbrev records' : List Spanned
  records' = spans_in_row (read_answer t (mode + 3) 0 row') (read_row t (mode + 3) 0 row')

  holds : records ≡ soften (starts_line mode) (view false t (first t)).recs
  holds = spans_hold t mode row _ _ (row_holds t mode row told) ∙ ap (λ (b : Bool). soften (starts_line mode) (view b t (first t)).recs) (plain mode m)

  holds' : records' ≡ soften (starts_line mode) (view true t (first t)).recs
  holds' =
      spans_hold t (mode + 3) row' _ _ (row_holds t (mode + 3) row' told')
      ∙ ap (λ (b : Bool). soften (starts_line (mode + 3)) (view b t (first t)).recs) (full mode)
      ∙ ap (λ (b : Bool). soften b (view true t (first t)).recs) (same_line mode m)

  -- both calls tell the same ending
  pub endings_agree : EndAlike (read_answer t (mode + 3) 0 row') (read_answer t mode 0 row)
  endings_agree = rw ((row_holds t (mode + 3) row' told').ends, (row_holds t mode row told).ends) (same_view t mode 0 m)

  -- THE THEOREM: on the premise the records of other kinds are, in order, those of the mode without notes
  pub records_agree : clear (starts_line mode) (raw_reading t (first t)).recs ≡ true → listed_records false records' ≡ records
  records_agree c = ap (listed_records false) holds' ∙ agree t (starts_line mode) c ∙ sym holds

  -- and with their lines, which are those of their starts
  pub lines_agree : clear (starts_line mode) (raw_reading t (first t)).recs ≡ true → map (record_in t 0) (listed_records false records') ≡ in_row (read_answer t mode 0 row) (read_row t mode 0 row)
  lines_agree c = ap (map (record_in t 0)) (records_agree c) ∙ sym (lines_right t mode row _ _ (row_holds t mode row told))

  -- without it all but the kinds of `type` words
  pub records_alike : AllAlike (view false t (first t)).recs (listed_records false records') records
  records_alike = rw (holds', holds) (alike t (starts_line mode))
