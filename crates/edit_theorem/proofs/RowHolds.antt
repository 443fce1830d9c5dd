-- What a whole reading leaves in the row: its records, softened, with their lines, as many as its answer counts.
-- Assumes nothing.
use Prim.Native.Nat.{ℕ, ◌+◌, ◌≤◌}
use mathlib.Core.Path.{◌≡◌, refl, sym, ◌∙◌, ap}
use mathlib.Core.List.{List, [], map}
use mathlib.Core.Bool.{true}
use mathlib.Core.Logic.{⊎_elim}
use native.Mathlib.Omega.{arith}
use borrow.Author.Tests.{eqb-true, eqb-false, ltb-false}
use lib.Dec.{eqb, ltb}
use lib.ListN.{length}
use Rattle.choice.proofs.Laws.{choose_keeps, choose_both}
use Rattle.window.specs.Place.{text_start}
use Rattle.rounds.specs.Rounds.{State, state, Reading, view}
use Rattle.rounds.proofs.Paid as paid
use Rattle.records.specs.Limits.{most_bytes, most_records}
use Rattle.soft_keywords.specs.SoftKeywords.{soften}
use Rattle.soft_keywords.proofs.Second.{soften_length}
use Rattle.records.specs.Records.{Spanned, record_in, span_of, puts, recs_in, room, rec_at}
use Rattle.records.proofs.Rooms.{length_puts}
use Rattle.answers.specs.declared.Answer.{Answer}
use Rattle.answers.specs.Codes.{HasRecords}
use Rattle.reading.specs.Modes.{lists_notes, starts_line}
use Rattle.reading.specs.Answers.{answer_with_room, Plan, refuse, go, answered, written, plan_answer, plan_row, text_refusal, unless, read_plan, read_answer, read_row}
use Rattle.reading.proofs.Calls.{text_start_within, readable}
use Rattle.reading.proofs.Measures.{refusal_small}
use Rattle.records.proofs.Puts.{recs_puts, puts_above, spans_recorded}
use Rattle.edit_theorem.specs.Calls.{in_row, spans_in_row}

-- where a text's reading starts
abbrev pub first : List ℕ → State
first t = state (text_start t).at true 0 []

-- what a reading of the text into a row answered and left in it
pub record RowHolds (t : List ℕ) (mode : ℕ) (row₀ : List ℕ) (r : Answer) (row : List ℕ) : Type 0 where
  pub ends : r ≡ answer_with_room 0 0 (view (lists_notes mode) t (first t))
  pub holds : recs_in row 0 r.count ≡ map (record_in t 0) (soften (starts_line mode) (view (lists_notes mode) t (first t)).recs)
  pub room : r.count ≤ room row
  pub few : r.count ≤ most_records
  pub behind : (i : ℕ) → r.count ≤ i → rec_at row i ≡ rec_at row₀ i

module _ (t : List ℕ) (mode : ℕ) (row₀ : List ℕ) (r : Answer) (row : List ℕ) (h : RowHolds t mode row₀ r row) where
  -- its records but for their lines
  pub spans_hold : spans_in_row r row ≡ soften (starts_line mode) (view (lists_notes mode) t (first t)).recs
  spans_hold = ap (map span_of) h.holds ∙ spans_recorded t _

  -- PROMISE, document 02 item 4: each has the line of its start
  pub lines_right : in_row r row ≡ map (record_in t 0) (spans_in_row r row)
  lines_right = h.holds ∙ ap (map (record_in t 0)) (sym spans_hold)

-- an answer looks at the row's length alone
pub answer_length : (t : List ℕ) (mode start : ℕ) (x y : List ℕ) → length x ≡ length y → read_answer t mode start x ≡ read_answer t mode start y
unfolding read_answer plan_answer answered
answer_length t mode start x y l = on (read_plan t mode start)
  where
    on : (p : Plan) → plan_answer t start x p ≡ plan_answer t start y p
    on (refuse r) = refl
    on (go n at full line ls) = rw l

-- a reading leaves the row's length
pub row_length_lem : (t : List ℕ) (mode start : ℕ) (row : List ℕ) → length (read_row t mode start row) ≡ length row
unfolding read_row plan_row written
row_length_lem t mode start row = on (read_plan t mode start)
  where
    on : (p : Plan) → length (plan_row t start row p) ≡ length row
    on (refuse r) = refl
    on (go n at full line ls) =
        choose_keeps (λ (x : List ℕ). length x ≡ length row) (ltb (room row) _) (λ _. refl) (λ _. length_puts t start _ row n)

module _ (t : List ℕ) (mode : ℕ) (row : List ℕ) where
  abbrev W : Reading
  W = view (lists_notes mode) t (first t)

  abbrev S : List Spanned
  S = soften (starts_line mode) W.recs

  written_left : length t ≤ most_bytes → HasRecords (answered t 0 row 0 W) → RowHolds t mode row (answered t 0 row 0 W) (written t 0 row 0 (starts_line mode) W)
  unfolding answered written
  written_left s =
      choose_both (λ (r : Answer) (x : List ℕ). HasRecords r → RowHolds t mode row r x) (ltb (room row) (0 + length W.recs))
      (λ _ c. absurd (⊎_elim (λ z. omega arith) (λ z. omega arith) c))
      (λ e _. let r = ltb-false (room row) (0 + length W.recs) e in
      let n : 0 + length W.recs ≡ length S = omega (arith, soften_length (starts_line mode) W.recs) in
      record {
        ends = refl;
        holds = ap (recs_in (puts t 0 row 0 S) 0) n ∙ recs_puts t 0 S row 0 (omega arith);
        room = omega (arith, length_puts t 0 S row 0);
        few = omega (arith, paid.few_listed t (lists_notes mode) (first t) (text_start_within t) (omega arith));
        behind = λ i h. puts_above t 0 S row 0 i (omega arith);
      })

  -- what the public contract says of a reading's answer and row
  pub row_holds : HasRecords (read_answer t mode 0 row) → RowHolds t mode row (read_answer t mode 0 row) (read_row t mode 0 row)
  unfolding read_answer read_row read_plan unless plan_answer plan_row
  row_holds =
      let x = text_refusal t mode 0 in
      choose_keeps (λ (p : Plan). HasRecords (plan_answer t 0 row p) → RowHolds t mode row (plan_answer t 0 row p) (plan_row t 0 row p)) (eqb x.code 0)
      (λ e c. written_left (readable t mode 0 x refl (eqb-true _ _ e)).small c)
      (λ e c. absurd (⊎_elim (λ z. eqb-false _ _ e z) (λ z. omega (arith, (refusal_small t mode 0).1)) c))
