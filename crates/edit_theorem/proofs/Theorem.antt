-- The edit theorem, document 01's demand 3: re-reading after an edit gives what a whole reading of the new text gives, in every mode.
-- An old text was read into any row; the new text, of any bytes, agrees with it on the first `a` bytes.
-- Assumes nothing.
use Prim.Native.Nat.{ℕ, ◌<◌, ◌≤◌}
use mathlib.Core.Path.{◌≡◌, sym, ◌∙◌, ap, ap₂, subst}
use mathlib.Core.List.{List}
use native.Mathlib.Nat.{zero-add}
use lib.ListN.{length, take}
use Rattle.records.specs.Records.{rec_at, recs_in}
use Rattle.records.proofs.Recs.{recs_at}
use Rattle.answers.specs.declared.Answer.{Answer}
use Rattle.answers.specs.Codes.{HasRecords}
use Rattle.reading.specs.Answers.{read_answer, read_row}
use Rattle.rereading.specs.Rereads.{reread_answer, reread_row}
use Rattle.edit_theorem.specs.Calls.{ReadCall, RereadCall, IsReading, IsRereading, as_reading, Edit, Anew, SameReading}
use Rattle.edit_theorem.proofs.RowHolds.{RowHolds, row_holds, answer_length, row_length_lem}
use Rattle.edit_theorem.proofs.Edits.{edit_answer, edit_row}

module _ (before after : List ℕ) (mode : ℕ) (row₀ : List ℕ) (a : ℕ) (same : take a before ≡ take a after) (a₁ : a ≤ length before) (a₂ : a ≤ length after)
    (old : HasRecords (read_answer before mode 0 row₀)) where
  -- the row and the count that the old reading left
  abbrev row₁ : List ℕ
  row₁ = read_row before mode 0 row₀

  abbrev n : ℕ
  n = (read_answer before mode 0 row₀).count

  abbrev had : RowHolds before mode row₀ (read_answer before mode 0 row₀) row₁
  had = row_holds before mode row₀ old

  -- the answer is that of a whole reading into the same row
  pub reread_answer_lem : reread_answer after mode row₁ n a ≡ read_answer after mode 0 row₁
  reread_answer_lem = edit_answer before after mode row₁ n a same a₁ a₂ had.room had.few had.holds

  -- and so is every number of the row, those behind the records too
  pub reread_row_lem : reread_row after mode row₁ n a ≡ read_row after mode 0 row₁
  reread_row_lem = edit_row before after mode row₁ n a same a₁ a₂ had.room had.few had.holds

-- a reading leaves as many numbers as it was lent, so a row as long as the first is as long as the one that is lent again
pub left_length : (c : ReadCall ℕ) → IsReading c → length c.left ≡ length c.lent
left_length c p = ap length p.left ∙ row_length_lem c.text c.mode c.start c.lent

-- after an edit a re-reading is a reading of the new text; so edits may follow one another
module _ (old : ReadCall ℕ) (again : RereadCall ℕ) (p : IsReading old) (q : IsRereading again) (e : Edit old again) where
  -- what the old reading answered and left, in the words of the new one
  old_answer : old.answer ≡ read_answer old.text again.mode 0 old.lent
  old_answer = p.answer ∙ ap₂ (λ (m s : ℕ). read_answer old.text m s old.lent) (sym e.mode) e.start

  old_left : again.lent ≡ read_row old.text again.mode 0 old.lent
  old_left = e.lent ∙ p.left ∙ ap₂ (λ (m s : ℕ). read_row old.text m s old.lent) (sym e.mode) e.start

  old_count : again.count ≡ (read_answer old.text again.mode 0 old.lent).count
  old_count = e.count ∙ ap (λ (r : Answer). r.count) old_answer

  has : HasRecords (read_answer old.text again.mode 0 old.lent)
  has = subst HasRecords old_answer e.records

  pub edited : IsReading (as_reading again)
  edited = record {
    answer = q.answer ∙ ap₂ (λ (x : List ℕ) (n : ℕ). reread_answer again.text again.mode x n again.common) old_left old_count
        ∙ reread_answer_lem old.text again.text again.mode old.lent again.common e.same e.in_old e.in_new has ∙ ap (read_answer again.text again.mode 0) (sym old_left);
    left = q.left ∙ ap₂ (λ (x : List ℕ) (n : ℕ). reread_row again.text again.mode x n again.common) old_left old_count
        ∙ reread_row_lem old.text again.text again.mode old.lent again.common e.same e.in_old e.in_new has ∙ ap (read_row again.text again.mode 0) (sym old_left);
  }

-- two readings of one text into rows of equal length
module _ (again : RereadCall ℕ) (anew : ReadCall ℕ) (p : IsReading (as_reading again)) (q : IsReading anew) (w : Anew again anew) where
  -- the new one, in the words of the other
  new_answer : anew.answer ≡ read_answer again.text again.mode 0 anew.lent
  new_answer = q.answer ∙ ap₂ (λ (x : List ℕ) (m : ℕ). read_answer x m anew.start anew.lent) w.text w.mode ∙ ap (λ (s : ℕ). read_answer again.text again.mode s anew.lent) w.start

  new_left : anew.left ≡ read_row again.text again.mode 0 anew.lent
  new_left = q.left ∙ ap₂ (λ (x : List ℕ) (m : ℕ). read_row x m anew.start anew.lent) w.text w.mode ∙ ap (λ (s : ℕ). read_row again.text again.mode s anew.lent) w.start

  same_answer : again.answer ≡ anew.answer
  same_answer = p.answer ∙ answer_length again.text again.mode 0 again.lent anew.lent (sym w.long) ∙ sym new_answer

  -- the records that a reading leaves depend on the text and the mode
  holds : (x : List ℕ) (r : Answer) (y : List ℕ) → r ≡ read_answer again.text again.mode 0 x → y ≡ read_row again.text again.mode 0 x → HasRecords r → RowHolds again.text again.mode x r y
  holds x r y e f k = rw (e, f) (row_holds again.text again.mode x (subst HasRecords e k))

  pub same_reading : SameReading again anew
  same_reading = record {
    answer = same_answer;
    records = λ k.
        (holds again.lent again.answer again.left p.answer p.left (subst HasRecords (sym same_answer) k)).holds
        ∙ sym (holds anew.lent anew.answer anew.left new_answer new_left k).holds;
    left = λ e. p.left ∙ ap (read_row again.text again.mode 0) e ∙ sym new_left;
  }

-- THE THEOREM: a re-reading after an edit, and a whole reading of the new text into a row of equal length
module _ (old : ReadCall ℕ) (again : RereadCall ℕ) (p : IsReading old) (q : IsRereading again) (e : Edit old again) where
  pub reread_is_read : (anew : ReadCall ℕ) → IsReading anew → Anew again anew → SameReading again anew
  reread_is_read anew r w = same_reading again anew (edited old again p q e) r w

  -- what stands behind the records is as it was, up to the row's last number
  pub behind : HasRecords again.answer → (i : ℕ) → again.answer.count ≤ i → rec_at again.left i ≡ rec_at again.lent i
  behind k i h =
      let d = edited old again p q e in
      let x = row_holds again.text again.mode again.lent (subst HasRecords d.answer k) in
      ap (λ (y : List ℕ). rec_at y i) d.left ∙ x.behind i (subst (λ (r : Answer). r.count ≤ i) d.answer h)

-- the same record at each index
pub same_record : (again : RereadCall ℕ) (anew : ReadCall ℕ) → SameReading again anew → HasRecords anew.answer → (j : ℕ) → j < anew.answer.count → rec_at again.left j ≡ rec_at anew.left j
same_record again anew s k j h =
    let e : recs_in again.left 0 anew.answer.count ≡ recs_in anew.left 0 anew.answer.count = subst (λ (r : Answer). recs_in again.left 0 r.count ≡ recs_in anew.left 0 anew.answer.count) s.answer (s.records k) in
    rw zero-add at (recs_at again.left anew.left anew.answer.count 0 j e h)
