-- The theorem, of what two calls of `read` answer and leave: the shorter text into one row and the longer one into another, each with room enough.
-- Assumes nothing.
use Prim.Native.Nat.{ℕ, ◌+◌, ◌≤◌}
use mathlib.Core.Path.{◌≡◌, refl, sym, ◌∙◌, ap, ap₂, subst}
use mathlib.Core.List.{List, ◌++◌}
use mathlib.Core.Bool.{Bool, false}
use native.Mathlib.Omega.{arith}
use borrow.Author.Tests.{le-ltb}
use lib.ListN.{length, length-map}
use Rattle.rounds.specs.Rounds.{Reading, raw_reading, listed_reading, view}
use Rattle.soft_keywords.specs.SoftKeywords.{soften}
use Rattle.answers.specs.declared.Answer.{Answer}
use Rattle.answers.specs.Codes.{HasRecords}
use Rattle.reading.specs.Modes.{expression, lists_notes, starts_line}
use Rattle.reading.specs.Answers.{answer_with_room, read_answer, read_row}
use Rattle.edit_theorem.specs.Calls.{ReadCall, IsReading, spans_in_row}
use Rattle.edit_theorem.proofs.Views.{stands}
use Rattle.edit_theorem.proofs.RowHolds.{first, spans_hold, row_holds}
use Rattle.margin_comments.specs.Moved.{all_moved_behind, kinds_of, AnswerMoved}
use Rattle.margin_comments.specs.PutIn.{records_left, CommentPutIn, SameButPlaces}
use Rattle.margin_comments.proofs.Softens.{same_kinds, soften_moved, raw}
use Rattle.margin_comments.proofs.Theorem.{reading_moved_behind, comment_moves}

no_notes : (mode : ℕ) → mode ≤ expression → lists_notes mode ≡ false
unfolding lists_notes
no_notes mode h = le-ltb 2 mode h

-- a reading at 0 without notes, of a text by another name
module _ (c : ReadCall ℕ) (p : IsReading c) (t : List ℕ) (e : c.text ≡ t) (z : c.start ≡ 0) (m : c.mode ≤ expression) (h : HasRecords c.answer) where
  abbrev seen : Reading
  seen = view false t (first t)

  answer_is : c.answer ≡ read_answer t c.mode 0 c.lent
  answer_is = p.answer ∙ ap₂ (λ (x : List ℕ) (s : ℕ). read_answer x c.mode s c.lent) e z

  left_is : c.left ≡ read_row t c.mode 0 c.lent
  left_is = p.left ∙ ap₂ (λ (x : List ℕ) (s : ℕ). read_row x c.mode s c.lent) e z

  -- what it answered and left, by its view
  ends : c.answer ≡ answer_with_room 0 0 seen
  ends =
      answer_is ∙ (row_holds t c.mode c.lent (subst HasRecords answer_is h)).ends
      ∙ ap (λ (b : Bool). answer_with_room 0 0 (view b t (first t))) (no_notes c.mode m)

  holds : records_left c ≡ soften (starts_line c.mode) seen.recs
  holds =
      ap₂ (λ (l : List ℕ) (a : Answer). spans_in_row a l) left_is answer_is ∙ spans_hold t c.mode c.lent _ _ (row_holds t c.mode c.lent (subst HasRecords answer_is h))
      ∙ ap (λ (b : Bool). soften (starts_line c.mode) (view b t (first t)).recs) (no_notes c.mode m)

module _ (old new : ReadCall ℕ) (p : IsReading old) (q : IsReading new) (c : CommentPutIn old new) where
  -- where the comment line is put in, and how long it is
  abbrev place : ℕ
  place = length c.front + length c.lines

  abbrev long : ℕ
  long = length c.bytes

  abbrev line : Bool
  line = starts_line old.mode

  abbrev t₁ : List ℕ
  t₁ = c.front ++ (c.lines ++ c.back)

  abbrev t₂ : List ℕ
  t₂ = c.front ++ (c.lines ++ (c.bytes ++ c.back))

  abbrev was : Reading
  was = view false t₁ (first t₁)

  old_holds : records_left old ≡ soften line was.recs
  old_holds = holds old p t₁ c.old_text c.old_start c.no_notes c.old_records

  in_mode : new.mode ≤ expression
  in_mode = rw c.mode c.no_notes

  -- the Newline is one of the raw records
  reading : view false t₂ (first t₂) ≡ reading_moved_behind place long was
  unfolding view listed_reading
  reading =
      let x = raw line was.recs c.before c.behind c.newline (sym old_holds ∙ c.listed) c.kind in
      let y = stands false (raw_reading t₁ (first t₁)).recs x.pre x.post c.newline x.shape in
      comment_moves c.front c.lines c.bytes c.back c.between c.comment y.front y.back c.newline y.shape c.kind c.some c.ends

  new_ends : new.answer ≡ answer_with_room 0 0 (reading_moved_behind place long was)
  new_ends = ends new q t₂ c.new_text c.new_start in_mode c.new_records ∙ ap (answer_with_room 0 0) reading

  -- the answer is the same but for its place
  answer_moved : AnswerMoved long old.answer new.answer
  answer_moved =
      rw (new_ends, ends old p t₁ c.old_text c.old_start c.no_notes c.old_records)
      record { code = refl; count = ap (λ (n : ℕ). 0 + n) (length-map was.recs _); place = omega arith; detail = refl }

  -- the records are the same, those behind the place moved by the comment line's length
  records_moved : records_left new ≡ all_moved_behind place long (records_left old)
  records_moved =
      holds new q t₂ c.new_text c.new_start in_mode c.new_records
      ∙ ap₂ (λ (m : ℕ) (r : Reading). soften (starts_line m) r.recs) c.mode reading
      ∙ soften_moved place long line was.recs ∙ ap (all_moved_behind place long) (sym old_holds)

  -- THE THEOREM: so no Indent and no Dedent is added or lost, since the kinds are the same, in order
  pub comment_ends_no_block : SameButPlaces place long old new
  comment_ends_no_block = record {
    answer = answer_moved;
    records = records_moved;
    kinds = ap kinds_of records_moved ∙ same_kinds place long (records_left old);
  }
