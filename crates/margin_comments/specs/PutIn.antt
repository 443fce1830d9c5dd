-- Document 01 "Letting a margin comment close a block": a text that was read, and the same text with a comment line put in
-- behind a Newline, where a line starts.
use Rattle.std.specs.Prelude.{ℕ, ◌<◌, ◌≤◌, ◌≡◌, List, ◌∷◌, ◌++◌, length}
use Rattle.records.specs.Records.{Spanned}
use Rattle.token.specs.Kinds as K
use Rattle.answers.specs.Codes.{HasRecords}
use Rattle.reading.specs.Modes.{expression}
use Rattle.edit_theorem.specs.Calls.{ReadCall, spans_in_row}
use Rattle.margin_comments.specs.Lines.{CommentBefore, Lines}
use Rattle.margin_comments.specs.Moved.{all_moved_behind, kinds_of, AnswerMoved}

-- the records that a reading left, as many as it answered, but for their lines: those are of its own text, so a line that is put in counts
-- in those behind it
abbrev pub records_left : ReadCall ℕ → List Spanned
records_left c = spans_in_row c.answer c.left

-- two readings at 0 in one of the modes 0 to 2, with records as their answers. The old text has `front`, which ends with a Newline of the
-- list, then blank and comment lines; the new one has a comment line behind these
pub record CommentPutIn (old new : ReadCall ℕ) : Type 0 where
  pub front : List ℕ
  pub lines : List ℕ
  pub bytes : List ℕ
  pub back : List ℕ
  pub between : Lines lines
  pub comment : CommentBefore bytes back
  pub old_text : old.text ≡ front ++ (lines ++ back)
  pub new_text : new.text ≡ front ++ (lines ++ (bytes ++ back))
  pub mode : new.mode ≡ old.mode
  pub no_notes : old.mode ≤ expression
  pub old_start : old.start ≡ 0
  pub new_start : new.start ≡ 0
  pub old_records : HasRecords old.answer
  pub new_records : HasRecords new.answer
  pub before : List Spanned
  pub newline : Spanned
  pub behind : List Spanned
  pub listed : records_left old ≡ before ++ newline ∷ behind
  pub kind : newline.kind ≡ K.newline
  pub some : newline.start < newline.end
  pub ends : newline.end ≡ length front

-- n bytes were put in at a place: the answer is the same but for its place, the records are the same but for theirs, and so the kinds are
-- the same, in order: no Indent and no Dedent is added or lost
pub record SameButPlaces (place n : ℕ) (old new : ReadCall ℕ) : Type 0 where
  pub answer : AnswerMoved n old.answer new.answer
  pub records : records_left new ≡ all_moved_behind place n (records_left old)
  pub kinds : kinds_of (records_left new) ≡ kinds_of (records_left old)
