-- What the theorems speak of: each of these is shown by its cases.
-- Assumes nothing.
use mathlib.Core.Path.{◌≡◌, refl}
use mathlib.Core.List.{[], ◌∷◌}
use mathlib.Core.Bool.{true, false}
use mathlib.Core.Logic.{inl, inr}
use native.Mathlib.Omega.{arith}
use Rattle.utf8.specs.Chars.{letters}
use Rattle.token.specs.Kinds.{newline, name, comment}
use Rattle.records.specs.Records.{spanned}
use Rattle.names.specs.Runs.{is_newline, not_newline}
use Rattle.lexer.specs.Steps.{is_note}
use Rattle.rounds.specs.Rounds.{last_end}
use Rattle.answers.specs.Answers.{answer, no_room}
use Rattle.answers.specs.Codes.{HasRecords, InTable}
use Rattle.tiles.specs.Notes.{NewlineIn, lf, crlf}
use Rattle.tiles.specs.Tiles.{Blank, none, space, join, BlankOrNotes, blank}
use Rattle.tiles.specs.Tiles as P
use Rattle.tiles.specs.NonLogical.{only_notes_since}
use Rattle.comments.specs.Alike.{TypeOrName}
use Rattle.margin_comments.specs.Lines.{CommentLine, hash, Lines, feed}
use Rattle.margin_comments.specs.Lines as L
use Rattle.margin_comments.specs.Moved.{moved_behind}

pub on_the_page : NewlineIn (letters "x\r\n") 1 3
    × Blank (letters "x \\\ny") 1 4
    × BlankOrNotes (letters "x\n\ny") 1 3
    × (last_end 0 (spanned name 0 1 ∷ spanned newline 1 2 ∷ []) ≡ 2)
    × (only_notes_since true comment ≡ true)
    × (only_notes_since true name ≡ false)
    × TypeOrName name
    × CommentLine (letters "\t # c\n")
    × Lines (letters " \u{c}\n")
    × (moved_behind 3 4 (spanned newline 2 3) ≡ spanned newline 2 3)
    × (moved_behind 3 4 (spanned name 3 4) ≡ spanned name 7 8)
    × InTable no_room 6 (answer 0 4 6 0)
    × HasRecords (answer 26 7 9 33)
unfolding last_end is_note only_notes_since is_newline not_newline moved_behind
on_the_page = (
  crlf refl refl,
  space refl (join refl (lf refl) none),
  P.newline none (lf refl) (P.newline none (lf refl) (blank none)),
  refl,
  refl,
  refl,
  inr refl,
  hash 1 1 (letters " c") (refl, (refl, tt)) L.lf,
  feed 0 1 (L.blank 0 0 L.lf L.none),
  refl,
  refl,
  record { code = inl (omega arith); read = λ _. refl; detail = λ _ _. refl; fault = λ z. absurd (omega arith); count = λ z. absurd (omega arith); place = λ z. absurd (omega arith) },
  inr (omega arith),
)
