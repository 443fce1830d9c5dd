-- "What crosses over", "What comes back" and "Bracket audit": records, rows, kinds, codes.
-- Assumes nothing.
use mathlib.Core.Path.{◌≡◌, refl}
use mathlib.Core.List.{[], ◌∷◌}
use mathlib.Core.Bool.{true, false}
use lib.Dec.{ltb}
use lib.ListN.{replicate}
use Rattle.choice.specs.Choice.{choose, both, either}
use Rattle.utf8.specs.Chars.{letters}
use Rattle.lines.specs.Lines.{is_line_end, line_at}
use Rattle.token.specs.Kinds.{newline, dedent, name, lpar, rpar, lsqb, rsqb}
use Rattle.token.specs.Brackets.{is_opener, is_closer, opener_of}
use Rattle.token.specs.Codes.{string_kind, kind_of, code_of, detail_of}
use Rattle.token.specs.declared.StringKind.TheVariants.{RawBytes}
use Rattle.token.specs.declared.Token.TheVariants.{Dedent, Str, Operator}
use Rattle.token.specs.declared.Ending.TheVariants.{StringError, Eof, NestingError, IndentationError, TabError, TabsAfterSpaces, UnrecognizedToken, LineContinuationError, EolInString, InvalidSyntax, InvalidDecimal, InvalidToken, NoDigits, TooDeep}
use Rattle.records.specs.Limits.{most_records}
use Rattle.records.specs.Records.{spanned, spanned_of, moved_by, rec, record_in, span_of, record_numbers, room, rec_at, recs_in, set_rec, puts, flat}
use Rattle.answers.specs.Answers.{answer, numbers_of, answer_in, refusal, wrong_edit, no_room_for, found_at, too_many_open_at, in_room}
use Rattle.audit.specs.Audits.{closes_latest, audit_from, audit_of}
use Rattle.audit.specs.Apart.{first_lone, first_lone_of}
use Rattle.manual.proofs.Texts.{zeros}

pub on_the_page :
    -- choices
    ((choose (ltb 1 2) (λ _. name) (λ _. newline) ≡ name)
    × (both true false ≡ false)
    × (either true false ≡ true))
    -- records, rows, kinds, answers
    × ((moved_by 7 (spanned name 0 1) ≡ spanned name 7 8)
    × (spanned_of Dedent 9 9 ≡ spanned dedent 9 9)
    × (record_in (letters "\nx") 100 (spanned name 1 2) ≡ rec name 101 102 1)
    × (span_of (rec name 101 102 1) ≡ spanned name 101 102)
    × (record_numbers (rec name 101 102 1) ≡ 3 ∷ 101 ∷ 102 ∷ 1 ∷ [])
    × (room (3 ∷ 0 ∷ 1 ∷ 0 ∷ 0 ∷ 1 ∷ 1 ∷ 0 ∷ 9 ∷ 9 ∷ []) ≡ 2)
    × (rec_at (3 ∷ 0 ∷ 1 ∷ 0 ∷ 0 ∷ 1 ∷ 1 ∷ 0 ∷ 9 ∷ 9 ∷ []) 1 ≡ rec newline 1 1 0)
    × (set_rec (zeros 9) 1 (rec name 101 102 1) ≡ 0 ∷ 0 ∷ 0 ∷ 0 ∷ 3 ∷ 101 ∷ 102 ∷ 1 ∷ 0 ∷ [])
    × (puts (letters "\nx") 100 (zeros 9) 1 (spanned name 1 2 ∷ []) ≡ 0 ∷ 0 ∷ 0 ∷ 0 ∷ 3 ∷ 101 ∷ 102 ∷ 1 ∷ 0 ∷ [])
    × (flat (rec name 0 1 0 ∷ rec newline 1 1 0 ∷ []) ≡ 3 ∷ 0 ∷ 1 ∷ 0 ∷ 0 ∷ 1 ∷ 1 ∷ 0 ∷ [])
    × (most_records ≡ 33554433)
    × (kind_of (Operator lpar) ≡ 57)
    × (kind_of (Str RawBytes true) ≡ 22)
    × (numbers_of (answer 26 7 9 33) ≡ 26 ∷ 7 ∷ 9 ∷ 33 ∷ [])
    × (answer_in (26 ∷ 7 ∷ 9 ∷ 33 ∷ []) ≡ answer 26 7 9 33)
    × (in_room (zeros 7) (answer 0 2 1 0) ≡ no_room_for 2))
    -- codes
    × ((code_of StringError ≡ 20)
    × (code_of Eof ≡ 21)
    × (code_of NestingError ≡ 22)
    × (code_of IndentationError ≡ 23)
    × (code_of TabError ≡ 24)
    × (code_of TabsAfterSpaces ≡ 25)
    × (code_of (UnrecognizedToken 33) ≡ 26)
    × (code_of LineContinuationError ≡ 27)
    × (code_of EolInString ≡ 28)
    × (code_of InvalidSyntax ≡ 29)
    × (code_of InvalidDecimal ≡ 30)
    × (code_of InvalidToken ≡ 31)
    × (code_of NoDigits ≡ 32)
    × (code_of TooDeep ≡ 33)
    × (detail_of (UnrecognizedToken 33) ≡ 33))
    -- the audit
    × ((audit_of (flat (rec lpar 0 1 0 ∷ rec rsqb 1 2 0 ∷ rec rpar 2 3 0 ∷ [])) 3 ≡ found_at 1)
    × (audit_of (flat (rec lpar 0 1 0 ∷ rec lsqb 1 2 0 ∷ rec rsqb 2 3 0 ∷ rec rpar 3 4 0 ∷ [])) 4 ≡ found_at 4)
    × (audit_of (flat (rec lpar 0 1 0 ∷ rec lsqb 1 2 0 ∷ rec rpar 2 3 0 ∷ rec rsqb 3 4 0 ∷ [])) 4 ≡ found_at 2)
    × (first_lone_of (rec lpar 0 1 0 ∷ rec lsqb 1 2 0 ∷ rec rpar 2 3 0 ∷ rec rsqb 3 4 0 ∷ []) ≡ 4)
    × (audit_from 7 (replicate 199 lpar) (rec lsqb 0 1 0 ∷ []) ≡ found_at 8)
    × (audit_from 7 (replicate 200 lpar) (rec lsqb 0 1 0 ∷ []) ≡ too_many_open_at 7)
    × (audit_of [] 1 ≡ refusal wrong_edit))
unfolding is_line_end line_at rec_at recs_in set_rec puts flat string_kind code_of detail_of is_opener is_closer opener_of closes_latest audit_from audit_of first_lone first_lone_of
on_the_page = (
  (refl, refl, refl),
  (refl, refl, refl, refl, refl, refl, refl, refl, refl, refl, refl, refl, refl, refl, refl, refl),
  (refl, refl, refl, refl, refl, refl, refl, refl, refl, refl, refl, refl, refl, refl, refl),
  (refl, refl, refl, refl, refl, refl, refl),
)
