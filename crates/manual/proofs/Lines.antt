-- "Line start" and "Levels": blanks, notes, levels, and the rounds that begin at a line's start.
-- Assumes nothing.
use mathlib.Core.Path.{◌≡◌, refl}
use mathlib.Core.List.{[], ◌∷◌}
use Rattle.utf8.specs.Utf8.{decode_four}
use Rattle.utf8.specs.Chars.{decode_head, chars_from, width}
use Rattle.names.specs.Runs.{is_newline, not_newline}
use Rattle.token.specs.Kinds.{dedent, comment, non_logical_newline}
use Rattle.token.specs.declared.Ending.TheVariants.{IndentationError, TabError, TooDeep}
use Rattle.records.specs.Records.{spanned}
use Rattle.std.specs.Prelude.{Some, None, Ok, Err}
use Rattle.std.specs.declared.cmp.Ordering.TheVariants.{Less, Greater}
use Rattle.indentation.specs.declared.LevelChange.TheVariants.{Same, Indent, DedentTo}
use Rattle.indentation.specs.Blanks.{counted, stopped, blanks_from, blanks}
use Rattle.indentation.specs.Notes.{is_cr_lf, notes_from, notes}
use Rattle.indentation.specs.Levels.{most_levels, level, compare_strict, top_of, pop_by, pop_from, change_by, change_of}
use Rattle.rounds.specs.Rounds.{dedents}
use Rattle.manual.proofs.Texts.{start}

pub on_the_page : (blanks (start "\t  x") ≡ counted 3 1 2)
    × (blanks (start "  # c\n x") ≡ counted 7 0 1)
    × (blanks (start "  \u{c} x") ≡ counted 4 0 1)
    × (blanks (start "  ") ≡ counted 2 0 0)
    × (blanks (start " \t\n") ≡ stopped 1 0 1)
    × (notes (start " # c\r\n\nx") ≡ spanned comment 1 4 ∷ spanned non_logical_newline 4 6 ∷ spanned non_logical_newline 6 7 ∷ [])
    × (compare_strict 0 1 (level 1 1) ≡ Some Less)
    × (compare_strict 1 2 (level 1 1) ≡ Some Greater)
    × (compare_strict 1 0 (level 0 8) ≡ None)
    × (top_of [] ≡ level 0 0)
    × (change_of (level 0 4 ∷ []) 0 4 ≡ Ok Same)
    × (change_of (level 0 4 ∷ []) 0 8 ≡ Ok Indent)
    × (change_of (level 0 8 ∷ level 0 4 ∷ []) 0 4 ≡ Ok (DedentTo 1))
    × (change_of (level 0 8 ∷ level 0 4 ∷ []) 0 6 ≡ Err IndentationError)
    × (change_of (level 0 8 ∷ []) 1 0 ≡ Err TabError)
    × (change_by (Some Greater) most_levels (Ok Same) ≡ Err TooDeep)
    × (dedents 2 9 ≡ spanned dedent 9 9 ∷ spanned dedent 9 9 ∷ [])
unfolding decode_four decode_head chars_from width is_newline not_newline blanks_from blanks is_cr_lf notes_from notes compare_strict top_of
    pop_by pop_from change_by change_of dedents
on_the_page = (refl, refl, refl, refl, refl, refl, refl, refl, refl, refl, refl, refl, refl, refl, refl, refl, refl)
