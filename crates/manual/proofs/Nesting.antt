-- "Brackets": what an item does within so many brackets, and which records are notes.
-- Assumes nothing.
use mathlib.Core.Path.{◌≡◌, refl}
use mathlib.Core.Bool.{true, false}
use Rattle.utf8.specs.Utf8.{decode_four}
use Rattle.utf8.specs.Chars.{decode_head, chars_from, letters}
use Rattle.token.specs.Kinds.{newline, name, comment, non_logical_newline, lpar, rpar, rsqb}
use Rattle.token.specs.declared.Ending.TheVariants.{Eof, NestingError}
use Rattle.lexer.specs.declared.Step.TheVariants.{Tok, Newline, Error, End}
use Rattle.lexer.specs.Items.{item_at}
use Rattle.token.specs.Brackets.{is_opener, is_closer}
use Rattle.lexer.specs.Steps.{is_note, is_listed, nest_after, token_step, step_of, step_at}

pub on_the_page : (token_step 0 lpar 1 ≡ Tok lpar 1 1)
    × (token_step 1 rsqb 2 ≡ Tok rsqb 2 0)
    × (token_step 0 rpar 2 ≡ Error NestingError 2)
    × (nest_after 2 rpar ≡ 1)
    × (token_step 0 newline 2 ≡ Newline 2)
    × (token_step 1 newline 2 ≡ Tok non_logical_newline 2 1)
    × (step_at (letters "(") 1 1 ≡ Error Eof 1)
    × (step_at (letters "x") 1 0 ≡ End)
    × (is_note comment ≡ true)
    × (is_listed false comment ≡ false)
    × (is_listed false name ≡ true)
unfolding decode_four decode_head chars_from item_at is_note is_listed is_opener is_closer nest_after token_step step_of step_at
on_the_page = (refl, refl, refl, refl, refl, refl, refl, refl, refl, refl, refl)
