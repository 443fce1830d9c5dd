-- Document 01 "Brackets" and "End", Reference 2.1.6, the original's `consume_character` and `consume_normal`: what an item does within so
-- many brackets. That one counter does for all kinds of brackets is the original's.
use Rattle.std.specs.Prelude.{ℕ, ◌+◌, ◌-◌, List, Bool, true, eqb}
use Rattle.choice.specs.Choice.{choose}
use Rattle.window.specs.Place.{place_at}
use Rattle.token.specs.declared.Token.TheVariants as N
use Rattle.token.specs.declared.Item.{Item}
use Rattle.token.specs.declared.Item.TheVariants as I
use Rattle.token.specs.declared.Ending.TheVariants as E
use Rattle.token.specs.Kinds as K
use Rattle.token.specs.Brackets.{is_opener, is_closer}
use Rattle.token.specs.Codes.{kind_of}
use Rattle.lexer.specs.declared.Step.{Step}
use Rattle.lexer.specs.declared.Step.TheVariants as T
use Rattle.lexer.specs.Items.{item_at}

-- document 02 item 1: a comment (Reference 2.1.3), and a newline that ends no logical line (2.1.6, 2.1.7)
unfoldable pub is_note : ℕ → Bool
is_note k = choose (eqb k K.comment) (λ _. true) (λ _. eqb k K.non_logical_newline)

-- whether a kind is listed: notes are where they are asked for
unfoldable pub is_listed : Bool → ℕ → Bool
is_listed full k = choose (is_note k) (λ _. full) (λ _. true)

-- the brackets that are open after a token
unfoldable pub nest_after : ℕ → ℕ → ℕ
nest_after nest k = choose (is_opener k) (λ _. nest + 1) (λ _. choose (is_closer k) (λ _. nest - 1) (λ _. nest))

-- a token within so many brackets: one counter for all kinds, and a closer at zero is code 22; a newline within ends no logical line
unfoldable pub token_step : ℕ → ℕ → ℕ → Step
token_step nest k e =
    choose (eqb k K.newline) (λ _. choose (eqb nest 0) (λ _. T.Newline e) (λ _. T.Tok (kind_of N.NonLogicalNewline) e nest))
    (λ _. choose (is_opener k) (λ _. T.Tok k e (nest + 1))
    (λ _. choose (is_closer k) (λ _. choose (eqb nest 0) (λ _. T.Error E.NestingError e) (λ _. T.Tok k e (nest - 1)))
    (λ _. T.Tok k e nest)))

-- an item within so many brackets; open brackets at the text's end, which is the byte `at`, are an error (code 21)
unfoldable pub step_of : ℕ → ℕ → Item → Step
step_of at nest (I.Tok k e) = token_step nest (kind_of k) e
step_of at nest (I.Gap e) = T.Gap e
step_of at nest I.End = choose (eqb nest 0) (λ _. T.End) (λ _. T.Error E.Eof at)
step_of at nest (I.Error w e) = T.Error w e

-- the item at a byte, within so many brackets
unfoldable pub step_at : List ℕ → ℕ → ℕ → Step
step_at t at nest = step_of at nest (item_at (place_at t at))
