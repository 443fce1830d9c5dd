-- Document 02 item 1: the premise on which records of other kinds are the same with notes (modes 3 to 5) as without (modes 0 to 2). A search
-- for the `=` of `type` passes a note where the count of square brackets is above zero, as it passes any token there, and stops at
-- a note elsewhere: no search may meet one there.
use Rattle.std.specs.Prelude.{List, [], ◌∷◌, Bool, true, false, eqb, leb, ℤ, pos}
use Rattle.std.specs.Int.Signed.{lt_z}
use Rattle.choice.specs.Choice.{choose, both}
use Rattle.token.specs.Kinds as K
use Rattle.records.specs.Records.{Spanned}
use Rattle.lexer.specs.Steps.{is_note}
use Rattle.soft_keywords.specs.SoftKeywords.{square_count_after, keyword_equals, passes, stands_for_name, line_start_after}

-- a search at a count, over the records that follow, with their notes: it meets no note at a count of zero or below
unfoldable pub clear_from : ℤ → List Spanned → Bool
clear_from z [] = true
clear_from z (r ∷ rs) =
    choose (is_note r.kind) (λ _. choose (lt_z (pos 0) z) (λ _. clear_from z rs) (λ _. false))
    (λ _. choose (eqb r.kind K.newline) (λ _. true)
    (λ _. choose (keyword_equals z r.kind) (λ _. true)
    (λ _. choose (passes z r.kind) (λ _. clear_from (square_count_after z r.kind) rs) (λ _. true))))

-- what follows `type`: behind a Name, or a soft keyword in its place, the search begins, at a count of zero
unfoldable pub clear_type : List Spanned → Bool
clear_type [] = true
clear_type (r ∷ rs) = choose (stands_for_name r.kind) (λ _. clear_from (pos 0) rs) (λ _. true)

-- no search of the second pass meets a note there; one begins behind each `type` that stands at a line's start
unfoldable pub clear : Bool → List Spanned → Bool
clear line [] = true
clear line (r ∷ rs) =
    both (choose (both line (leb K.type r.kind)) (λ _. clear_type rs) (λ _. true)) (clear (line_start_after line r.kind) rs)
