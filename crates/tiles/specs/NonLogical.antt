-- Document 02 items 1 and 8: which newlines are of kind 8. One ends a blank or comment line, so that only notes stand behind the last Newline,
-- or it is inside brackets (Reference 2.1.7 and 2.1.6).
use Rattle.std.specs.Prelude.{ℕ, ◌<◌, ◌≡◌, List, [], ◌∷◌, Bool, true, ◌⊎◌, eqb}
use Rattle.choice.specs.Choice.{choose}
use Rattle.token.specs.Kinds as K
use Rattle.records.specs.Records.{Spanned}
use Rattle.lexer.specs.Steps.{is_note, nest_after}

-- whether only notes have come since the last Newline, after a record of a kind
unfoldable pub only_notes_since : Bool → ℕ → Bool
only_notes_since start k = choose (is_note k) (λ _. start) (λ _. eqb k K.newline)

-- records at a line's start or not, and inside so many brackets
abbrev pub NonLogical : Bool → ℕ → List Spanned → Type 0
NonLogical start nest [] = Unit
NonLogical start nest (r ∷ rs) =
    (r.kind ≡ K.non_logical_newline → (start ≡ true) ⊎ (0 < nest)) × NonLogical (only_notes_since start r.kind) (nest_after nest r.kind) rs
