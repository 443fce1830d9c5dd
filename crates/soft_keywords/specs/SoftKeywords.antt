-- Document 01 "The second pass", the original's `SoftKeywordTransformer`: which soft keywords stay keywords, told from the raw records that
-- follow. An error cuts those short. Reference 2.3.2 leaves this to the parser: the rule is the original's.
use Rattle.std.specs.Prelude.{ℕ, List, [], ◌∷◌, Bool, true, false, not, eqb, ltb, leb, ℤ, pos, negsuc, ◌+ℤ◌, ◌-ℤ◌}
use Rattle.std.specs.Int.Signed.{lt_z}
use Rattle.choice.specs.Choice.{choose, both, either}
use Rattle.token.specs.Kinds as K
use Rattle.lexer.specs.Steps.{is_note, nest_after}
use Rattle.records.specs.Records.{Spanned, spanned}

-- the colon that makes a keyword, of a kind k where n brackets are open: outside brackets, not the very next token, no lambda since the
-- colon before it
unfoldable pub keyword_colon : ℕ → Bool → Bool → ℕ → Bool
keyword_colon n first lambda k = both (eqb n 0) (both (eqb k K.colon) (both (not first) (not lambda)))

-- whether a lambda outside brackets stands after the nearest colon outside brackets, or else the keyword
unfoldable pub lambda_after : ℕ → Bool → ℕ → Bool
lambda_after n lambda k =
    choose (eqb n 0) (λ _. choose (eqb k K.colon) (λ _. false) (λ _. choose (eqb k K.lambda) (λ _. true) (λ _. lambda))) (λ _. lambda)

-- such a colon before Newline, where n brackets are open
unfoldable pub match_from : ℕ → Bool → Bool → List Spanned → Bool
match_from n first lambda [] = false
match_from n first lambda (r ∷ rs) =
    choose (eqb r.kind K.newline) (λ _. false)
    (λ _. choose (keyword_colon n first lambda r.kind) (λ _. true)
    (λ _. match_from (nest_after n r.kind) false (lambda_after n lambda r.kind) rs))

-- whether what follows `match` or `case` keeps it a keyword
unfoldable pub keeps_match : List Spanned → Bool
keeps_match rs = match_from 0 true false rs

-- a Name, or a soft keyword in its place: no kind is above these
unfoldable pub stands_for_name : ℕ → Bool
stands_for_name k = either (eqb k K.name) (leb K.first_soft k)

-- the count of `[` less `]` after a kind: it may fall below zero and rise again
unfoldable pub square_count_after : ℤ → ℕ → ℤ
square_count_after z k = choose (eqb k K.lsqb) (λ _. z +ℤ pos 1) (λ _. choose (eqb k K.rsqb) (λ _. z -ℤ pos 1) (λ _. z))

-- a count of zero
unfoldable pub is_zero : ℤ → Bool
is_zero (pos n) = eqb n 0
is_zero (negsuc n) = false

-- the `=` that makes a keyword: where the count is zero
unfoldable pub keyword_equals : ℤ → ℕ → Bool
keyword_equals z k = both (is_zero z) (eqb k K.equal)

-- what the search passes: square brackets at any count, and any token above zero
unfoldable pub passes : ℤ → ℕ → Bool
passes z k = either (eqb k K.lsqb) (either (eqb k K.rsqb) (lt_z (pos 0) z))

-- such an `=` before Newline
unfoldable pub type_from : ℤ → List Spanned → Bool
type_from z [] = false
type_from z (r ∷ rs) =
    choose (eqb r.kind K.newline) (λ _. false)
    (λ _. choose (keyword_equals z r.kind) (λ _. true)
    (λ _. choose (passes z r.kind) (λ _. type_from (square_count_after z r.kind) rs) (λ _. false)))

-- whether what follows `type` keeps it a keyword
unfoldable pub keeps_type : List Spanned → Bool
keeps_type [] = false
keeps_type (r ∷ rs) = choose (stands_for_name r.kind) (λ _. type_from (pos 0) rs) (λ _. false)

-- whether a soft keyword at a line's start stays one
unfoldable pub stays_keyword : ℕ → List Spanned → Bool
stays_keyword k rs = choose (ltb k K.type) (λ _. keeps_match rs) (λ _. keeps_type rs)

-- a kind after the pass, by whether it stands at a line's start and by the raw records that follow (the original's `soft_to_name`)
unfoldable pub soft_kind : Bool → ℕ → List Spanned → ℕ
soft_kind line k rs =
    choose (ltb k K.first_soft) (λ _. k)
    (λ _. choose line (λ _. choose (stays_keyword k rs) (λ _. k) (λ _. K.name)) (λ _. K.name))

-- whether a line starts after a kind: after Newline, Indent and Dedent, and a note changes nothing
unfoldable pub line_start_after : Bool → ℕ → Bool
line_start_after line k = choose (is_note k) (λ _. line) (λ _. leb k K.dedent)

-- the pass over raw records, of which the first stands at a line's start or not
unfoldable pub soften : Bool → List Spanned → List Spanned
soften line [] = []
soften line (r ∷ rs) = spanned (soft_kind line r.kind rs) r.start r.end ∷ soften (line_start_after line r.kind) rs
