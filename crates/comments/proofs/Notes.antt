-- A note in the searches of the second pass: it is no bracket, no colon, no lambda, no `=`, no Newline and no name, so that a search that
-- passes it goes on as it was.
-- Assumes nothing.
use Prim.Native.Nat.{ℕ}
use mathlib.Core.Path.{◌≡◌, refl}
use mathlib.Core.List.{List, [], ◌∷◌}
use mathlib.Core.Bool.{Bool, true, false}
use mathlib.Core.Logic.{⊎_elim}
use borrow.Author.Tests.{eq-eqb}
use lib.Dec.{eqb}
use lib.IntN.{ℤ, pos}
use lib.Signed.{lt_z}
use Rattle.choice.specs.Choice.{choose}
use Rattle.choice.proofs.Laws.{both_none}
use Rattle.records.specs.Records.{Spanned}
use Rattle.token.specs.Brackets.{is_opener, is_closer}
use Rattle.lexer.specs.Steps.{is_note, is_listed, nest_after}
use Rattle.rounds.specs.Rounds.{listed_records}
use Rattle.rounds.proofs.Listed.{note_kinds}
use Rattle.soft_keywords.specs.Promises.{first_kind}
use Rattle.soft_keywords.specs.SoftKeywords.{keyword_colon, lambda_after, match_from, stands_for_name, square_count_after, is_zero, keyword_equals, passes, type_from, keeps_type, line_start_after}

either_way : (b c : Bool) → choose b (λ _. c) (λ _. c) ≡ c
either_way true c = refl
either_way false c = refl

-- ---- what a note is not
module _ (k : ℕ) (h : is_note k ≡ true) where
  by_kind : (P : ℕ → Type 0) → P 7 → P 8 → P k
  by_kind P a b = ⊎_elim (λ e. rw e a) (λ e. rw e b) (note_kinds k h)

  no_newline : eqb k 0 ≡ false
  no_newline = by_kind (λ m. eqb m 0 ≡ false) refl refl

  no_colon : (n : ℕ) (first lambda : Bool) → keyword_colon n first lambda k ≡ false
  unfolding keyword_colon
  no_colon n first lambda = by_kind (λ m. keyword_colon n first lambda m ≡ false) (both_none (eqb n 0)) (both_none (eqb n 0))

  no_lambda : (n : ℕ) (lambda : Bool) → lambda_after n lambda k ≡ lambda
  unfolding lambda_after
  no_lambda n lambda = by_kind (λ m. lambda_after n lambda m ≡ lambda) (either_way (eqb n 0) lambda) (either_way (eqb n 0) lambda)

  no_bracket : (n : ℕ) → nest_after n k ≡ n
  unfolding nest_after is_opener is_closer
  no_bracket n = by_kind (λ m. nest_after n m ≡ n) refl refl

  no_square : (z : ℤ) → square_count_after z k ≡ z
  unfolding square_count_after
  no_square z = by_kind (λ m. square_count_after z m ≡ z) refl refl

  no_equals : (z : ℤ) → keyword_equals z k ≡ false
  unfolding keyword_equals
  no_equals z = by_kind (λ m. keyword_equals z m ≡ false) (both_none (is_zero z)) (both_none (is_zero z))

  no_name : stands_for_name k ≡ false
  unfolding stands_for_name
  no_name = by_kind (λ m. stands_for_name m ≡ false) refl refl

  -- it is passed above zero only
  passed : (z : ℤ) → passes z k ≡ lt_z (pos 0) z
  unfolding passes
  passed z = by_kind (λ m. passes z m ≡ lt_z (pos 0) z) refl refl

  -- and no line starts after it that did not before
  pub line_stays : (line : Bool) → line_start_after line k ≡ line
  unfolding line_start_after
  line_stays line = rw h

-- ---- a list that begins with a note, and one that does not
module _ (r : Spanned) (rs : List Spanned) where
  pub unseen : is_note r.kind ≡ true → listed_records false (r ∷ rs) ≡ listed_records false rs
  unfolding listed_records is_listed
  unseen h = rw h

  pub kept : is_note r.kind ≡ false → listed_records false (r ∷ rs) ≡ r ∷ listed_records false rs
  unfolding listed_records is_listed
  kept h = rw h

  -- the searches pass a note, or stop at it
  module _ (h : is_note r.kind ≡ true) where
    pub match_past : (n : ℕ) (first lambda : Bool) → match_from n first lambda (r ∷ rs) ≡ match_from n false lambda rs
    unfolding match_from
    match_past n first lambda =
        rw (no_newline r.kind h, no_colon r.kind h n first lambda, no_lambda r.kind h n lambda, no_bracket r.kind h n)

    pub type_past : (z : ℤ) → lt_z (pos 0) z ≡ true → type_from z (r ∷ rs) ≡ type_from z rs
    unfolding type_from
    type_past z l =
        rw (no_newline r.kind h, no_equals r.kind h z, passed r.kind h z, l, no_square r.kind h z)

    pub keeps_none : keeps_type (r ∷ rs) ≡ false
    unfolding keeps_type
    keeps_none = rw (no_name r.kind h)

pub listed_nil : listed_records false [] ≡ []
unfolding listed_records
listed_nil = refl

-- ---- nothing is found where a Newline comes next, or nothing
pub match_over : (n : ℕ) (first lambda : Bool) (rs : List Spanned) → first_kind rs ≡ 0 → match_from n first lambda rs ≡ false
unfolding match_from first_kind
match_over n first lambda [] e = refl
match_over n first lambda (r ∷ rs) e = rw (eq-eqb _ _ e)

pub keeps_over : (rs : List Spanned) → first_kind rs ≡ 0 → keeps_type rs ≡ false
unfolding keeps_type first_kind stands_for_name
keeps_over [] e = refl
keeps_over (r ∷ rs) e = rw e
