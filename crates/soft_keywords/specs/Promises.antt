-- What the look-ahead promises: the second pass as a fold over the kinds of the tokens that follow a soft keyword; and the records that
-- it comes by.
use Rattle.std.specs.Prelude.{ℕ, ◌+◌, ◌≤◌, zero, suc, ◌≡◌, List, ◌∷◌, [], Bool, false, true, nat_abs}
use Rattle.records.specs.Records.{Spanned, spanned}
use Rattle.soft_keywords.specs.SoftKeywords.{match_from, keeps_type, type_from, stays_keyword}
use Rattle.soft_keywords.specs.declared.Search.{Search}
use Rattle.soft_keywords.specs.declared.Search.TheVariants.{Colon, Name, Equals, Decided}
use Rattle.token.specs.Kinds as K
use Rattle.indentation.specs.declared.Level.{Level}
use Rattle.rounds.specs.Rounds.{state, view}

-- what a search decides if these records follow
unfoldable pub decides : Search → List Spanned → Bool
decides (Colon n first lambda) rs = match_from n first lambda rs
decides Name rs = keeps_type rs
decides (Equals z) rs = type_from z rs
decides (Decided b) rs = b

-- and if no record follows
unfoldable pub decided : Search → Bool
decided (Colon n first lambda) = false
decided Name = false
decided (Equals z) = false
decided (Decided b) = b

-- how far its count of brackets is from zero
abbrev pub far : Search → ℕ
far (Colon n first lambda) = n
far Name = 0
far (Equals z) = nat_abs z
far (Decided b) = 0

-- a soft keyword of kind k begins x
pub record Begins (k : ℕ) (x : Search) : Type 0 where
  pub same : (rs : List Spanned) → decides x rs ≡ stays_keyword k rs
  pub near : far x ≤ 0

-- a token of kind k, after which y is the search: what it decides then is what it decided before
pub record Takes (x : Search) (k : ℕ) (y : Search) : Type 0 where
  pub same : (rs : List Spanned) (from to : ℕ) → decides y rs ≡ decides x (spanned k from to ∷ rs)
  pub near : far y ≤ far x + 1

-- the records from a place that is not at a line's start, whatever the levels are
abbrev pub recs_from : Bool → List ℕ → ℕ → ℕ → List Level → List Spanned
recs_from full t at nest ls = (view full t (state at false nest ls)).recs

-- the kind of the first record, a Newline's if there is none
unfoldable pub first_kind : List Spanned → ℕ
first_kind [] = K.newline
first_kind (r ∷ rs) = r.kind

-- what holds at once, or after an Indent or a Dedent: so a line starts behind so many of them
abbrev pub or_moved : Bool → ℕ → Bool
or_moved b zero = b
or_moved b (suc n) = true
