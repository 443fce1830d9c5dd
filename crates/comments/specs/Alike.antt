-- Document 02 item 1 without its premise: what the records of other kinds have in common all the same.
use Rattle.std.specs.Prelude.{ℕ, ◌≡◌, List, [], ◌∷◌, ◌⊎◌}
use Rattle.records.specs.Records.{Spanned}
use Rattle.token.specs.Kinds as K

-- a kind that the pass may leave of `type`: the keyword or a Name
abbrev pub TypeOrName : ℕ → Type 0
TypeOrName k = (k ≡ K.type) ⊎ (k ≡ K.name)

-- a raw record r as two passes leave it: only a `type` may be a keyword after one and a Name after the other
pub record Alike (r x y : Spanned) : Type 0 where
  pub starts : (x.start ≡ r.start) × (y.start ≡ r.start)
  pub ends : (x.end ≡ r.end) × (y.end ≡ r.end)
  pub others : (r.kind ≡ K.type → ⊥) → x.kind ≡ y.kind
  pub types : r.kind ≡ K.type → TypeOrName x.kind × TypeOrName y.kind

-- two lists as long as the raw one, record by record
pub data AllAlike : List Spanned → List Spanned → List Spanned → Type 0 where
  none : AllAlike [] [] []
  one : {r x y : Spanned} {rs xs ys : List Spanned} → Alike r x y → AllAlike rs xs ys → AllAlike (r ∷ rs) (x ∷ xs) (y ∷ ys)
