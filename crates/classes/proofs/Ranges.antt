-- Laws of lists of ranges: which ranges cannot hold a character, and what the order of a list says.
-- Assumes nothing.
use mathlib.Core.Bool.{true, false}
use mathlib.Core.List.{List, [], ◌∷◌}
use mathlib.Core.Path.{◌≡◌, sym}
use Prim.Native.Nat.{ℕ, suc, ◌≤◌, ◌<◌}
use lib.Dec.{leb}
use borrow.Author.Tests.{leb-true, lt-leb}
use Rattle.choice.specs.Choice.{both}
use Rattle.choice.proofs.Laws.{both_left, both_right, both_none, true_is_not_false}
use Rattle.classes.specs.Promises.{ordered}

-- a range that ends below c does not hold it
pub ends_below : (low high c : ℕ) → high < c → both (leb low c) (leb c high) ≡ false
ends_below low high c h = rw (lt-leb c high h) (both_none (leb low c))

-- nor does one that begins above it
pub begins_above : (low high c : ℕ) → c < low → both (leb low c) (leb c high) ≡ false
begins_above low high c h = rw (lt-leb low c h)

-- a list that breaks off within a range is in no order
pub not_whole : (from low : ℕ) → ordered from (low ∷ []) ≡ true → ⊥
unfolding ordered
not_whole from low o = true_is_not_false (sym o)

-- what the order of a list with a first range says
module _ (from low high : ℕ) (rest : List ℕ) (o : ordered from (low ∷ high ∷ rest) ≡ true) where
  behind : both (leb low high) (ordered (suc high) rest) ≡ true
  unfolding ordered
  behind = both_right (leb from low) (both (leb low high) (ordered (suc high) rest)) o

  pub begins : from ≤ low
  unfolding ordered
  begins = leb-true from low (both_left (leb from low) (both (leb low high) (ordered (suc high) rest)) o)

  pub ends : low ≤ high
  ends = leb-true low high (both_left (leb low high) (ordered (suc high) rest) behind)

  pub others : ordered (suc high) rest ≡ true
  others = both_right (leb low high) (ordered (suc high) rest) behind
