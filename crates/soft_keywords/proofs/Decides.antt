-- A token's kind after the pass: each way that the code takes to it.
-- Assumes nothing.
use native.Mathlib.Omega.{arith}
use Prim.Native.Nat.{ℕ, ◌<◌, ◌≤◌}
use mathlib.Core.Path.{◌≡◌}
use mathlib.Core.List.{List}
use mathlib.Core.Bool.{Bool, true, false}
use borrow.Author.Tests.{lt-ltb, le-ltb}
use Rattle.indentation.specs.declared.Level.{Level}
use Rattle.soft_keywords.specs.SoftKeywords.{stays_keyword, soft_kind}
use Rattle.soft_keywords.specs.Promises.{recs_from}
use Rattle.token.specs.Kinds as K

module _ (full : Bool) (t : List ℕ) (at : ℕ) (line : Bool) (k : ℕ) where
  abbrev pub Soft : ℕ → Type 0
  Soft r = (nest : ℕ) (ls : List Level) → (line ≡ true → K.first_soft ≤ k → nest ≡ 0) → r ≡ soft_kind line k (recs_from full t at nest ls)

  pub soft_other : k < K.first_soft → Soft k
  unfolding soft_kind
  soft_other h nest ls z = rw (lt-ltb k K.first_soft h)

  module _ (h : K.first_soft ≤ k) where
    pub soft_mid : line ≡ false → Soft K.name
    unfolding soft_kind
    soft_mid l nest ls z = rw (le-ltb k K.first_soft h, l)

    module _ (l : line ≡ true) (b : Bool) (q : (ls : List Level) → stays_keyword k (recs_from full t at 0 ls) ≡ b) where
      pub soft_yes : b ≡ true → Soft k
      unfolding soft_kind
      soft_yes y nest ls z = rw (z l (omega arith), le-ltb k K.first_soft h, l, q ls, y)

      pub soft_no : b ≡ false → Soft K.name
      unfolding soft_kind
      soft_no y nest ls z = rw (z l (omega arith), le-ltb k K.first_soft h, l, q ls, y)
