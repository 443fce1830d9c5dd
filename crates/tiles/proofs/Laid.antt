-- Records laid out from one byte to another: with blanks between them, and notes that stand for comments and newlines. Both promises are
-- read off this, and lists that are laid out one behind the other are so together.
-- Assumes nothing.
use Prim.Native.Nat.{ℕ, zero, suc, ◌≤◌}
use mathlib.Core.Path.{◌≡◌}
use mathlib.Core.List.{List, [], ◌∷◌, ◌++◌}
use native.Mathlib.Omega.{arith}
use Rattle.token.specs.Kinds as K
use Rattle.rounds.specs.Rounds.{last_end, dedents}
use Rattle.records.specs.Records.{Spanned, spanned}
use Rattle.tiles.specs.Notes.{NewlineIn, Stands, AllStand}
use Rattle.tiles.specs.Notes.NewlineIn.{lf, cr, crlf}
use Rattle.tiles.specs.Tiles.{Blank, Tiled}
use Rattle.tiles.specs.Tiles.Blank.{none, space, tab, feed, join}

-- ---- blanks
pub blank_then : {t : List ℕ} {i j k : ℕ} → Blank t i j → Blank t j k → Blank t i k
blank_then none y = y
blank_then (space e x) y = space e (blank_then x y)
blank_then (tab e x) y = tab e (blank_then x y)
blank_then (feed e x) y = feed e (blank_then x y)
blank_then (join e n x) y = join e n (blank_then x y)

pub newline_le : {t : List ℕ} {i j : ℕ} → NewlineIn t i j → i ≤ j
newline_le (lf e) = omega arith
newline_le (cr e f) = omega arith
newline_le (crlf e f) = omega arith

pub blank_le : {t : List ℕ} {i j : ℕ} → Blank t i j → i ≤ j
blank_le none = omega arith
blank_le (space e x) = omega (arith, blank_le x)
blank_le (tab e x) = omega (arith, blank_le x)
blank_le (feed e x) = omega (arith, blank_le x)
blank_le (join e n x) = omega (arith, newline_le n, blank_le x)

-- ---- records
abbrev pub Laid : List ℕ → ℕ → List Spanned → ℕ → Type 0
Laid t from [] to = Blank t from to
Laid t from (r ∷ rs) to = Blank t from r.start × (r.start ≤ r.end) × Stands t r × Laid t r.end rs to

-- a record that is no note stands for itself
pub other_stands : (t : List ℕ) (k s e : ℕ) → (k ≡ K.comment → ⊥) → (k ≡ K.non_logical_newline → ⊥) → Stands t (spanned k s e)
other_stands t k s e a b = record { comment = λ z. absurd (a z); newline = λ z. absurd (b z) }

module _ (t : List ℕ) where
  -- behind blanks, and one list behind another
  pub laid_behind : (a b c : ℕ) (rs : List Spanned) → Blank t a b → Laid t b rs c → Laid t a rs c
  laid_behind a b c [] x l = blank_then x l
  laid_behind a b c (r ∷ rs) x l = (blank_then x l.0, l.1, l.2, l.3)

  pub laid_then : (a b c : ℕ) (xs ys : List Spanned) → Laid t a xs b → Laid t b ys c → Laid t a (xs ++ ys) c
  laid_then a b c [] ys x y = laid_behind a b c ys x y
  laid_then a b c (r ∷ xs) ys x y = (x.0, x.1, x.2, laid_then r.end b c xs ys x.3 y)

  -- before blanks
  pub laid_before : (a b c : ℕ) (rs : List Spanned) → Laid t a rs b → Blank t b c → Laid t a rs c
  laid_before a b c [] l x = blank_then l x
  laid_before a b c (r ∷ rs) l x = (l.0, l.1, l.2, laid_before r.end b c rs l.3 x)

  -- one record, and Dedents
  pub laid_one : (k s e : ℕ) → s ≤ e → Stands t (spanned k s e) → Laid t s (spanned k s e ∷ []) e
  laid_one k s e h x = (none, h, x, none)

  pub laid_dedents : (n p : ℕ) → Laid t p (dedents n p) p
  unfolding dedents
  laid_dedents zero p = none
  laid_dedents (suc n) p = (none, omega arith, other_stands t 2 p p (omega arith) (omega arith), laid_dedents n p)

  -- ---- what they say
  pub laid_stand : (a b : ℕ) (rs : List Spanned) → Laid t a rs b → AllStand t rs
  laid_stand a b [] l = tt
  laid_stand a b (r ∷ rs) l = (l.2, laid_stand r.end b rs l.3)

  pub laid_tiled : (a b : ℕ) (rs : List Spanned) → Laid t a rs b → Tiled (Blank t) a rs b
  laid_tiled a b [] l = l
  laid_tiled a b (r ∷ rs) l = (blank_le l.0, l.1, l.0, laid_tiled r.end b rs l.3)

-- without the last gap, of whatever sort the gaps are
pub tiled_last : (Gap : ℕ → ℕ → Type 0) → ((i : ℕ) → Gap i i) → ((i j : ℕ) → Gap i j → i ≤ j)
    → (a b : ℕ) (rs : List Spanned) → Tiled Gap a rs b → Tiled Gap a rs (last_end a rs) × (last_end a rs ≤ b)
unfolding last_end
tiled_last Gap empty le a b [] l = (empty a, le a b l)
tiled_last Gap empty le a b (r ∷ rs) l = let n = tiled_last Gap empty le r.end b rs l.3 in ((l.0, l.1, l.2, n.0), n.1)
