-- Records stand in order, so that those up to a Newline start before its end, and those behind it do not: which are moved is told by their start.
-- Assumes nothing.
use Prim.Native.Nat.{ℕ, ◌<◌, ◌≤◌}
use mathlib.Core.Path.{◌≡◌, refl, subst}
use mathlib.Core.List.{List, [], ◌∷◌, ◌++◌}
use mathlib.Core.Bool.{false}
use native.Mathlib.Omega.{arith}
use borrow.Author.Tests.{lt-ltb, le-ltb}
use lib.ListN.{length}
use Rattle.choice.proofs.Laws.{choose_keeps}
use Rattle.records.specs.Records.{Spanned}
use Rattle.lexer.specs.Steps.{is_listed}
use Rattle.rounds.specs.Rounds.{State, raw_reading, last_end, listed_records, view}
use Rattle.tiles.specs.Tiles.{Blank, BlankOrNotes, Tiled}
use Rattle.tiles.proofs.Readings.{none_before_last}
use Rattle.tiles.proofs.Papers.{paper_before_last}
use Rattle.margin_comments.specs.Moved.{moved_behind, all_moved_behind}
use Rattle.margin_comments.proofs.Rounds.{all_moved_lem}

-- all records of a list start before a place, or none does
abbrev pub Before : ℕ → List Spanned → Type 0
Before place [] = Unit
Before place (r ∷ rs) = (r.start < place) × Before place rs

abbrev pub Behind : ℕ → List Spanned → Type 0
Behind place [] = Unit
Behind place (r ∷ rs) = (place ≤ r.start) × Behind place rs

module _ (place n : ℕ) where
  pub before_stay : (rs : List Spanned) → Before place rs → all_moved_behind place n rs ≡ rs
  unfolding moved_behind
  before_stay [] b = refl
  before_stay (r ∷ rs) b = rw (lt-ltb r.start place b.0, before_stay rs b.1)

  pub behind_move : (rs : List Spanned) → Behind place rs → all_moved_behind place n rs ≡ all_moved_lem n rs
  unfolding moved_behind
  behind_move [] b = refl
  behind_move (r ∷ rs) b = rw (le-ltb r.start place b.0, behind_move rs b.1)

-- records that are tiled up to one, and from one byte on
module _ (Gap : ℕ → ℕ → Type 0) where
  tiled_from : (from to : ℕ) (xs ys : List Spanned) (N : Spanned) → Tiled Gap from (xs ++ N ∷ ys) to → from ≤ N.start
  tiled_from from to [] ys N t = t.0
  tiled_from from to (x ∷ xs) ys N t = omega (arith, t.0, t.1, tiled_from x.end to xs ys N t.3)

  tiled_before : (place from to : ℕ) (xs ys : List Spanned) (N : Spanned) → Tiled Gap from (xs ++ N ∷ ys) to → N.start < place → Before place (xs ++ N ∷ [])
  tiled_before place from to [] ys N t h = (h, tt)
  tiled_before place from to (x ∷ xs) ys N t h = (omega (arith, t.1, tiled_from x.end to xs ys N t.3), tiled_before place x.end to xs ys N t.3 h)

  tiled_behind : (place from to : ℕ) (rs : List Spanned) → Tiled Gap from rs to → place ≤ from → Behind place rs
  tiled_behind place from to [] t h = tt
  tiled_behind place from to (r ∷ rs) t h = (omega (arith, t.0), tiled_behind place r.end to rs t.3 (omega (arith, t.0, t.1)))

listed_before : (place : ℕ) (rs : List Spanned) → Before place rs → Before place (listed_records false rs)
unfolding listed_records
listed_before place [] b = tt
listed_before place (r ∷ rs) b =
    choose_keeps (Before place) (is_listed false r.kind) (λ _. (b.0, listed_before place rs b.1)) (λ _. listed_before place rs b.1)

-- of a reading's records, all start where it does or behind, and those up to a Newline start before its end
module _ (t : List ℕ) (s : State) (h : s.at ≤ length t) where
  pub reading_behind : Behind s.at (view false t s).recs
  reading_behind =
      let rs = (view false t s).recs in
      tiled_behind (BlankOrNotes t) s.at s.at (last_end s.at rs) rs (paper_before_last t s h).0 (omega arith)

  pub up_to_before : (place : ℕ) (pre post : List Spanned) (N : Spanned) → (raw_reading t s).recs ≡ pre ++ N ∷ post → N.start < place → Before place (listed_records false (pre ++ N ∷ []))
  up_to_before place pre post N e k =
      let rs = (raw_reading t s).recs in
      let x : Tiled (Blank t) s.at (pre ++ N ∷ post) (last_end s.at rs) = subst (λ (l : List Spanned). Tiled (Blank t) s.at l (last_end s.at rs)) e (none_before_last t s h).0 in
      listed_before place (pre ++ N ∷ []) (tiled_before (Blank t) place s.at (last_end s.at rs) pre post N x k)
