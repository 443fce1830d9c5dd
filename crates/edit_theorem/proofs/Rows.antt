-- The last of some records: what a row has of a reading's Newline.
-- Assumes nothing.
use Prim.Native.Nat.{ℕ, zero, suc, ◌+◌}
use mathlib.Core.Path.{◌≡◌, refl}
use mathlib.Core.List.{List, [], ◌∷◌, ◌++◌, map}
use mathlib.Core.Bool.{Bool}
use native.Mathlib.Omega.{arith}
use native.Mathlib.Nat.{add-zero, zero-add}
use Rattle.lines.specs.Lines.{line_at}
use Rattle.token.specs.declared.Record.{Record}
use Rattle.records.specs.Records.{Spanned, spanned, record_in, rec_at, recs_in}
use Rattle.soft_keywords.specs.SoftKeywords.{soft_kind, line_start_after, soften}

-- the last record, d where there is none
abbrev pub last : Record → List Record → Record
last d [] = d
last d (r ∷ rs) = last r rs

pub last_row : (row : List ℕ) (n i : ℕ) (d : Record) → last d (recs_in row i (suc n)) ≡ rec_at row (i + n)
unfolding recs_in
last_row row zero i d = rw add-zero
last_row row (suc n) i d = let e : i + suc n ≡ i + 1 + n = omega arith in rw e (last_row row n (i + 1) (rec_at row i))

-- the record of N, whatever the second pass makes of its kind
pub record Stands (t : List ℕ) (N : Spanned) (r : Record) : Type 0 where
  pub start : r.start ≡ N.start
  pub end : r.end ≡ N.end
  pub line : r.line ≡ line_at t N.start

pub last_soft : (t : List ℕ) (line : Bool) (pre : List Spanned) (N : Spanned) (d : Record) → Stands t N (last d (map (record_in t 0) (soften line (pre ++ N ∷ []))))
unfolding soften
last_soft t line [] N d = record { start = zero-add N.start; end = zero-add N.end; line = refl }
last_soft t line (r ∷ pre) N d = last_soft t (line_start_after line r.kind) pre N (record_in t 0 (spanned (soft_kind line r.kind (pre ++ N ∷ [])) r.start r.end))
