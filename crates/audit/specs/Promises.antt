-- What the audit keeps from record to record: the answer that is left to find.
use Rattle.std.specs.Prelude.{ℕ, ◌-◌, ◌≤◌, ◌≡◌, List, length}
use Rattle.stacks.specs.Promises.{stack_in}
use Rattle.records.specs.Records.{recs_in}
use Rattle.audit.specs.Audits.{most_open, audit_from, audit_of}

-- the open openers in the array: its first places, the latest first
abbrev pub open_in : List ℕ → ℕ → List ℕ
open_in a depth = stack_in 0 a depth

-- so many records of a row are audited up to the record i, behind which so many openers are open in the array
pub record Scan (row : List ℕ) (old i : ℕ) (a : List ℕ) (depth : ℕ) : Type 0 where
  pub array : length a ≡ most_open
  pub few : depth ≤ most_open
  pub same : audit_from i (open_in a depth) (recs_in row i (old - i)) ≡ audit_of row old
