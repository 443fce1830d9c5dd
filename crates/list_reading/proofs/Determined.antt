-- Any two results that the contract of `read` allows coincide: the answer, and the list at exit. And the two doors show the same
-- records: what is left in the list is, as a row, what `reading::read` leaves in the list's row.
-- Assumes nothing.
use Prim.Native.Nat.{ℕ}
use mathlib.Core.Path.{◌≡◌, sym, ◌∙◌}
use mathlib.Core.List.{List}
use Rattle.token.specs.declared.Record.{Record}
use Rattle.answers.specs.declared.Answer.{Answer}
use Rattle.reading.specs.Answers.{read_answer, read_row}
use Rattle.records.specs.Records.{flat}
use Rattle.records.proofs.Flats.{flat_tells}
use Rattle.list_reading.specs.Door.{ReadsInto}

module _ (t : List ℕ) (mode start : ℕ) (list : List Record) (r₁ r₂ : Answer) (l₁ l₂ : List Record) where
  pub read_determined : ReadsInto t mode start list r₁ l₁ → ReadsInto t mode start list r₂ l₂ → (r₁ ≡ r₂) × (l₁ ≡ l₂)
  read_determined p q = (p.answer ∙ sym q.answer, flat_tells l₁ l₂ (p.records ∙ sym q.records))

-- a row that the first door leaves of the list's row
pub same_doors : (t : List ℕ) (mode start : ℕ) (list after : List Record) (r r' : Answer) (row : List ℕ) → ReadsInto t mode start list r after
    → r' ≡ read_answer t mode start (flat list) → row ≡ read_row t mode start (flat list) → (r ≡ r') × (flat after ≡ row)
same_doors t mode start list after r r' row p e f = (p.answer ∙ sym e, p.records ∙ sym f)
