-- Any two results that the contract of `reread` allows coincide: the answer, and the list at exit. And the two doors show the same
-- records: what is left in the list is, as a row, what `rereading::reread` leaves in the list's row.
-- Assumes nothing.
use Prim.Native.Nat.{ℕ}
use mathlib.Core.Path.{◌≡◌, sym, ◌∙◌}
use mathlib.Core.List.{List}
use Rattle.token.specs.declared.Record.{Record}
use Rattle.answers.specs.declared.Answer.{Answer}
use Rattle.rereading.specs.Rereads.{reread_answer, reread_row}
use Rattle.records.specs.Records.{flat}
use Rattle.records.proofs.Flats.{flat_tells}
use Rattle.list_rereading.specs.Door.{RereadsInto}

module _ (t : List ℕ) (mode : ℕ) (l : List Record) (old a : ℕ) (r₁ : Answer) (l₁ : List Record) (p : RereadsInto t mode l old a r₁ l₁) where
  pub reread_determined : (r₂ : Answer) (l₂ : List Record) → RereadsInto t mode l old a r₂ l₂ → (r₁ ≡ r₂) × (l₁ ≡ l₂)
  reread_determined r₂ l₂ q = (p.answer ∙ sym q.answer, flat_tells l₁ l₂ (p.records ∙ sym q.records))

  -- the first door, for the list's row
  pub reread_doors : (r₂ : Answer) (row : List ℕ) → r₂ ≡ reread_answer t mode (flat l) old a → row ≡ reread_row t mode (flat l) old a → (r₁ ≡ r₂) × (flat l₁ ≡ row)
  reread_doors r₂ row e f = (p.answer ∙ sym e, p.records ∙ sym f)
