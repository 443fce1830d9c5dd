-- Any two results that the contract of a list's audit allows coincide, and they are the row's.
-- Assumes nothing.
use Prim.Native.Nat.{ℕ}
use mathlib.Core.Path.{◌≡◌, sym, ◌∙◌}
use mathlib.Core.List.{List}
use Rattle.token.specs.declared.Record.{Record}
use Rattle.answers.specs.declared.Answer.{Answer}
use Rattle.records.specs.Records.{flat}
use Rattle.audit.specs.Audits.{audit_of}

module _ (l : List Record) (old : ℕ) (r₁ : Answer) (p : r₁ ≡ audit_of (flat l) old) where
  pub audit_determined : (r₂ : Answer) → r₂ ≡ audit_of (flat l) old → r₁ ≡ r₂
  audit_determined r₂ q = p ∙ sym q

  -- the two doors: a row with the list's numbers is answered alike
  pub audit_doors : (row : List ℕ) (r₂ : Answer) → row ≡ flat l → r₂ ≡ audit_of row old → r₁ ≡ r₂
  audit_doors row r₂ e q = rw (← e) at (p) ∙ sym q
