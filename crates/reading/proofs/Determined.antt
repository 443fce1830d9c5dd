-- Any two results that the contract of `read` allows coincide: the answer, and the row at exit (the fourth parameter). So do those of `measure`.
-- Assumes nothing.
use mathlib.Core.Path.{◌≡◌, sym, ◌∙◌}
use Rattle.reading.proofs.read.Reads as reads
use Rattle.reading.proofs.measure.Reads as measures

pub read_determined : (κs : _) (a : _) (r₁ r₂ : _) (e₁ e₂ : _) → reads.Post κs a r₁ e₁ → reads.Post κs a r₂ e₂ → (r₁ ≡ r₂) × (e₁.1.1.1.0.now ≡ e₂.1.1.1.0.now)
read_determined κs a r₁ r₂ e₁ e₂ p q = (p.0 ∙ sym q.0, p.1 ∙ sym q.1)

pub measure_determined : (κs : _) (a : _) (r₁ r₂ : _) (e₁ e₂ : _) → measures.Post κs a r₁ e₁ → measures.Post κs a r₂ e₂ → r₁ ≡ r₂
measure_determined κs a r₁ r₂ e₁ e₂ p q = p ∙ sym q
