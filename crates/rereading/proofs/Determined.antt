-- Any two results that the contract of `reread` allows coincide: the answer, and the row at exit (the third parameter).
-- Assumes nothing.
use mathlib.Core.Path.{◌≡◌, sym, ◌∙◌}
use Rattle.rereading.proofs.reread.Reads as reads

pub reread_determined : (κs : _) (a : _) (r₁ r₂ : _) (e₁ e₂ : _) → reads.Post κs a r₁ e₁ → reads.Post κs a r₂ e₂ → (r₁ ≡ r₂) × (e₁.1.1.0.now ≡ e₂.1.1.0.now)
reread_determined κs a r₁ r₂ e₁ e₂ p q = (p.0 ∙ sym q.0, p.1 ∙ sym q.1)
