-- Any two results that the contract of `audit` allows coincide, whatever the slice is made of.
-- Assumes nothing.
use mathlib.Core.Path.{◌≡◌, sym, ◌∙◌}
use Rattle.audit.proofs.audit.Reads as reads

pub audit_determined : (T laws copy slot slot_dict clone clone_dict : _) (κs : _) (a : _) (r₁ r₂ : _) (e₁ e₂ : _)
    → reads.Post T laws copy slot slot_dict clone clone_dict κs a r₁ e₁ → reads.Post T laws copy slot slot_dict clone clone_dict κs a r₂ e₂ → r₁ ≡ r₂
audit_determined T laws copy slot slot_dict clone clone_dict κs a r₁ r₂ e₁ e₂ p q = p ∙ sym q
