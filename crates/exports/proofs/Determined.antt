-- Any two results that a door's contract allows coincide: the numbers of the answer, the row at exit, or the number that it returns.
-- At exit `.0` is the first parameter, `.1.0` the second, and so on.
-- Assumes nothing.
use mathlib.Core.Path.{◌≡◌, sym, ◌∙◌}
use Rattle.exports.proofs.srv_read.Reads as read
use Rattle.exports.proofs.srv_measure.Reads as measure
use Rattle.exports.proofs.srv_reread.Reads as reread
use Rattle.exports.proofs.srv_audit.Reads as audit
use Rattle.exports.proofs.srv_version.Reads as version
use Rattle.exports.proofs.srv_class.Reads as class

pub srv_read_determined : (κs : _) (a : _) (r₁ r₂ : _) (e₁ e₂ : _) → read.Post κs a r₁ e₁ → read.Post κs a r₂ e₂
    → (e₁.1.1.1.1.0.now ≡ e₂.1.1.1.1.0.now) × (e₁.1.1.1.0.now ≡ e₂.1.1.1.0.now)
srv_read_determined κs a r₁ r₂ e₁ e₂ p q = (p.0 ∙ sym q.0, p.1 ∙ sym q.1)

pub srv_measure_determined : (κs : _) (a : _) (r₁ r₂ : _) (e₁ e₂ : _) → measure.Post κs a r₁ e₁ → measure.Post κs a r₂ e₂ → e₁.1.1.1.0.now ≡ e₂.1.1.1.0.now
srv_measure_determined κs a r₁ r₂ e₁ e₂ p q = p ∙ sym q

pub srv_reread_determined : (κs : _) (a : _) (r₁ r₂ : _) (e₁ e₂ : _) → reread.Post κs a r₁ e₁ → reread.Post κs a r₂ e₂
    → (e₁.1.1.1.1.1.0.now ≡ e₂.1.1.1.1.1.0.now) × (e₁.1.1.0.now ≡ e₂.1.1.0.now)
srv_reread_determined κs a r₁ r₂ e₁ e₂ p q = (p.0 ∙ sym q.0, p.1 ∙ sym q.1)

pub srv_audit_determined : (κs : _) (a : _) (r₁ r₂ : _) (e₁ e₂ : _) → audit.Post κs a r₁ e₁ → audit.Post κs a r₂ e₂ → e₁.1.1.0.now ≡ e₂.1.1.0.now
srv_audit_determined κs a r₁ r₂ e₁ e₂ p q = p ∙ sym q

pub srv_version_determined : (κs : _) (a : _) (r₁ r₂ : _) (e₁ e₂ : _) → version.Post κs a r₁ e₁ → version.Post κs a r₂ e₂ → r₁ ≡ r₂
srv_version_determined κs a r₁ r₂ e₁ e₂ p q = p ∙ sym q

pub srv_class_determined : (κs : _) (a : _) (r₁ r₂ : _) (e₁ e₂ : _) → class.Post κs a r₁ e₁ → class.Post κs a r₂ e₂ → r₁ ≡ r₂
srv_class_determined κs a r₁ r₂ e₁ e₂ p q = p ∙ sym q
