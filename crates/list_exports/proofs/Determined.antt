-- Any two results that a list door's contract allows coincide: the answer, and the list at exit. Each contract is one clause that states a
-- plain fact, in any world (`_says`). Of arguments and at exit `.0` is the first parameter, `.1.0` the second, and so on.
-- Assumes nothing.
use mathlib.Core.Path.{◌≡◌, refl, sym, ◌∙◌}
use seplogic.Ra.Ura.{Ura}
use base.Logic.{SProp}
use prog.Memory.{Memory}
use prog.Routine.{Routine}
use types.Logic.{Logic}
use contract.Monad.{Fun, fact}
use contract.Lifetimes.{Lfts}
use denote.Triple.Entry.{Args, Res}
use denote.Triple.Clauses.{AtExit}
use Rattle.records.specs.Records.{flat}
use Rattle.audit.specs.Audits.{audit_of}
use Rattle.list_reading.specs.Door.{ReadsInto}
use Rattle.list_reading.proofs.Determined.{read_determined}
use Rattle.list_rereading.specs.Door.{RereadsInto}
use Rattle.list_rereading.proofs.Determined.{reread_determined}
use Rattle.list_exports.specs.contracts.srv_list_read as read
use Rattle.list_exports.specs.contracts.srv_list_reread as reread
use Rattle.list_exports.specs.contracts.srv_list_audit as audit

-- what `srv_list_read` ensures
abbrev pub Read : (κs : Lfts 2) → Args (read.ended).signature κs → Res (read.ended).signature κs → AtExit read.ended κs → Type 0
Read κs a r e = ReadsInto a.0.now a.1.0 a.1.1.0 a.1.1.1.0.now r e.1.1.1.0.now

-- what `srv_list_reread` ensures
abbrev pub Reread : (κs : Lfts 2) → Args (reread.ended).signature κs → Res (reread.ended).signature κs → AtExit reread.ended κs → Type 0
Reread κs a r e = RereadsInto a.0.now a.1.0 a.1.1.0.now a.1.1.1.0 a.1.1.1.1.0 r e.1.1.0.now

-- what `srv_list_audit` ensures
abbrev pub Audit : (κs : Lfts 1) → Args (audit.ended).signature κs → Res (audit.ended).signature κs → AtExit audit.ended κs → Type 0
Audit κs a r e = r ≡ audit_of (flat a.0.now) a.1.0

module _ {M : Type 1} {𝓤 : Ura M} (𝓛 : Logic 𝓤) (mem : Memory → SProp 𝓤) (run : Routine → Fun 𝓤) where
  pub srv_list_read_says : (κs : Lfts 2) (a : _) (g : _) (r : _) (e : _) → (read.clauses 𝓛 mem run κs a).ensures g r e ≡ fact 𝓤 (Read κs a r e)
  srv_list_read_says κs a g r e = refl

  pub srv_list_reread_says : (κs : Lfts 2) (a : _) (g : _) (r : _) (e : _) → (reread.clauses 𝓛 mem run κs a).ensures g r e ≡ fact 𝓤 (Reread κs a r e)
  srv_list_reread_says κs a g r e = refl

  pub srv_list_audit_says : (κs : Lfts 1) (a : _) (g : _) (r : _) (e : _) → (audit.clauses 𝓛 mem run κs a).ensures g r e ≡ fact 𝓤 (Audit κs a r e)
  srv_list_audit_says κs a g r e = refl

pub srv_list_read_determined : (κs : _) (a : _) (r₁ r₂ : _) (e₁ e₂ : _) → Read κs a r₁ e₁ → Read κs a r₂ e₂ → (r₁ ≡ r₂) × (e₁.1.1.1.0.now ≡ e₂.1.1.1.0.now)
srv_list_read_determined κs a r₁ r₂ e₁ e₂ p q = read_determined _ _ _ _ r₁ r₂ _ _ p q

pub srv_list_reread_determined : (κs : _) (a : _) (r₁ r₂ : _) (e₁ e₂ : _) → Reread κs a r₁ e₁ → Reread κs a r₂ e₂ → (r₁ ≡ r₂) × (e₁.1.1.0.now ≡ e₂.1.1.0.now)
srv_list_reread_determined κs a r₁ r₂ e₁ e₂ p q = reread_determined _ _ _ _ _ r₁ _ p r₂ _ q

pub srv_list_audit_determined : (κs : _) (a : _) (r₁ r₂ : _) (e₁ e₂ : _) → Audit κs a r₁ e₁ → Audit κs a r₂ e₂ → r₁ ≡ r₂
srv_list_audit_determined κs a r₁ r₂ e₁ e₂ p q = p ∙ sym q
