-- text_refusal: the tests of `text_refusal` in its order; a fault stands in the text, so its place fits. Assumes nothing.
use mathlib.Core.Path.{sym, ◌∙◌}
use native.Mathlib.Omega.{arith}
use Rattle.utf8.proofs.Told.{told}
use Rattle.reading.proofs.text_refusal.Goals as goal

pub overflow_add-result : goal.overflow_add-result
overflow_add-result c = omega (arith, told _ _ _ (sym c.check.ensures ∙ c.in-Err.is))

pub overflow_cast-result : goal.overflow_cast-result
overflow_cast-result c = omega (arith, told _ _ _ (sym c.check.ensures ∙ c.in-Err.is))
