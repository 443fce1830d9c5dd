-- long_char_at: each case of the decoding is a character at the place, a stray byte, or the end. Assumes nothing.
use mathlib.Core.Path.{sym, ◌∙◌}
use native.Mathlib.Omega.{arith}
use Rattle.utf8.proofs.Laws.{at_char_all}
use Rattle.window.proofs.Laws.{taken_char, taken_stray, taken_end, stray_small}
use Rattle.window.proofs.long_char_at.Goals as goal

pub overflow_add-result : goal.overflow_add-result
overflow_add-result c = omega (arith, at_char_all _ _ _ _ (sym c.decode.ensures ∙ c.in-Char.is))

pub overflow_add-result-in-IllFormed : goal.overflow_add-result-in-IllFormed
overflow_add-result-in-IllFormed c = omega (arith, stray_small _ _ _ (sym c.decode.ensures ∙ c.in-IllFormed.is))

pub overflow_add-result-in-IllFormed-2 : goal.overflow_add-result-in-IllFormed-2
overflow_add-result-in-IllFormed-2 c = omega (arith, stray_small _ _ _ (sym c.decode.ensures ∙ c.in-IllFormed.is))

pub returns-in-Char : goal.returns-in-Char
returns-in-Char c = taken_char _ _ _ _ (sym c.decode.ensures ∙ c.in-Char.is)

pub returns-in-IllFormed : goal.returns-in-IllFormed
returns-in-IllFormed c = taken_stray _ _ _ _ (sym c.decode.ensures ∙ c.in-IllFormed.is) c.byte.ensures

pub returns-in-End : goal.returns-in-End
returns-in-End c = taken_end _ _ (sym c.decode.ensures ∙ c.in-End.is) (omega (arith, c.type_inv.s c.args.at))
