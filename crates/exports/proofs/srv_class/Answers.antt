-- srv_class: each class is its callee's, and their numbers add up within three bits.
use native.Mathlib.Omega.{arith}
use Rattle.exports.proofs.Laws.{bit_small, class_sum}
use Rattle.exports.proofs.srv_class.Goals as goal

pub overflow_add-result : goal.overflow_add-result
overflow_add-result c = omega (arith, bit_small c.is_identifier_start.result 1 _ c.flag.ensures, bit_small c.is_identifier_continuation.result 2 _ c.flag-2.ensures)

pub overflow_add-result-2 : goal.overflow_add-result-2
overflow_add-result-2 c = omega (arith, bit_small c.is_identifier_start.result 1 _ c.flag.ensures, bit_small c.is_identifier_continuation.result 2 _ c.flag-2.ensures, bit_small c.is_emoji.result 4 _ c.flag-3.ensures)

pub returns : goal.returns
returns c = class_sum _ _ _ _ _ _ _ c.is_identifier_start.ensures c.is_identifier_continuation.ensures c.is_emoji.ensures c.flag.ensures c.flag-2.ensures c.flag-3.ensures
