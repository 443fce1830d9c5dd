-- bit_at: the byte's low bits are its place among the 64, so the shift is one that a word has.
use native.Mathlib.Omega.{arith}
use mathlib.Core.Path.{refl}
use Rattle.classes.specs.Promises.{bit_at}
use Rattle.classes.proofs.ContinuationBits.{low_bits}
use Rattle.classes.proofs.bit_at.Goals as goal

pub overflow_cast-k : goal.overflow_cast-k
overflow_cast-k c = omega (arith, low_bits c.args.b)

pub overflow_shr-result : goal.overflow_shr-result
overflow_shr-result c = low_bits c.args.b

pub returns : goal.returns
unfolding bit_at
returns c = refl
