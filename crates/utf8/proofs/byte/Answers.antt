-- byte: within the text it does not matter what stands for none. Assumes nothing.
use mathlib.Core.Path.{sym}
use native.Mathlib.Omega.{arith}
use lib.ListN.{get_or-eq_default}
use Rattle.utf8.proofs.Bytes.{get_or_any}
use Rattle.utf8.proofs.byte.Goals as goal

pub overflow_cast-result : goal.overflow_cast-result
overflow_cast-result c = omega (arith, c.type_inv.s c.args.at)

pub returns-then-at-s : goal.returns-then-at-s
returns-then-at-s c = get_or_any c.args.s.now _ 0 256 c.if-at-s.true

pub returns-else-at-s : goal.returns-else-at-s
returns-else-at-s c = sym (get_or-eq_default c.args.s.now 256 c.if-at-s.false)
