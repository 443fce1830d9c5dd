-- line_from: the line ends in between are added, and there are no more of them than bytes.
use native.Mathlib.Omega.{arith}
use Rattle.lines.proofs.Laws.{line_most}
use Rattle.lines.proofs.line_from.Goals as goal

pub overflow_add-result : goal.overflow_add-result
overflow_add-result c = omega (arith, line_most c.args.s.now c.args.from)
