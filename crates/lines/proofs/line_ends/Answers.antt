-- line_ends: blocks, then byte by byte.
use native.Mathlib.Omega.{arith}
use Rattle.lines.proofs.Laws.{ends_start, ends_next, ends_join, ends_all}
use Rattle.lines.proofs.line_ends.Goals as goal

pub loop-i-init : goal.loop-i-init
loop-i-init c = (search ends_start, omega arith)

pub loop-i-preserved : goal.loop-i-preserved
loop-i-preserved c = (search ends_join, omega arith)

pub loop-k-preserved : goal.loop-k-preserved
loop-k-preserved c = search ends_next

pub returns : goal.returns
returns c = ends_all _ _ _ _ _ c.loop-k.invariant (omega arith) (omega arith)
