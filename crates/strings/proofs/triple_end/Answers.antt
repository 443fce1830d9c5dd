-- triple_end: as single_end, but no newline ends the literal, and three quotes do.
-- Assumes nothing.
use Rattle.strings.proofs.Bodies.{body_escape, escape_less, triple_over, triple_close, triple_more}
use native.Mathlib.Omega.{arith}
use Rattle.strings.proofs.triple_end.Goals as goal

pub loop-i-smaller-then-b-eq92 : goal.loop-i-smaller-then-b-eq92
loop-i-smaller-then-b-eq92 c = omega (arith, escape_less _ _ _ c.char_end-i.ensures)

pub loop-i-preserved-then-b-eq92 : goal.loop-i-preserved-then-b-eq92
loop-i-preserved-then-b-eq92 c = search body_escape

pub returns-then-triple_at : goal.returns-then-triple_at
returns-then-triple_at c = search triple_close

pub loop-i-preserved : goal.loop-i-preserved
loop-i-preserved c = search triple_more

pub returns : goal.returns
returns c = search triple_over
