-- single_end: each turn passes one byte, or a backslash and the character that it takes along, as `body` does; what the literal is
-- from `i` on is what it was from `at` on.
-- Assumes nothing.
use Rattle.strings.proofs.Bodies.{body_escape, escape_less, single_over, single_newline, single_close, single_more}
use native.Mathlib.Omega.{arith}
use Rattle.strings.proofs.single_end.Goals as goal

pub overflow_cast-b : goal.overflow_cast-b
overflow_cast-b c = omega (arith, c.type_inv.s c.loop-i.i)

pub loop-i-smaller-then-b-eq-BACKSLASH : goal.loop-i-smaller-then-b-eq-BACKSLASH
loop-i-smaller-then-b-eq-BACKSLASH c = omega (arith, escape_less _ _ _ c.char_end-i.ensures)

pub loop-i-preserved-then-b-eq-BACKSLASH : goal.loop-i-preserved-then-b-eq-BACKSLASH
loop-i-preserved-then-b-eq-BACKSLASH c = search body_escape

pub returns-then-is_newline : goal.returns-then-is_newline
returns-then-is_newline c = search single_newline

pub returns-then-b-q : goal.returns-then-b-q
returns-then-b-q c = search single_close

pub loop-i-preserved : goal.loop-i-preserved
loop-i-preserved c = search single_more

pub returns : goal.returns
returns c = search single_over
