-- slide: the window's first character has the width by which the place moves; the byte ahead gives the third. Assumes nothing.
use native.Mathlib.Omega.{arith}
use Rattle.window.proofs.Laws.{slide_end, slide_fits, slide_place, slide_shows, slide_reaches}
use Rattle.window.proofs.cursor.Cursor.slide.Goals as goal

pub returns-then-c-eq-NO_CHAR-clause-place : goal.returns-then-c-eq-NO_CHAR-clause-place
returns-then-c-eq-NO_CHAR-clause-place c = search slide_end

pub overflow_add-at : goal.overflow_add-at
overflow_add-at c = omega (arith, slide_fits c.args.self c.if-c-eq-NO_CHAR.false)

pub invariant_of-result-clause-shows : goal.invariant_of-result-clause-shows
invariant_of-result-clause-shows c = search slide_shows

pub invariant_of-result-clause-reaches : goal.invariant_of-result-clause-reaches
invariant_of-result-clause-reaches c = slide_reaches c.args.self c.if-c-eq-NO_CHAR.false _ c.bytes_of.ensures _ _ c.char_at-d.ensures

pub returns-clause-place : goal.returns-clause-place
returns-clause-place c = search slide_place
