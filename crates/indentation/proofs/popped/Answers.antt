-- popped: what is left to pop from `d` levels is what was left from all; each arm is a clause of the definition. `d` falls.
-- Assumes nothing.
use Rattle.indentation.proofs.LevelLaws.{pop_less, pop_equal, pop_greater, pop_unclear, pop_base, pop_blank}
use mathlib.Core.Path.{refl}
use native.Mathlib.Omega.{arith}
use Rattle.indentation.proofs.popped.Goals as goal

pub loop-d-init : goal.loop-d-init
loop-d-init c = (omega arith, refl)

pub loop-d-preserved : goal.loop-d-preserved
loop-d-preserved c = (omega arith, search pop_less)

pub returns-in-Some-Equal : goal.returns-in-Some-Equal
returns-in-Some-Equal c = search pop_equal

pub returns-in-Some-Greater : goal.returns-in-Some-Greater
returns-in-Some-Greater c = search pop_greater

pub returns-in-None : goal.returns-in-None
returns-in-None c = search pop_unclear

pub returns-then-blanks-eq0-2 : goal.returns-then-blanks-eq0-2
returns-then-blanks-eq0-2 c = search pop_base

pub returns : goal.returns
returns c = search pop_blank
