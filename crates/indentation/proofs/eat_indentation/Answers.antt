-- eat_indentation: what is counted from `i` on, with the blanks counted so far, is what was to be counted from the start.
-- Each arm is a clause of the definition; a byte from 0x80 up begins a character that is none of them.
-- Assumes nothing.
use Rattle.indentation.proofs.BlankLaws.{blanks_end, blanks_space, blanks_tab, blanks_bad, blanks_comment, blanks_feed, blanks_newline, blanks_other, comment_less}
use Rattle.indentation.specs.Blanks.{blanks}
use mathlib.Core.Path.{refl}
use native.Mathlib.Omega.{arith}
use Rattle.indentation.proofs.eat_indentation.Goals as goal

pub scan-init : goal.scan-init
scan-init c = (refl, omega arith)

pub scan-preserved-then-b-eq32 : goal.scan-preserved-then-b-eq32
scan-preserved-then-b-eq32 c = (search blanks_space, omega arith)

pub scan-preserved-in-9 : goal.scan-preserved-in-9
scan-preserved-in-9 c = (search blanks_tab, omega arith)

pub scan-smaller-in-35 : goal.scan-smaller-in-35
scan-smaller-in-35 c = search comment_less

pub scan-preserved-in-35 : goal.scan-preserved-in-35
scan-preserved-in-35 c = (search blanks_comment, omega arith)

pub scan-preserved-in-12 : goal.scan-preserved-in-12
scan-preserved-in-12 c = (search blanks_feed, omega arith)

pub scan-preserved : goal.scan-preserved
scan-preserved c = (search blanks_newline, omega arith)

pub returns-then-s-i : goal.returns-then-s-i
unfolding blanks
returns-then-s-i c = search blanks_end

pub returns-then-spaces-ne0 : goal.returns-then-spaces-ne0
unfolding blanks
returns-then-spaces-ne0 c = search blanks_bad

pub returns-in_default : goal.returns-in_default
unfolding blanks
returns-in_default c = grind (arith, blanks_other)
