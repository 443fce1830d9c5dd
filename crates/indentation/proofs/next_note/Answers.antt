-- next_note: blanks are passed one by one; the first other byte says what comes next.
use Rattle.indentation.proofs.NoteSteps as steps
use borrow.Author.Rules.{rules}
use native.Mathlib.Omega.{arith}
use mathlib.Core.Path.{refl}
use Rattle.indentation.proofs.next_note.Goals as goal

pub loop-i-init : goal.loop-i-init
loop-i-init c = (omega arith, search rules, refl)

pub returns-then-s-i : goal.returns-then-s-i
returns-then-s-i c = search (rules, steps.note_end)

pub loop-i-preserved : goal.loop-i-preserved
loop-i-preserved c = (omega arith, omega arith, search (rules, steps.note_blank))

pub returns-in-35 : goal.returns-in-35
returns-in-35 c = search (rules, steps.note_comment)

pub returns-in-10 : goal.returns-in-10
returns-in-10 c = search (rules, steps.note_lf)

pub returns-in-13 : goal.returns-in-13
returns-in-13 c = search (rules, steps.note_cr)

pub returns-in_default : goal.returns-in_default
returns-in_default c = search (rules, steps.note_other)
