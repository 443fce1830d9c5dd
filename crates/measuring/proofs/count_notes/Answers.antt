-- count_notes: each turn takes one note.
use Rattle.measuring.proofs.NoteCounts as counts
use borrow.Author.Rules.{rules}
use Rattle.measuring.proofs.count_notes.Goals as goal

pub loop-note-init : goal.loop-note-init
loop-note-init c = search (rules, counts.notes_begin)

pub overflow_add-k : goal.overflow_add-k
overflow_add-k c = record { fits = search (rules, counts.note_fits) }

pub loop-note-smaller : goal.loop-note-smaller
loop-note-smaller c = search (rules, counts.note_less)

pub loop-note-preserved : goal.loop-note-preserved
loop-note-preserved c = search (rules, counts.note_again)

pub returns : goal.returns
returns c = search (rules, counts.note_none)
