-- put_notes: each turn writes one note.
use Rattle.filling.proofs.NotePuts as notes
use borrow.Author.Rules.{rules}
use Rattle.filling.proofs.put_notes.Goals as goal

pub loop-note-init : goal.loop-note-init
loop-note-init g c = search (rules, notes.notes_begin)

pub line_ends-requires : goal.line_ends-requires
line_ends-requires g c = search (rules, notes.note_before)

pub overflow_add-line : goal.overflow_add-line
overflow_add-line g c = record { fits = search (rules, notes.note_up) }

pub put-requires : goal.put-requires
put-requires g c = search (rules, notes.note_put)

pub line_ends-requires-in-Some : goal.line_ends-requires-in-Some
line_ends-requires-in-Some g c = search (rules, notes.note_over)

pub overflow_add-up : goal.overflow_add-up
overflow_add-up g c = record { fits = search (rules, notes.note_on) }

pub overflow_add-k : goal.overflow_add-k
overflow_add-k g c = record { fits = search (rules, notes.note_fits) }

pub loop-note-smaller : goal.loop-note-smaller
loop-note-smaller g c = search (rules, notes.note_less)

pub loop-note-preserved : goal.loop-note-preserved
loop-note-preserved g c = search (rules, notes.note_again)

pub returns : goal.returns
returns g c = (search (rules, notes.none_row), search (rules, notes.none_count))
