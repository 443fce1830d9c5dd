-- next_due: the notes of a line's start come first, then an Indent, then Dedents.
use Rattle.reader.proofs.Gives as gives
use borrow.Author.Rules.{rules}
use Rattle.reader.proofs.next_due.Goals as goal
use Rattle.reader.proofs.next_due.Goals.{then-c+in_default, else-c}

pub line_ends-requires : goal.line_ends-requires
line_ends-requires c = search (rules, gives.note_part)

pub overflow_add-line : goal.overflow_add-line
overflow_add-line c = record { fits = search (rules, gives.note_add) }

pub line_ends-requires-in-Some : goal.line_ends-requires-in-Some
line_ends-requires-in-Some c = search (rules, gives.note_whole)

pub overflow_add-next : goal.overflow_add-next
overflow_add-next c = record { fits = search (rules, gives.note_fits) }

pub one-requires : goal.one-requires
one-requires c = search (rules, gives.note_record)

pub returns-in-Some : goal.returns-in-Some
returns-in-Some c = search (rules, gives.note_takes)

pub next_pending-requires : goal.next_pending-requires
next_pending-requires c = search (rules, gives.pend_ready)

pub returns : goal.returns
returns c = elim c.if-c.branch [ then-c+in_default w ↦ search (rules, gives.none_takes) | else-c w ↦ search (rules, gives.plain_takes) ]
