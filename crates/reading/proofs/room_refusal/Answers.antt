-- room_refusal: there is room for as many records as any reading has, or the measure says whether there is.
use Rattle.reading.proofs.Finishes as finishes
use borrow.Author.Rules.{rules}
use Rattle.reading.proofs.room_refusal.Goals as goal

pub returns-then-first-s : goal.returns-then-first-s
returns-then-first-s c = search (rules, finishes.room_ample)

pub measure-need-requires : goal.measure-need-requires
measure-need-requires c = search (rules, finishes.text_ok)

pub overflow_cast-result : goal.overflow_cast-result
overflow_cast-result c = search (rules, finishes.count_fits)

pub returns-then-room-need : goal.returns-then-room-need
returns-then-room-need c = search (rules, finishes.room_none)

pub returns : goal.returns
returns c = search (rules, finishes.room_measured)
