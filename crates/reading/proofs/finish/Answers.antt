-- finish: what is lent takes every record if it has room; else code 4 leaves it as it is.
use Rattle.reading.proofs.Finishes as finishes
use Rattle.answers.proofs.Laws.{refuses}
use mathlib.Core.Path.{refl, ◌∙◌}
use borrow.Author.Rules.{rules}
use Rattle.reading.proofs.finish.Goals as goal

pub room_refusal-requires : goal.room_refusal-requires
room_refusal-requires g c = search (rules, finishes.at_zero)

pub fill-t-requires : goal.fill-t-requires
fill-t-requires g c = finishes.room_fill _ _ _ _ _ _ _ c.requires.finish_ok _ _ c.in_default.ensures _ c.room-room.ensures refl _ c.requires.above_value

pub ending_answer-requires : goal.ending_answer-requires
ending_answer-requires g c = search (rules, finishes.numbers_fit, finishes.filled_tell)

pub returns : goal.returns
returns g c =
    let told = finishes.numbers_told _ _ _ c.into-2.ensures _ c.ending_answer.ensures in
    finishes.room_finish _ _ _ _ _ _ _ c.requires.finish_ok _ _ c.in_default.ensures _ c.room-room.ensures _ _ _ _ c.fill-t.ensures told refl

pub returns-in-Err : goal.returns-in-Err
returns-in-Err g c =
    let n = refuses _ _ c.into.ensures in
    let q = c.into.ensures ∙ c.in-Err.ensures in
    search (rules, finishes.no_room_lem)
