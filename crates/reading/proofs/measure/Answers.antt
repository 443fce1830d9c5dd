-- measure: where nothing refuses the text is counted from its start, with no level open; else that refusal is the answer.
use Rattle.reading.proofs.Finishes as finishes
use Rattle.reading.proofs.Measures as measures
use Rattle.answers.proofs.Laws.{refuses}
use mathlib.Core.Path.{refl, ◌∙◌}
use borrow.Author.Rules.{rules}
use Rattle.reading.proofs.measure.Goals as goal

pub measure-t-requires : goal.measure-t-requires
measure-t-requires c = search (rules, measures.measure_ok)

pub ending_answer-requires : goal.ending_answer-requires
ending_answer-requires c = search (rules, finishes.numbers_fit, measures.measure_tell)

pub returns : goal.returns
returns c =
    let told = finishes.numbers_told _ _ _ c.into-2.ensures _ c.ending_answer.ensures in
    measures.measure_answer_lem _ _ _ _ c.in_default.ensures refl _ c.text_start.ensures _ c.no_levels.ensures.result_len _ c.asked_by-full.ensures.full _ c.measure-t.ensures _ told

pub returns-in-Err : goal.returns-in-Err
returns-in-Err c =
    let n = refuses _ _ c.into.ensures in
    let q = c.into.ensures ∙ c.in-Err.ensures in
    search (rules, measures.measure_refused)
