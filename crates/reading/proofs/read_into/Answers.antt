-- read_into: where nothing refuses the plan is the whole reading's, else it is that refusal, and what is lent stays.
use Rattle.reading.proofs.Calls as calls
use Rattle.answers.proofs.Laws.{refuses}
use mathlib.Core.Path.{refl, ◌∙◌}
use borrow.Author.Rules.{rules}
use Rattle.reading.proofs.read_into.Goals as goal

pub read_whole-requires : goal.read_whole-requires
read_whole-requires g c = calls.readable _ _ _ _ c.in_default.ensures refl

pub returns : goal.returns
returns g c = record {
  answer = calls.read_answer_lem _ _ _ _ c.in_default.ensures _ _ _ c.read_whole.ensures refl;
  records = calls.read_row_lem _ _ _ _ c.in_default.ensures _ _ _ c.read_whole.ensures refl;
}

pub returns-in-Err : goal.returns-in-Err
returns-in-Err g c =
    let n = refuses _ _ c.into.ensures in
    let q = c.into.ensures ∙ c.in-Err.ensures in
    record { answer = search (rules, calls.refused_answer); records = search (rules, calls.refused_row) }
