-- reread_into: the plan is the re-reading's, and a refusal is its answer.
use Rattle.rereading.proofs.Plans as plans
use Rattle.rereading.proofs.reread_into.Goals as goal

pub returns-in-Ok : goal.returns-in-Ok
returns-in-Ok g c = record { answer = plans.done_answer _ _ _ _ _ _ _ c.in-Ok.ensures; records = plans.done_row _ _ _ _ _ _ _ c.in-Ok.ensures }

pub returns-in-Err : goal.returns-in-Err
returns-in-Err g c = rw c.into.ensures (record { answer = plans.done_answer _ _ _ _ _ _ _ c.in-Err.ensures; records = plans.done_row _ _ _ _ _ _ _ c.in-Err.ensures })
