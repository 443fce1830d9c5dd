-- name_end: a run of ASCII letters and digits is the head of the name, and the rest goes on from its end.
-- Assumes nothing.
use Rattle.names.proofs.Laws.{next_not, name_rest}
use Rattle.names.proofs.name_end.Goals as goal

pub rest_end-requires : goal.rest_end-requires
rest_end-requires c = search next_not

pub returns : goal.returns
returns c = search name_rest
