-- ending: the same without a branch.
-- Assumes nothing.
use Rattle.lines.proofs.Laws.{ending_flat}
use Rattle.lines.proofs.ending.Goals as goal

pub returns : goal.returns
returns c = ending_flat c.args.b c.args.c
