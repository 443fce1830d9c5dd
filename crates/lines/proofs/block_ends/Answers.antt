-- block_ends: each turn adds what its byte ends; so many turns, so many at most.
-- Assumes nothing.
use Rattle.lines.proofs.Laws.{block_start, block_next, block_over}
use Rattle.lines.proofs.block_ends.Goals as goal

pub loop-k-init : goal.loop-k-init
loop-k-init c = search block_start

pub loop-k-preserved : goal.loop-k-preserved
loop-k-preserved c = search block_next

pub returns : goal.returns
returns c = search block_over
