-- number_in: none of the first `k` numbers is `v`, so the answer is that of what is left, numbered from `first + k` on.
-- Assumes nothing.
use Rattle.names.proofs.Packing.{number_start, number_met, number_more, number_over}
use Rattle.names.proofs.keywords.number_in.Goals as goal

pub loop-k-init : goal.loop-k-init
loop-k-init c = search number_start

pub returns-then-v-table : goal.returns-then-v-table
returns-then-v-table c = search number_met

pub loop-k-preserved : goal.loop-k-preserved
loop-k-preserved c = search number_more

pub returns : goal.returns
returns c = search number_over
