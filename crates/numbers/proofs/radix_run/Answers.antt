-- radix_run: each turn slides over one character of the run, so what is left to run from the cursor is what was left from the start;
-- at the first other character nothing is left. Each turn leaves fewer characters, and the text stays.
-- Assumes nothing.
use Rattle.numbers.proofs.Laws.{run_ends, run_goes, run_less}
use Rattle.numbers.proofs.radix_run.Goals as goal

pub loop-r-smaller : goal.loop-r-smaller
loop-r-smaller c = search run_less

pub loop-r-preserved : goal.loop-r-preserved
loop-r-preserved c = search run_goes

pub returns-else-in_run : goal.returns-else-in_run
returns-else-in_run c = search run_ends
