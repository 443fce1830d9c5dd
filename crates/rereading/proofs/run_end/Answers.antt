-- run_end: what is left of the run from j on ends where the whole run ends.
use Rattle.rereading.proofs.Effects as effects
use borrow.Author.Rules.{rules}
use Rattle.rereading.proofs.run_end.Goals as goal

pub loop-j-preserved : goal.loop-j-preserved
loop-j-preserved c = search (rules, effects.run_more)

pub returns-then-s-j-clause-value : goal.returns-then-s-j-clause-value
returns-then-s-j-clause-value c = search (rules, effects.run_stop)

pub returns-clause-value : goal.returns-clause-value
returns-clause-value c = search (rules, effects.run_over)
