-- indent_in: the two runs are the tabs and the spaces, and they end where the record does.
use Rattle.rereading.proofs.Effects as effects
use borrow.Author.Rules.{rules}
use Rattle.rereading.proofs.indent_in.Goals as goal
use Rattle.rereading.proofs.indent_in.Goals.{then-from-to-via-then-from-to, then-from-to-via-else-from-to+then-last-to, then-from-to-via-else-from-to+else-last-to+then-depth-ge-MOST_LEVELS}

pub returns-then-from-to : goal.returns-then-from-to
returns-then-from-to c =
    elim c.then-from-to.branch [
      | then-from-to-via-then-from-to w ↦ search (rules, effects.indent_empty)
      | then-from-to-via-else-from-to+then-last-to w ↦ search (rules, effects.indent_other)
      | then-from-to-via-else-from-to+else-last-to+then-depth-ge-MOST_LEVELS w ↦ search (rules, effects.indent_deep)
    ]

pub returns : goal.returns
returns c = search (rules, effects.indent_opens)
