-- audit: what is left to find after each record is what the whole row has; once none is left, it is the answer.
use mathlib.Core.Path.{refl}
use borrow.Author.Rules.{rules}
use Rattle.audit.proofs.Stacks as stacks
use Rattle.audit.proofs.audit.Goals.{then-depth-eq0-via-then-depth-eq0, then-depth-eq0-via-else-depth-eq0+then-openers-depth, then-is_opener+else-depth-eq-MOST_OPEN, else-is_opener+then-is_closer+else-depth-eq0+else-openers-depth, else-is_opener+else-is_closer}
use Rattle.audit.proofs.audit.Goals as goal

pub returns-then-is_above : goal.returns-then-is_above
returns-then-is_above g c = search (rules, stacks.scan_refused)

pub loop-i-init : goal.loop-i-init
loop-i-init g c = stacks.scan_first _ _ _ c.room.ensures _ c.is_above.ensures c.if-is_above.false _ refl

pub returns-then-depth-eq-MOST_OPEN : goal.returns-then-depth-eq-MOST_OPEN
returns-then-depth-eq-MOST_OPEN g c = search (rules, stacks.scan_many)

pub returns-then-depth-eq0 : goal.returns-then-depth-eq0
returns-then-depth-eq0 g c = elim c.then-depth-eq0.branch [
  | then-depth-eq0-via-then-depth-eq0 w ↦ search (rules, stacks.scan_lone)
  | then-depth-eq0-via-else-depth-eq0+then-openers-depth w ↦ search (rules, stacks.scan_mismatched)
]

pub loop-i-preserved : goal.loop-i-preserved
loop-i-preserved g c = elim c.if-is_opener.branch [
  | then-is_opener+else-depth-eq-MOST_OPEN w ↦ rw (w.openers-is, w.depth-is) (search (rules, stacks.scan_opener))
  | else-is_opener+then-is_closer+else-depth-eq0+else-openers-depth w ↦ rw (w.openers-is, w.depth-is) (search (rules, stacks.scan_closer))
  | else-is_opener+else-is_closer w ↦ rw (w.openers-is, w.depth-is) (search (rules, stacks.scan_other))
]

pub returns : goal.returns
returns g c = search (rules, stacks.scan_end)
