-- soft_kind: at a line's start no bracket is open, so the walk from there answers for the records that follow.
use Rattle.soft_keywords.proofs.Decides.{soft_other, soft_mid, soft_yes, soft_no}
use borrow.Author.Rules.{rules}
use Rattle.soft_keywords.proofs.soft_kind.Goals as goal
use Rattle.soft_keywords.proofs.soft_kind.Goals.{else-line-via-then-line+else-stays_keyword, else-line-via-else-line}

pub returns-then-k-lt-FIRST_SOFT : goal.returns-then-k-lt-FIRST_SOFT
returns-then-k-lt-FIRST_SOFT c = search (rules, soft_other)

pub returns-then-stays_keyword : goal.returns-then-stays_keyword
returns-then-stays_keyword c = search (rules, soft_yes)

pub returns : goal.returns
returns c = elim c.else-line.branch [ else-line-via-then-line+else-stays_keyword w ↦ search (rules, soft_no) | else-line-via-else-line w ↦ search (rules, soft_mid) ]
