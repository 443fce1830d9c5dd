-- softened: a kind below the soft keywords stays, and the pass decides of any other.
use Rattle.soft_keywords.proofs.Decides.{soft_other}
use borrow.Author.Rules.{rules}
use Rattle.filling.proofs.softened.Goals as goal

pub returns-then-k-lt-FIRST_SOFT : goal.returns-then-k-lt-FIRST_SOFT
returns-then-k-lt-FIRST_SOFT c = search (rules, soft_other)
