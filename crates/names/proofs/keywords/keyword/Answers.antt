-- keyword: a name of another shape than the keywords is none, and one of their shape is told by its number.
-- Assumes nothing.
use Rattle.names.proofs.Shapes.{kind_short, kind_long, kind_zero, kind_packed}
use Rattle.names.specs.Promises.{packed}
use Rattle.names.specs.Names.{keywords, soft_keywords}
use borrow.Author.Rules.{rules}
use Rattle.names.proofs.keywords.keyword.Goals as goal

pub returns-then-n-lt2 : goal.returns-then-n-lt2
returns-then-n-lt2 c = search kind_short

pub returns-then-n-gt8 : goal.returns-then-n-gt8
returns-then-n-gt8 c = search kind_long

pub returns-then-w-n-eq0 : goal.returns-then-w-n-eq0
returns-then-w-n-eq0 c = search (kind_zero, rules)

pub returns : goal.returns
unfolding keywords soft_keywords packed
returns c = search (kind_packed, rules)
