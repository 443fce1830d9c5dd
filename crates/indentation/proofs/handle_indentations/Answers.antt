-- handle_indentations: what the innermost level tells is the answer, but where levels are popped, and there `popped` says it.
-- Assumes nothing.
use Rattle.indentation.proofs.LevelLaws.{handle_pop, handle_kept, handle_wrong}
use Rattle.std.proofs.lemmas.Result.{err_from_is_err_and}
use borrow.Author.Rules.{rules}
use Rattle.indentation.proofs.handle_indentations.Goals as goal

pub returns-in_err-change : goal.returns-in_err-change
returns-in_err-change c = let p = err_from_is_err_and c.from_residual.result c.from_residual.ensures.1 in rw (p.1, p.2) (search (rules, handle_wrong))

pub returns-in-DedentTo : goal.returns-in-DedentTo
returns-in-DedentTo c = search (rules, handle_pop)

pub returns-in_default : goal.returns-in_default
returns-in_default c = search (rules, handle_kept)
