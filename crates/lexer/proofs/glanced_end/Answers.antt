-- glanced_end: a name by its letters; an operator is one byte.
use Rattle.lexer.proofs.Glances as glances
use borrow.Author.Rules.{rules}
use Rattle.lexer.proofs.glanced_end.Goals as goal

pub returns-then-q-eq-NAME : goal.returns-then-q-eq-NAME
returns-then-q-eq-NAME c = search (rules, glances.end_name)

pub returns : goal.returns
returns c = search (rules, glances.end_sign)
