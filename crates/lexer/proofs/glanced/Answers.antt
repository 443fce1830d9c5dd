-- glanced: a name by its letters, an operator by its number.
use Rattle.lexer.proofs.Glances as glances
use borrow.Author.Rules.{rules}
use Rattle.lexer.proofs.glanced.Goals as goal

pub returns-then-q-eq-NAME : goal.returns-then-q-eq-NAME
returns-then-q-eq-NAME c = search (rules, glances.glanced_word)

pub returns : goal.returns
returns c = search (rules, glances.glanced_sign)
