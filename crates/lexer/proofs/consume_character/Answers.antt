-- consume_character: an operator ends as many bytes on as it has characters, which are of ASCII.
use native.Mathlib.Omega.{arith}
use Rattle.lexer.proofs.Items as items
use borrow.Author.Rules.{rules}
use Rattle.lexer.proofs.consume_character.Goals as goal

pub overflow_add-result : goal.overflow_add-result
overflow_add-result c = omega (arith, items.operator_fits c.args.cur _ c.longest_operator.ensures _ _ c.in-Some.is)

pub returns-in-Some : goal.returns-in-Some
returns-in-Some c = search (rules, items.operator_tok)

pub returns-in-None : goal.returns-in-None
returns-in-None c = search (rules, items.operator_none)
