-- nest_after: the definition's tests; below zero there is nothing to count down.
use Rattle.lexer.proofs.Glances as glances
use borrow.Author.Rules.{rules}
use Rattle.lexer.proofs.nest_after.Goals as goal

pub returns-then-is_opener : goal.returns-then-is_opener
returns-then-is_opener c = search (rules, glances.nest_open)

pub returns-then-nest-eq0 : goal.returns-then-nest-eq0
returns-then-nest-eq0 c = search (rules, glances.nest_none)

pub returns-then-is_closer : goal.returns-then-is_closer
returns-then-is_closer c = search (rules, glances.nest_close)

pub returns : goal.returns
returns c = search (rules, glances.nest_same)
