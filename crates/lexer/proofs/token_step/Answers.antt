-- token_step: the definition's tests on the kind and the count, in its order.
use Rattle.lexer.proofs.Steps as steps
use borrow.Author.Rules.{rules}
use Rattle.lexer.proofs.token_step.Goals as goal

pub returns-then-nest-eq0 : goal.returns-then-nest-eq0
returns-then-nest-eq0 c = search (rules, steps.token_line)

pub returns-then-k-eq-NEWLINE : goal.returns-then-k-eq-NEWLINE
returns-then-k-eq-NEWLINE c = search (rules, steps.token_fold)

pub returns-then-is_opener : goal.returns-then-is_opener
returns-then-is_opener c = search (rules, steps.token_open)

pub returns-then-nest-eq0-2 : goal.returns-then-nest-eq0-2
returns-then-nest-eq0-2 c = search (rules, steps.token_over)

pub returns-then-is_closer : goal.returns-then-is_closer
returns-then-is_closer c = search (rules, steps.token_close)

pub returns : goal.returns
returns c = search (rules, steps.token_plain)
