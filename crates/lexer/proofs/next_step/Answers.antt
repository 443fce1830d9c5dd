-- next_step: an item's step is the definition's; brackets that are open fit before a token's end.
use Rattle.lexer.proofs.Goes as goes
use Rattle.lexer.proofs.Steps as steps
use borrow.Author.Rules.{rules}
use Rattle.lexer.proofs.next_step.Goals as goal

pub token_step-requires : goal.token_step-requires
token_step-requires c = goes.tok_room _ _ _ _ _ _ c.next_item.ensures c.requires c.in-Tok.is

pub returns-then-nest-eq0 : goal.returns-then-nest-eq0
returns-then-nest-eq0 c = search (rules, steps.step_over)

pub returns-in-Tok : goal.returns-in-Tok
returns-in-Tok c = search (rules, steps.step_tok)

pub returns-in-Gap : goal.returns-in-Gap
returns-in-Gap c = search (rules, steps.step_gap)

pub returns-else-nest-eq0 : goal.returns-else-nest-eq0
returns-else-nest-eq0 c = search (rules, steps.step_eof)

pub returns-in-Error : goal.returns-in-Error
returns-in-Error c = search (rules, steps.step_wrong)
