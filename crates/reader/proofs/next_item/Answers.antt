-- next_item: what is left is what comes next in the line, after the second pass; an ending leaves nothing.
use Rattle.reader.proofs.Gives as gives
use borrow.Author.Rules.{rules}
use Rattle.reader.proofs.next_item.Goals as goal

pub soft_kind-kind-requires : goal.soft_kind-kind-requires
soft_kind-kind-requires c = search (rules, gives.tok_in)

pub overflow_add-above : goal.overflow_add-above
overflow_add-above c = record { fits = search (rules, gives.tok_add) }

pub overflow_add-below : goal.overflow_add-below
overflow_add-below c = record { fits = search (rules, gives.tok_below) }

pub one-requires : goal.one-requires
one-requires c = search (rules, gives.tok_record)

pub overflow_add-above-in-Newline : goal.overflow_add-above-in-Newline
overflow_add-above-in-Newline c = record { fits = search (rules, gives.line_add) }

pub overflow_add-below-in-Newline : goal.overflow_add-below-in-Newline
overflow_add-below-in-Newline c = record { fits = search (rules, gives.line_below) }

pub one_token-requires : goal.one_token-requires
one_token-requires c = search (rules, gives.line_record)

pub overflow_add-c : goal.overflow_add-c
overflow_add-c c = record { fits = search (rules, gives.last_add) }

pub last-requires : goal.last-requires
last-requires c = search (rules, gives.last_fits)

pub returns-in-Tok : goal.returns-in-Tok
returns-in-Tok c =
    gives.tok_takes _ _ _ (search rules) _ c.next_token-found.ensures _ _ _ _ c.in-Tok.is _ _ _ c.one.ensures _ c.within-next.ensures c.line_start_after-line.ensures c.soft_kind-kind.ensures

pub returns-in-Newline : goal.returns-in-Newline
returns-in-Newline c = search (rules, gives.line_takes)

pub returns-in-End : goal.returns-in-End
returns-in-End c = search (rules, gives.last_takes)

pub returns-in-Error : goal.returns-in-Error
returns-in-Error c = search (rules, gives.wrong_takes)
