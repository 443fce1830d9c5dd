-- open_line: a line's start read leaves as much as before: what it hands out comes first, unless its first item is an ending.
use Rattle.reader.proofs.Opens as opens
use borrow.Author.Rules.{rules}
use Rattle.reader.proofs.open_line.Goals as goal

pub start_line-requires : goal.start_line-requires
start_line-requires c = search (rules, opens.below)

pub line_ends-requires : goal.line_ends-requires
line_ends-requires c = search (rules, opens.lead_part)

pub overflow_add-above : goal.overflow_add-above
overflow_add-above c = record { fits = search (rules, opens.lead_add) }

pub past_margin-next-requires : goal.past_margin-next-requires
past_margin-next-requires c = search (rules, opens.lead_ok)

pub kept-requires : goal.kept-requires
kept-requires c = search (rules, opens.lead_to)

pub returns-then-next : goal.returns-then-next
returns-then-next c = search (rules, opens.opens_kept)

pub returns-in-Err : goal.returns-in-Err
returns-in-Err c = search (rules, opens.opens_stop)

pub returns-else-next : goal.returns-else-next
returns-else-next c = search (rules, opens.opens_go)
