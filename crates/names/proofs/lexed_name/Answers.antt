-- lexed_name: a name that goes on behind its ASCII part is no keyword; any other is its bytes.
-- Assumes nothing.
use Rattle.names.proofs.Names.{part_ends, word_long, word_empty, word_bytes}
use Rattle.names.proofs.Laws.{next_not}
use borrow.Author.Rules.{rules}
use Rattle.names.proofs.lexed_name.Goals as goal

pub rest_end-e-requires : goal.rest_end-e-requires
rest_end-e-requires c = search next_not

pub returns-then-i-e : goal.returns-then-i-e
returns-then-i-e c = search word_long

pub returns-then-i-at : goal.returns-then-i-at
returns-then-i-at c = search word_empty

pub slice_bounds-keyword-end : goal.slice_bounds-keyword-end
slice_bounds-keyword-end c = search (rules, part_ends)

pub returns : goal.returns
returns c = search word_bytes
