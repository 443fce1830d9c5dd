-- start_line: each arm is the definition's way through a line's start; the levels that stay are the array's first places.
use Rattle.rounds.proofs.Starts as starts
use borrow.Author.Rules.{rules}
use Rattle.rounds.proofs.start_line.Goals as goal

pub returns-in-Err : goal.returns-in-Err
returns-in-Err c = search (rules, starts.start_bad)

pub overflow_sub-indents : goal.overflow_sub-indents
overflow_sub-indents c = search (rules, starts.out_room)

pub returns-in-Same : goal.returns-in-Same
returns-in-Same c = search (rules, starts.start_same)

pub returns-in-Indent : goal.returns-in-Indent
returns-in-Indent c = search (rules, starts.start_in)

pub returns-in-DedentTo : goal.returns-in-DedentTo
returns-in-DedentTo c = search (rules, starts.start_out)

pub returns-in-Err-handle_indentations : goal.returns-in-Err-handle_indentations
returns-in-Err-handle_indentations c = search (rules, starts.start_wrong)
