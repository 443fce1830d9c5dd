-- second_fault: the tests in the definition's order; a byte is not the end of the text. Assumes nothing.
use borrow.Author.Rules.{rules}
use Rattle.choice.proofs.Laws.{tests}
use Rattle.utf8.specs.Utf8.{second_fault}
use Rattle.utf8.proofs.Bytes.{no_tail}
use Rattle.utf8.proofs.second_fault.Goals as goal

pub returns-then-a-eq237 : goal.returns-then-a-eq237
unfolding second_fault
returns-then-a-eq237 c = search (tests, c.tail.ensures, c.if-tail.true)

pub returns-then-a-eq244 : goal.returns-then-a-eq244
unfolding second_fault
returns-then-a-eq244 c = search (tests, c.tail.ensures, c.if-tail.true)

pub returns-then-tail : goal.returns-then-tail
unfolding second_fault
returns-then-tail c = search (tests, c.tail.ensures, c.if-tail.true)

pub returns : goal.returns
returns c = search (rules, no_tail)
