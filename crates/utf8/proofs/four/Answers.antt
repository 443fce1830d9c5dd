-- four: the tests in the definition's order; three digits base 64 behind the lead byte's. Assumes nothing.
use borrow.Author.Rules.{rules}
use Rattle.utf8.proofs.Bytes.{four_char, no_four, no_third, no_second_of_four}
use Rattle.utf8.proofs.four.Goals as goal
use Rattle.utf8.proofs.four.Goals.{else-tail-via-then-tail+else-tail-2, else-tail-via-else-tail}

pub returns-then-tail-2 : goal.returns-then-tail-2
returns-then-tail-2 c = search four_char

pub returns-then-second : goal.returns-then-second
returns-then-second c = elim c.else-tail.branch [ else-tail-via-then-tail+else-tail-2 w ↦ search (rules, no_four) | else-tail-via-else-tail w ↦ search (rules, no_third) ]

pub returns : goal.returns
returns c = search no_second_of_four
