-- is_ascii_continuation: below 128 the bit says what the class says, and from there on there are none.
use Rattle.classes.proofs.ContinuationBits as bits
use borrow.Author.Rules.{rules}
use Rattle.classes.proofs.is_ascii_continuation.Goals as goal

pub returns-then-b-lt128 : goal.returns-then-b-lt128
returns-then-b-lt128 c = search (rules, bits.word_bit)

pub returns : goal.returns
returns c = search (rules, bits.name_high)
