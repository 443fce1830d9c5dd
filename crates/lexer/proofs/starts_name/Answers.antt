-- starts_name: below 128 the bit says what the definition says, and from there on there are none.
use borrow.Author.Rules.{rules}
use Rattle.lexer.proofs.Letters as letters
use Rattle.lexer.proofs.starts_name.Goals as goal

pub returns-then-b-lt64 : goal.returns-then-b-lt64
returns-then-b-lt64 c = search (rules, letters.letter_none)

pub returns-then-b-lt128 : goal.returns-then-b-lt128
returns-then-b-lt128 c = search (rules, letters.letter_bit)

pub returns : goal.returns
returns c = search (rules, letters.letter_high)
