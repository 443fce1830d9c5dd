-- consume: the window's characters are the place's; behind a string's prefix the cursor has been slid over each of its letters.
use Rattle.lexer.proofs.Items as items
use borrow.Author.Rules.{rules}
use Rattle.lexer.proofs.consume.Goals as goal

pub returns-then-a-eq-NO_CHAR : goal.returns-then-a-eq-NO_CHAR
returns-then-a-eq-NO_CHAR c = search (rules, items.item_last)

pub returns-then-is_blank : goal.returns-then-is_blank
returns-then-is_blank c = search (rules, items.item_blank)

pub past_prefix-requires : goal.past_prefix-requires
past_prefix-requires c = search (rules, items.prefix_few)

pub lex_string-requires : goal.lex_string-requires
lex_string-requires c = search (rules, items.open_quote)

pub returns-in-Some : goal.returns-in-Some
returns-in-Some c = search (rules, items.item_string)

pub returns-in-None : goal.returns-in-None
returns-in-None c = search (rules, items.item_word)
