-- lex_other: the definition's tests on the window's first character, in its order; each callee says where its part ends.
use Rattle.lexer.proofs.Items as items
use borrow.Author.Rules.{rules}
use Rattle.lexer.proofs.lex_other.Goals as goal

pub returns-then-c-eq-HASH : goal.returns-then-c-eq-HASH
returns-then-c-eq-HASH c = search (rules, items.other_comment)

pub returns-then-is_newline : goal.returns-then-is_newline
returns-then-is_newline c = search (rules, items.other_newline)

pub returns-then-c-eq-BACKSLASH : goal.returns-then-c-eq-BACKSLASH
returns-then-c-eq-BACKSLASH c = search (rules, items.other_back)

pub returns-then-c-eq-EXCLAMATION : goal.returns-then-c-eq-EXCLAMATION
returns-then-c-eq-EXCLAMATION c = search (rules, items.other_bang)

pub returns-then-is_emoji : goal.returns-then-is_emoji
returns-then-is_emoji c = search (rules, items.other_emoji)

pub returns : goal.returns
returns c = search (rules, items.other_wrong)
