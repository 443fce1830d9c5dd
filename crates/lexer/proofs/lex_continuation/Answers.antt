-- lex_continuation: the character behind the backslash is the window's second, and the first one slid; the end of the text is where
-- no character stands.
use Rattle.lexer.proofs.Items as items
use borrow.Author.Rules.{rules}
use Rattle.lexer.proofs.lex_continuation.Goals as goal

pub returns-then-c-eq-NO_CHAR : goal.returns-then-c-eq-NO_CHAR
returns-then-c-eq-NO_CHAR c = search (rules, items.back_end)

pub returns-then-is_newline : goal.returns-then-is_newline
returns-then-is_newline c = search (rules, items.back_on)

pub returns : goal.returns
returns c = search (rules, items.back_wrong)
