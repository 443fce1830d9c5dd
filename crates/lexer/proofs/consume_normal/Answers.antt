-- consume_normal: the classes of the window's first characters decide as in the definition.
use Rattle.lexer.proofs.Items as items
use borrow.Author.Rules.{rules}
use Rattle.lexer.proofs.consume_normal.Goals as goal

pub lex_name-requires : goal.lex_name-requires
lex_name-requires c = search (rules, items.starts_name_lem)

pub returns-then-is_identifier_start : goal.returns-then-is_identifier_start
returns-then-is_identifier_start c = search (rules, items.word_name)

pub returns-then-starts_number : goal.returns-then-starts_number
returns-then-starts_number c = search (rules, items.word_number)

pub returns : goal.returns
returns c = search (rules, items.word_operator)
