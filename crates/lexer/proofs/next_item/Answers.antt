-- next_item: a letter that no prefix has starts a name, and a space blanks, whatever follows.
use Rattle.lexer.proofs.Firsts as firsts
use borrow.Author.Rules.{rules}
use Rattle.lexer.proofs.next_item.Goals as goal

pub returns-then-starts_name : goal.returns-then-starts_name
returns-then-starts_name c = search (rules, firsts.first_name)

pub returns-then-b-eq32 : goal.returns-then-b-eq32
returns-then-b-eq32 c = search (rules, firsts.first_blank)
