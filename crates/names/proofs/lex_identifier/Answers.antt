-- lex_identifier: a name of no keyword is a Name, any other a keyword.
use Rattle.names.proofs.Names.{name_name, name_keyword}
use borrow.Author.Rules.{rules}
use Rattle.names.proofs.lex_identifier.Goals as goal

pub returns-then-k-eq-NAME : goal.returns-then-k-eq-NAME
returns-then-k-eq-NAME c = search (rules, name_name)

pub returns : goal.returns
returns c = search (rules, name_keyword)
