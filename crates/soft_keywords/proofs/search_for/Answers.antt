-- search_for: the two kinds of search by the definition's test.
use borrow.Author.Rules.{rules}
use Rattle.soft_keywords.proofs.LookAheads as looks
use Rattle.soft_keywords.proofs.search_for.Goals as goal

pub returns-then-k-lt-TYPE : goal.returns-then-k-lt-TYPE
returns-then-k-lt-TYPE c = search (rules, looks.begins_match)

pub returns : goal.returns
returns c = search (rules, looks.begins_type)
