-- search_after: the step of the search that it is; what has decided stays.
use Rattle.soft_keywords.proofs.LookAheads as looks
use borrow.Author.Rules.{rules}
use Rattle.soft_keywords.proofs.search_after.Goals as goal

pub colon_after-requires : goal.colon_after-requires
colon_after-requires c = search (rules, looks.colon_room)

pub returns-then-stands_for_name : goal.returns-then-stands_for_name
returns-then-stands_for_name c = search (rules, looks.name_found)

pub equals_after-requires : goal.equals_after-requires
equals_after-requires c = search (rules, looks.equals_room)

pub returns-in-Colon : goal.returns-in-Colon
returns-in-Colon c = search (rules, looks.takes_as)

pub returns-else-stands_for_name : goal.returns-else-stands_for_name
returns-else-stands_for_name c = search (rules, looks.name_left)

pub returns-in-Equals : goal.returns-in-Equals
returns-in-Equals c = search (rules, looks.takes_as)

pub returns-in-Decided : goal.returns-in-Decided
returns-in-Decided c = search (rules, looks.told_stays)
