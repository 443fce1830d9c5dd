-- stays_keyword: each turn takes a token as the definition takes its record; what the search decides from `i` is what was asked from `at`.
use Rattle.soft_keywords.proofs.LookAheads as looks
use borrow.Author.Rules.{rules}
use Rattle.soft_keywords.proofs.stays_keyword.Goals as goal

pub loop-m-init : goal.loop-m-init
loop-m-init c = search (rules, looks.seeks_all)

pub search_after-x-requires : goal.search_after-x-requires
search_after-x-requires c = search (rules, looks.seeks_room)

pub returns-in-Decided : goal.returns-in-Decided
returns-in-Decided c = search (rules, looks.seeks_told)

pub loop-m-smaller : goal.loop-m-smaller
loop-m-smaller c = search (rules, looks.seeks_less)

pub loop-m-preserved : goal.loop-m-preserved
loop-m-preserved c = search (rules, looks.seeks_on)

pub returns-in-Newline : goal.returns-in-Newline
returns-in-Newline c = search (rules, looks.seeks_over)
