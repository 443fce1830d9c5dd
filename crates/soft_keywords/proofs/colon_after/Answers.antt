-- colon_after: each way out is the definition's step over a token of this kind.
use Rattle.soft_keywords.proofs.LookAheads as looks
use borrow.Author.Rules.{rules}
use Rattle.soft_keywords.proofs.colon_after.Goals as goal
use Rattle.soft_keywords.proofs.colon_after.Goals.{then-first-via-then-first, then-first-via-else-first+then-lambda}

pub returns-then-k-eq-NEWLINE : goal.returns-then-k-eq-NEWLINE
returns-then-k-eq-NEWLINE c = search (rules, looks.colon_over)

pub returns-then-nest-gt0 : goal.returns-then-nest-gt0
returns-then-nest-gt0 c = search (rules, looks.colon_inside)

pub returns-then-first : goal.returns-then-first
returns-then-first c = elim c.then-first.branch [ then-first-via-then-first w ↦ search (rules, looks.colon_first) | then-first-via-else-first+then-lambda w ↦ search (rules, looks.colon_lambda) ]

pub returns-then-k-eq-COLON : goal.returns-then-k-eq-COLON
returns-then-k-eq-COLON c = search (rules, looks.colon_found)

pub returns-then-k-eq-LAMBDA : goal.returns-then-k-eq-LAMBDA
returns-then-k-eq-LAMBDA c = search (rules, looks.lambda_found)

pub returns : goal.returns
returns c = search (rules, looks.colon_past)
