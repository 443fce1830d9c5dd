-- equals_after: one up or down does not overflow near zero; the machine's order of the signed count is the numbers', and what is neither
-- above nor below zero is zero: then the kind decides.
use Rattle.soft_keywords.proofs.LookAheads as looks
use borrow.Author.Rules.{rules}
use Rattle.soft_keywords.proofs.equals_after.Goals as goal

pub overflow_add-result : goal.overflow_add-result
overflow_add-result c = search (rules, looks.up_fits)

pub returns-then-k-eq-LSQB : goal.returns-then-k-eq-LSQB
returns-then-k-eq-LSQB c = search (rules, looks.equals_opens)

pub overflow_sub-result : goal.overflow_sub-result
overflow_sub-result c = search (rules, looks.down_fits)

pub returns-then-k-eq-RSQB : goal.returns-then-k-eq-RSQB
returns-then-k-eq-RSQB c = search (rules, looks.equals_closes)

pub returns-then-k-eq-NEWLINE : goal.returns-then-k-eq-NEWLINE
returns-then-k-eq-NEWLINE c = search (rules, looks.equals_over)

pub returns-then-count-gt0 : goal.returns-then-count-gt0
returns-then-count-gt0 c = search (rules, looks.equals_above)

pub returns-then-count-lt0 : goal.returns-then-count-lt0
returns-then-count-lt0 c = search (rules, looks.equals_below)

pub returns : goal.returns
returns c = search (rules, looks.equals_level)
