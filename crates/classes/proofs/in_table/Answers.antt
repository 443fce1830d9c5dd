-- in_table: the ends rise, so the range that is found is the one that may hold the character. Assumes nothing.
use mathlib.Core.Bool.{true, false}
use mathlib.Core.Path.{◌≡◌, ◌∙◌, sym}
use borrow.Author.Rules.{rules}
use borrow.Author.Tests.{le-ltb}
use lib.Dec.{ltb}
use Rattle.std.specs.List.Sorted.{IsPartitionPoint}
use Rattle.std.proofs.lemmas.List.Sorted.{IsPartitionPoint-from_clause}
use Rattle.classes.proofs.Search.{rises, found, found_none}
use Rattle.classes.proofs.in_table.Goals as goal
use Rattle.classes.proofs.in_table.Goals.{After-partition_point-k}

point : (c : After-partition_point-k) → IsPartitionPoint (λ r. ltb r.1 c.args.c ≡ true) (λ r. ltb r.1 c.args.c ≡ false) c.args.t.now c.partition_point-k.result
point c = IsPartitionPoint-from_clause (λ r. ltb r.1 c.args.c) _ _ c.partition_point-k.ensures.partitioned (rises _ c.requires _) (λ a r q k. search rules)

pub returns-then-k-t : goal.returns-then-k-t
returns-then-k-t c = found _ c.requires _ _ (point (goal.at.returns-then-k-t c).After-partition_point-k) c.if-k-t.true

pub returns-else-k-t : goal.returns-else-k-t
returns-else-k-t c = found_none _ c.requires _ _ (point (goal.at.returns-else-k-t c).After-partition_point-k) c.if-k-t.false ∙ sym (le-ltb _ _ c.if-k-t.false)
