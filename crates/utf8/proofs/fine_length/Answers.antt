-- fine_length: blocks that are fine one after the other are fine together. Assumes nothing.
use native.Mathlib.Omega.{arith}
use borrow.Author.Rules.{rules}
use Rattle.utf8.proofs.Blocks.{fine_none, fine_on}
use Rattle.utf8.proofs.fine_length.Goals as goal

pub loop-k-init : goal.loop-k-init
loop-k-init c = search (rules, fine_none)

pub loop-k-preserved : goal.loop-k-preserved
loop-k-preserved c = fine_on _ _ _ _ c.loop-k.invariant c.fine_block.ensures c.if-fine_block.true (omega arith)
