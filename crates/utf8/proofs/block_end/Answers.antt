-- block_end: each way on passes whole characters: none, 64 bytes below 0x80, or those of fine blocks up to a byte that
-- begins one, where nothing was owed at the start. Assumes nothing.
use native.Mathlib.Omega.{arith}
use borrow.Author.Rules.{rules}
use Rattle.utf8.proofs.Blocks.{low_passed, fine_passed}
use Rattle.utf8.proofs.block_end.Goals as goal

pub returns-then-ascii_block : goal.returns-then-ascii_block
returns-then-ascii_block c = low_passed _ _ _ c.ascii_block.ensures c.if-ascii_block.true (omega arith)

pub returns : goal.returns
returns c = search (rules, fine_passed)
