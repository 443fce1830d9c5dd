-- pack: `v` is the number of the bytes from `i` on; seven of them leave room for one more.
-- Assumes nothing.
use Prim.Native.Nat.{◌<◌, ◌-◌}
use Rattle.names.proofs.Packing.{pack_start, pack_room, pack_more}
use native.Mathlib.Omega.{arith}
use Rattle.names.proofs.keywords.pack.Goals as goal

pub loop-i-init : goal.loop-i-init
loop-i-init c = search pack_start

pub overflow_mul-v : goal.overflow_mul-v
overflow_mul-v c = let k : c.loop-i.v < 72057594037927936 = search (pack_room, arith) in omega arith

pub overflow_add-v : goal.overflow_add-v
overflow_add-v c = let k : c.loop-i.v < 72057594037927936 = search (pack_room, arith) in omega (arith, c.type_inv.w (c.loop-i.i - 1))

pub loop-i-preserved : goal.loop-i-preserved
loop-i-preserved c = search pack_more
