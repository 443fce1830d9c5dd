use Prim.Native.Nat.{◌+◌}
use Rattle.lines.specs.Promises.{Ends}
use Rattle.lines.proofs.block_ends.Given as goal

abbrev pub invariant-loop-k : goal.invariant-loop-k
invariant-loop-k l = Ends l.s l.at (l.at + l.k) l.n
