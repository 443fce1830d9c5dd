use mathlib.Core.Path.{◌≡◌}
use Prim.Native.Nat.{◌+◌, ◌-◌}
use Rattle.rereading.specs.Rereads.{run_length}
use Rattle.rereading.proofs.run_end.Given as goal

abbrev pub invariant-loop-j : goal.invariant-loop-j
invariant-loop-j l = l.j + run_length l.s l.b l.j (l.to - l.j) ≡ l.i + run_length l.s l.b l.i (l.to - l.i)
