use Prim.Native.Nat.{◌-◌, ◌≤◌}
use Rattle.lines.specs.Promises.{Ends}
use Rattle.lines.proofs.line_ends.Given as goal

abbrev pub invariant-loop-i : goal.invariant-loop-i
invariant-loop-i l = Ends l.s l.from l.i l.n × (l.i ≤ l.to)

abbrev pub decreases-loop-i : goal.decreases-loop-i
decreases-loop-i l = l.to - l.i

abbrev pub invariant-loop-k : goal.invariant-loop-k
invariant-loop-k l = Ends l.s l.from l.k l.n
