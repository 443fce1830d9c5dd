-- replay: at most as many frames differ as were read.
use Prim.Native.Nat.{◌≤◌}
use Rattle.replay.proofs.replay.Given as goal

abbrev pub invariant-loop-frames : goal.invariant-loop-frames
invariant-loop-frames g l = l.differences ≤ l.frames
