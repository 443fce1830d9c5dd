use mathlib.Core.Path.{◌≡◌}
use Rattle.records.specs.Records.{recs_in}
use Rattle.rereading.specs.Rereads.{kept_up_to}
use Rattle.rereading.proofs.cut_in.Given as goal

abbrev pub invariant-loop-i : goal.invariant-loop-i
invariant-loop-i g l = kept_up_to l.a (recs_in (g.T.Slot.numbers l.row) 0 l.i) ≡ kept_up_to l.a (recs_in (g.T.Slot.numbers l.row) 0 l.old)
