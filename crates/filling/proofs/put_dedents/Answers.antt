-- put_dedents: what is left to write from `j` is what was left from `i`.
use mathlib.Core.Path.{◌∙◌, ap}
use lib.ListN.{length}
use native.Mathlib.Omega.{arith}
use Rattle.filling.proofs.Rows.{dedents_more, dedents_end}
use Rattle.records.proofs.Rooms.{length_rec}
use Rattle.filling.proofs.put_dedents.Goals as goal

pub loop-j-preserved : goal.loop-j-preserved
loop-j-preserved g c = (
  ap length c.put_token.ensures ∙ length_rec _ _ _ ∙ c.loop-j.invariant.0,
  dedents_more _ _ _ _ _ _ _ _ _ _ (omega arith) _ c.put_token.ensures c.loop-j.invariant.1,
)

pub returns : goal.returns
returns g c = dedents_end _ _ _ _ _ _ _ _ _ (omega arith) c.loop-j.invariant.1
