-- run_end: a byte that passes goes on with the run, any other byte ends it; what is left to skip from `i` is what was left from `at`.
-- Assumes nothing.
use Rattle.names.proofs.Laws.{test_more, test_stop, run_over}
use native.Mathlib.Omega.{arith}
use Rattle.names.proofs.run_end.Goals.{then-loop-i-test+else-test, else-loop-i-test}
use Rattle.names.proofs.run_end.Goals as goal

pub loop-i-preserved : goal.loop-i-preserved
loop-i-preserved g c = (
  c.loop-i.invariant.0,
  λ f k. test_more _ f k _ c.loop-i.i _ (c.loop-i.invariant.1 f k) c.loop-i-test.true (c.type_inv.s _) _ c.test.ensures c.if-test.true,
)

pub returns : goal.returns
returns g c f k =
    let w = c.loop-i.invariant.1 f k in
    elim c.loop-i-test.branch [
      | then-loop-i-test+else-test b ↦ test_stop _ f k _ c.loop-i.i _ w b.loop-i-test.true (c.type_inv.s _) _ b.test.ensures b.if-test.false
      | else-loop-i-test b ↦ run_over f _ c.loop-i.i _ w (omega arith)
    ]
