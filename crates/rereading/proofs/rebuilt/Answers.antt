-- rebuilt: one record's effect after another, and none behind an unsound one.
use Rattle.rereading.proofs.Rebuilds as rebuilds
use Rattle.std.proofs.Common.{Some}
use mathlib.Core.Path.{◌∙◌, ap}
use borrow.Author.Rules.{rules}
use Rattle.rereading.proofs.rebuilt.Goals as goal
use Rattle.rereading.proofs.rebuilt.Goals.{in-Opens, in-Closes, in-Stays}

pub loop-i-init : goal.loop-i-init
loop-i-init g c = search (rules, rebuilds.going_all)

pub returns-in_err-level : goal.returns-in_err-level
returns-in_err-level g c = rw c.from_residual.ensures (rebuilds.going_broken _ _ _ _ _ _ _ c.loop-i.invariant c.loop-i-test.true _ c.record_at.ensures _ c.effect_of.ensures c.in_err-level.was)

pub bounds-levels-depth : goal.bounds-levels-depth
bounds-levels-depth g c = rebuilds.opens_room _ _ _ _ _ _ _ c.loop-i.invariant c.loop-i-test.true _ c.record_at.ensures _ c.effect_of.ensures _ (c.in_ok-level.was ∙ ap Some c.in-Opens.is)

pub overflow_sub-depth : goal.overflow_sub-depth
overflow_sub-depth g c = rebuilds.closes_some _ _ _ _ _ _ _ c.loop-i.invariant c.loop-i-test.true _ c.record_at.ensures _ c.effect_of.ensures (c.in_ok-level.was ∙ ap Some c.in-Closes.is)

pub loop-i-preserved : goal.loop-i-preserved
loop-i-preserved g c =
    elim c.match-branch-2.branch [
      | in-Opens w ↦
          rw w.depth-is (rebuilds.going_opens _ _ _ _ _ _ _ c.loop-i.invariant c.loop-i-test.true _ c.record_at.ensures _ c.effect_of.ensures _ (c.in_ok-level.was ∙ ap Some w.in-Opens.is) _ w.levels-is)
      | in-Closes w ↦
          rw (w.levels-is, w.depth-is) (rebuilds.going_closes _ _ _ _ _ _ _ c.loop-i.invariant c.loop-i-test.true _ c.record_at.ensures _ c.effect_of.ensures (c.in_ok-level.was ∙ ap Some w.in-Closes.is))
      | in-Stays w ↦
          rw (w.levels-is, w.depth-is) (rebuilds.going_stays _ _ _ _ _ _ _ c.loop-i.invariant c.loop-i-test.true _ c.record_at.ensures _ c.effect_of.ensures (c.in_ok-level.was ∙ ap Some w.in-Stays.is))
    ]

pub returns : goal.returns
returns g c = rebuilds.going_none _ _ _ _ _ _ _ c.loop-i.invariant c.loop-i-test.false
