-- unless_refused: each way out is the re-reading's plan, by a law of its own; a cut that ends below A ends within the text.
use Rattle.rereading.proofs.Plans as plans
use Rattle.std.proofs.lemmas.Result.{err_from_is_err_and}
use Rattle.std.proofs.Common.{Some, None, ◌≡◌}
use native.Mathlib.Omega.{arith}
use mathlib.Core.Path.{sym, ◌∙◌}
use Rattle.answers.specs.declared.Refusal.TheVariants.{Unsound}
use Rattle.rereading.proofs.unless_refused.Goals as goal

pub returns-in_err-text_refusal : goal.returns-in_err-text_refusal
returns-in_err-text_refusal g c =
    let p = err_from_is_err_and c.from_residual.result c.from_residual.ensures.1 in
    rw (p.1, p.2) (plans.off_text _ _ _ _ _ _ c.in_err-text_refusal.ensures)

pub returns-in_err-edit_refusal : goal.returns-in_err-edit_refusal
returns-in_err-edit_refusal g c =
    let p = err_from_is_err_and c.from_residual-in_err-edit_refusal.result c.from_residual-in_err-edit_refusal.ensures.1 in
    rw (p.1, p.2) (plans.off_edit _ _ _ _ _ c.in_ok-text_refusal.ensures _ c.room.ensures _ c.in_err-edit_refusal.ensures)

pub cut_in-requires : goal.cut_in-requires
cut_in-requires g c = plans.old_held _ _ _ _ _ c.in_ok-text_refusal.ensures _ c.room.ensures c.in_ok-edit_refusal.ensures

pub read_whole-requires : goal.read_whole-requires
read_whole-requires g c = plans.text_ok _ _ c.in_ok-text_refusal.ensures

pub returns-in_default : goal.returns-in_default
returns-in_default g c = plans.on_whole _ _ _ _ _ c.in_ok-text_refusal.ensures _ c.room.ensures c.in_ok-edit_refusal.ensures c.in_default.ensures _ _ c.read_whole.ensures

pub record_at-cut-requires : goal.record_at-cut-requires
record_at-cut-requires g c = plans.cut_held _ _ _ _ _ c.in_ok-text_refusal.ensures _ c.room.ensures c.in_ok-edit_refusal.ensures _ c.in-Some.ensures

pub above_cut-requires : goal.above_cut-requires
above_cut-requires g c = plans.end_within _ _ _ _ _ c.in_ok-text_refusal.ensures _ c.room.ensures c.in_ok-edit_refusal.ensures _ c.in-Some.ensures _ c.record_at-cut.ensures

pub returns-in_err-above : goal.returns-in_err-above
returns-in_err-above g c =
    let p = err_from_is_err_and c.from_residual-in_err-above.result c.from_residual-in_err-above.ensures.1 in
    let n : c.above_cut.result ≡ None = grind arith in
    let e : c.in_err-above.field-0.0 ≡ Unsound = grind arith in
    rw (p.1, p.2, e)
    (plans.off_line _ _ _ _ _ c.in_ok-text_refusal.ensures _ c.room.ensures c.in_ok-edit_refusal.ensures _ c.in-Some.ensures _ c.record_at-cut.ensures (sym n ∙ c.above_cut.ensures))

pub rebuilt-requires : goal.rebuilt-requires
rebuilt-requires g c = plans.kept_ok _ _ _ _ _ c.in_ok-text_refusal.ensures _ c.room.ensures c.in_ok-edit_refusal.ensures _ c.in-Some.ensures _ c.record_at-cut.ensures

pub returns-in_err-open : goal.returns-in_err-open
returns-in_err-open g c =
    let p = err_from_is_err_and c.from_residual-in_err-open.result c.from_residual-in_err-open.ensures.1 in
    let n : c.rebuilt.result ≡ None = grind arith in
    let e : c.in_err-open.field-0.0 ≡ Unsound = grind arith in
    let m : c.above_cut.result ≡ Some c.in_ok-above.above = grind arith in
    rw (p.1, p.2, e)
    (plans.off_built _ _ _ _ _ c.in_ok-text_refusal.ensures _ c.room.ensures c.in_ok-edit_refusal.ensures _ c.in-Some.ensures _ c.record_at-cut.ensures _ (sym m ∙ c.above_cut.ensures)
    (rw n at c.rebuilt.ensures))

pub finish-requires : goal.finish-requires
finish-requires g c =
    let m : c.above_cut.result ≡ Some c.in_ok-above.above = grind arith in
    let o : c.rebuilt.result ≡ Some c.in_ok-open.open = grind arith in
    record {
      finish_ok = plans.go_ok _ _ _ _ _ c.in_ok-text_refusal.ensures _ c.room.ensures c.in_ok-edit_refusal.ensures _ c.in-Some.ensures _ c.record_at-cut.ensures _ (sym m ∙ c.above_cut.ensures) _ (rw o at c.rebuilt.ensures);
      above_value = plans.on_line _ _ _ _ _ c.in_ok-text_refusal.ensures _ c.room.ensures c.in_ok-edit_refusal.ensures _ c.in-Some.ensures _ c.record_at-cut.ensures _ (sym m ∙ c.above_cut.ensures);
    }

pub returns : goal.returns
returns g c =
    let m : c.above_cut.result ≡ Some c.in_ok-above.above = grind arith in
    let o : c.rebuilt.result ≡ Some c.in_ok-open.open = grind arith in
    plans.on_built _ _ _ _ _ c.in_ok-text_refusal.ensures _ c.room.ensures c.in_ok-edit_refusal.ensures _ c.in-Some.ensures _ c.record_at-cut.ensures _ (sym m ∙ c.above_cut.ensures) _ (rw o at c.rebuilt.ensures)
    _ c.asked_by-full.ensures.full _ _ c.finish.ensures
