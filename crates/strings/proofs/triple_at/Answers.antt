-- triple_at: a quote is below 0x80, so the next byte begins the next character. `value` says that the first two bytes are quotes.
-- Assumes nothing.
use Rattle.strings.proofs.Bodies.{first_in, tripled_none, tripled_one, tripled_two}
use Rattle.choice.proofs.Laws.{true_is_not_false}
use native.Mathlib.Omega.{arith}
use borrow.Author.Tests.{eqb-true, eq-eqb}
use mathlib.Core.Path.{sym, ◌∙◌}
use lib.ListN.{length}
use Prim.Native.Nat.{◌<◌}
use Rattle.strings.proofs.triple_at.Goals.{then-byte-q, else-byte-q}
use Rattle.strings.proofs.triple_at.Goals as goal

pub overflow_add-at : goal.overflow_add-at
overflow_add-at c = let k : c.args.at < length c.args.s.now = search first_in in omega arith

pub overflow_add-at-then-byte-q-2 : goal.overflow_add-at-then-byte-q-2
overflow_add-at-then-byte-q-2 c =
    elim c.if-byte-q.branch [
      | then-byte-q w ↦ let k = first_in c.args.s.now c.args.at c.args.q c.requires _ c.byte.ensures w.if-byte-q.true in omega arith
      | else-byte-q w ↦ absurd (w.if-byte-q.false (eqb-true _ _ (sym w.value-is ∙ c.if-byte-q-2.true)))
    ]

pub returns-then-byte-q-2 : goal.returns-then-byte-q-2
returns-then-byte-q-2 c =
    elim c.if-byte-q.branch [
      | then-byte-q w ↦
          let g = eqb-true _ _ (sym w.value-is ∙ c.if-byte-q-2.true) in
          tripled_two c.args.s.now c.args.at _ c.requires _ c.byte.ensures w.if-byte-q.true _ w.byte-then-byte-q.ensures g _ c.byte-then-byte-q-2.ensures
      | else-byte-q w ↦ absurd (w.if-byte-q.false (eqb-true _ _ (sym w.value-is ∙ c.if-byte-q-2.true)))
    ]

pub returns-else-byte-q-2 : goal.returns-else-byte-q-2
returns-else-byte-q-2 c =
    (elim c.if-byte-q.branch [
      | then-byte-q w ↦
          tripled_one c.args.s.now c.args.at _ c.requires _ c.byte.ensures w.if-byte-q.true _ w.byte-then-byte-q.ensures
          (λ e. true_is_not_false (sym (eq-eqb _ _ e) ∙ sym w.value-is ∙ c.if-byte-q-2.false))
      | else-byte-q w ↦ tripled_none c.args.s.now c.args.at _ c.requires _ c.byte.ensures w.if-byte-q.false
    ])
    ∙ sym c.if-byte-q-2.false
