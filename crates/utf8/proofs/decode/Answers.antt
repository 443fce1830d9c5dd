-- decode: one law for each lead byte, and one for each sequence that the text's end cuts off. Assumes nothing.
use Prim.Native.Nat.{◌+◌}
use native.Mathlib.Omega.{arith}
use borrow.Author.Rules.{rules}
use Rattle.utf8.proofs.Bytes.{past_end, lead_one, lead_tail, lead_two, lead_three, lead_four, lead_high}
use Rattle.utf8.proofs.Cuts.{lead_alone, cut_three, cut_four, cut_fourth}
use Rattle.utf8.proofs.decode.Goals as goal

pub returns-then-s-at : goal.returns-then-s-at
returns-then-s-at c = search past_end

pub returns-then-a-lt128 : goal.returns-then-a-lt128
returns-then-a-lt128 c = search (rules, lead_one)

pub returns-then-a-lt194 : goal.returns-then-a-lt194
returns-then-a-lt194 c = search (rules, lead_tail)

pub returns-then-s-at-lt2 : goal.returns-then-s-at-lt2
returns-then-s-at-lt2 c = lead_alone _ _ (omega arith) (omega arith) (omega arith) (omega arith)

pub returns-then-a-lt224 : goal.returns-then-a-lt224
returns-then-a-lt224 c = search lead_two

pub returns-then-s-at-lt2-2 : goal.returns-then-s-at-lt2-2
returns-then-s-at-lt2-2 c = lead_alone _ _ (omega arith) (omega arith) (omega arith) (omega arith)

pub returns-then-s-at-lt3 : goal.returns-then-s-at-lt3
returns-then-s-at-lt3 c = search cut_three

pub returns-then-a-lt240 : goal.returns-then-a-lt240
returns-then-a-lt240 c = search lead_three

pub returns-then-s-at-lt2-3 : goal.returns-then-s-at-lt2-3
returns-then-s-at-lt2-3 c = lead_alone _ _ (omega arith) (omega arith) (omega arith) (omega arith)

pub returns-then-s-at-lt3-2 : goal.returns-then-s-at-lt3-2
returns-then-s-at-lt3-2 c = search cut_four

pub overflow_cast-s : goal.overflow_cast-s
overflow_cast-s c = omega (arith, c.type_inv.s (c.args.at + 2))

pub returns-then-s-at-lt4 : goal.returns-then-s-at-lt4
returns-then-s-at-lt4 c = search cut_fourth

pub returns-then-a-lt245 : goal.returns-then-a-lt245
returns-then-a-lt245 c = search lead_four

pub returns : goal.returns
returns c = let k = c.type_inv.s c.args.at in search lead_high
