-- check: what lies before `i` is whole characters; a block and the character after it are passed, or the character is
-- ill-formed, or the text ends. Assumes nothing.
use Prim.Native.Nat.{◌<◌, ◌+◌}
use mathlib.Core.Path.{sym, ◌∙◌}
use native.Mathlib.Omega.{arith}
use borrow.Author.Rules.{rules}
use Rattle.utf8.specs.Promises.{Passed}
use Rattle.utf8.proofs.Blocks.{none_passed, passed_char, passed_bad, passed_end}
use Rattle.utf8.proofs.check.Goals as goal
use Rattle.utf8.proofs.check.Goals.{In-Char}

-- the character at the block's end, and what the loop has passed with it
more : (c : In-Char) → (Passed c.args.s.now 0 (c.block_end-at.result + c.in-Char.w)) × (c.loop-w.i < c.block_end-at.result + c.in-Char.w)
more c = passed_char _ _ _ _ _ c.loop-w.invariant c.block_end-at.ensures (sym c.decode.ensures ∙ c.in-Char.is)

pub loop-w-init : goal.loop-w-init
loop-w-init c = search (rules, none_passed)

pub overflow_add-i : goal.overflow_add-i
overflow_add-i c = omega (arith, more (goal.at.overflow_add-i c).In-Char)

pub loop-w-smaller : goal.loop-w-smaller
loop-w-smaller c = omega (arith, more (goal.at.loop-w-smaller c).In-Char)

pub loop-w-preserved : goal.loop-w-preserved
loop-w-preserved c = (more (goal.at.loop-w-preserved c).In-Char).0

pub returns-in-IllFormed : goal.returns-in-IllFormed
returns-in-IllFormed c = passed_bad _ _ _ _ c.loop-w.invariant c.block_end-at.ensures (sym c.decode.ensures ∙ c.in-IllFormed.is)

pub returns-in-End : goal.returns-in-End
returns-in-End c = passed_end _ _ _ c.loop-w.invariant c.block_end-at.ensures (sym c.decode.ensures ∙ c.in-End.is)
