-- ascii_block: a number or'ed together is below 0x80 exactly if each of its parts is. Assumes nothing.
use Prim.Native.Nat.{◌+◌, ◌-◌}
use mathlib.Core.Path.{◌≡◌, ◌∙◌, ap, sym}
use native.Mathlib.Omega.{arith}
use borrow.Author.Rules.{rules}
use lib.Bits.{bit_or}
use lib.Dec.{ltb}
use lib.ListN.{take, drop}
use Rattle.std.specs.List.{fold}
use Rattle.utf8.proofs.Blocks.{low_fold}
use Rattle.utf8.proofs.ascii_block.Goals as goal

pub returns : goal.returns
returns c =
    let n : c.args.at + 64 - c.args.at ≡ 64 = omega arith in
    let e : c.fold.result ≡ fold bit_or 0 (take (c.args.at + 64 - c.args.at) (drop c.args.at c.args.s.now)) = search rules in
    low_fold c.args.s.now c.args.at 64 (omega arith) ∙ ap (λ m. ltb (fold bit_or 0 (take m (drop c.args.at c.args.s.now))) 0x80) (sym n) ∙ ap (λ m. ltb m 0x80) (sym e)
