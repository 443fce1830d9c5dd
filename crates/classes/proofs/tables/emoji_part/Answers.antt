-- emoji_part: the tests on the way to a part leave a stretch of characters, and the part has the ranges that meet it.
-- Written by tools/tables-to-rattle: no edit here lasts.
use mathlib.Core.Path.{refl}
use native.Mathlib.Omega.{arith}
use Rattle.classes.specs.Tables.{emoji_presentation}
use Rattle.classes.proofs.Parts.{keep, meets, paired, in_part}
use Rattle.classes.proofs.Order.{emoji_presentation_in_order}
use Rattle.classes.proofs.tables.emoji_part.Goals as goal

pub returns-then-c-lt11093 : goal.returns-then-c-lt11093
unfolding emoji_presentation keep meets paired
returns-then-c-lt11093 c = in_part emoji_presentation_in_order 0x0 0x2b55 refl (omega arith) (omega arith)

pub returns-then-c-lt128720 : goal.returns-then-c-lt128720
unfolding emoji_presentation keep meets paired
returns-then-c-lt128720 c = in_part emoji_presentation_in_order 0x2b55 0x1f6d0 refl (omega arith) (omega arith)

pub returns : goal.returns
unfolding emoji_presentation keep meets paired
returns c = in_part emoji_presentation_in_order 0x1f250 0x100000000 refl (omega arith) (omega arith)
