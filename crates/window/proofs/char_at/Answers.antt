-- char_at: the end, a byte below 0x80, or the whole decoding: one law each. Assumes nothing.
use Rattle.window.proofs.Laws.{taken_over, taken_ascii}
use Rattle.window.proofs.char_at.Goals as goal

pub returns-then-s-at : goal.returns-then-s-at
returns-then-s-at c = search taken_over

pub returns-then-b-lt128 : goal.returns-then-b-lt128
returns-then-b-lt128 c = search taken_ascii
