-- rest_end: a byte below 0x80 that is no ASCII letter or digit ends the name, and so does the end of the text.
-- Assumes nothing.
use Rattle.names.proofs.Laws.{rest_over, rest_stop}
use Rattle.names.proofs.rest_end.Goals.{else-at-s-via-then-at-s+else-s-at-ge128, else-at-s-via-else-at-s}
use Rattle.names.proofs.rest_end.Goals as goal

pub returns : goal.returns
returns c = elim c.else-at-s.branch [ else-at-s-via-then-at-s+else-s-at-ge128 w ↦ search rest_stop | else-at-s-via-else-at-s w ↦ search rest_over ]
