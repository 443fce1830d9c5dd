-- line_at: the line ends from the text's start; behind its end there are no more.
use Rattle.lines.proofs.Laws.{line_all, line_all_past}
use Rattle.lines.proofs.line_at.Goals as goal

pub returns-then-s-at : goal.returns-then-s-at
returns-then-s-at c = search line_all_past

pub returns : goal.returns
returns c = search line_all
