-- comment_end: every character but a newline is in a line, so the bytes of longer characters are passed one by one.
-- Assumes nothing.
use Rattle.names.specs.Runs.{not_newline}
use Rattle.names.proofs.Laws.{one_high, line_full}
use borrow.Author.Rules.{rules}
use Rattle.names.proofs.comment_end.Goals as goal

pub returns : goal.returns
unfolding not_newline
returns c = c.run_end.ensures not_newline (λ b r u p. search rules, one_high not_newline _ line_full)
