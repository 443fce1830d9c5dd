-- blank_end: no character from 0x80 up is a blank, so each byte says whether the run goes on.
-- Assumes nothing.
use Rattle.names.specs.Runs.{is_blank}
use Rattle.names.proofs.Laws.{one_high, blank_low}
use borrow.Author.Rules.{rules}
use Rattle.names.proofs.blank_end.Goals as goal

pub returns : goal.returns
returns c = c.run_end.ensures is_blank (λ b r u p. search rules, one_high is_blank _ blank_low)
