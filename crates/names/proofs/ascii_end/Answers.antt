-- ascii_end: no character from 0x80 up is of this class, so each byte says whether the run goes on.
-- Assumes nothing.
use Rattle.classes.specs.Promises.{is_ascii_continuation}
use Rattle.classes.proofs.ContinuationBits.{name_high}
use Rattle.names.proofs.Laws.{one_high}
use borrow.Author.Rules.{rules}
use Rattle.names.proofs.ascii_end.Goals as goal

pub returns : goal.returns
returns c = c.run_end.ensures is_ascii_continuation (λ b r u p. search rules, one_high is_ascii_continuation _ name_high)
