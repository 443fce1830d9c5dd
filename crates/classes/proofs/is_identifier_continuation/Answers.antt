-- is_identifier_continuation: in ASCII the comparisons answer as the class does, and beyond the part that is searched answers as its table.
use mathlib.Core.Path.{◌∙◌}
use Rattle.classes.specs.Classes.{is_identifier_continuation}
use Rattle.classes.proofs.Laws.{ascii_continue}
use Rattle.classes.proofs.is_identifier_continuation.Goals as goal

pub returns-then-c-lt128 : goal.returns-then-c-lt128
returns-then-c-lt128 c = ascii_continue _ c.if-c-lt128.true ∙ c.is_ascii_continuation.ensures

pub returns : goal.returns
unfolding is_identifier_continuation
returns c = cc
