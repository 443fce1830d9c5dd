-- is_identifier_start: in ASCII the comparisons answer as the class does, and beyond the part that is searched answers as its table.
use mathlib.Core.Path.{◌∙◌}
use native.Mathlib.Omega.{arith}
use Rattle.classes.proofs.Laws.{ascii_start, beyond_ascii}
use Rattle.classes.proofs.is_identifier_start.Goals as goal

pub returns-then-c-lt128 : goal.returns-then-c-lt128
returns-then-c-lt128 c = ascii_start _ c.if-c-lt128.true ∙ c.is_ascii_start.ensures

pub returns : goal.returns
returns c = beyond_ascii (cc) (omega arith)
