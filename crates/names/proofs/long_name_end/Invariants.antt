use Rattle.names.specs.Runs.{skip_while}
use Rattle.classes.specs.Classes.{is_identifier_continuation}
use mathlib.Core.Path.{◌≡◌}
use lib.ListN.{length}
use Rattle.window.specs.Place.{place_at}
use Rattle.names.proofs.long_name_end.Given as goal

abbrev pub invariant-loop-i : goal.invariant-loop-i
invariant-loop-i l = skip_while is_identifier_continuation (place_at l.s l.i) ≡ skip_while is_identifier_continuation (place_at l.s l.at)

abbrev pub decreases-loop-i : goal.decreases-loop-i
decreases-loop-i l = length (place_at l.s l.i).rest
