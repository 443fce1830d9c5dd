-- long_name_end: each turn takes one character that goes on with the name; what is left of the text falls.
-- Assumes nothing.
use Rattle.names.proofs.Laws.{char_less, char_again, char_stop, name_none}
use Rattle.classes.specs.Classes.{is_identifier_continuation}
use Rattle.names.proofs.long_name_end.Goals as goal

pub loop-i-smaller : goal.loop-i-smaller
loop-i-smaller c = search (char_less is_identifier_continuation name_none)

pub loop-i-preserved : goal.loop-i-preserved
loop-i-preserved c = search (char_again, name_none)

pub returns-else-is_identifier_continuation : goal.returns-else-is_identifier_continuation
returns-else-is_identifier_continuation c = search char_stop
