-- lex_name: a name that starts in ASCII goes by its bytes; any other is no keyword.
-- Assumes nothing.
use Rattle.names.proofs.Names.{name_wide}
use Rattle.names.proofs.lex_name.Goals as goal

pub returns : goal.returns
returns c = search name_wide
