-- read_whole: the levels are none, and the reading starts where `text_start` says: `finish` with the whole reading's plan.
use Rattle.reading.proofs.Calls as calls
use borrow.Author.Rules.{rules}
use Rattle.reading.proofs.read_whole.Goals as goal

pub finish-requires : goal.finish-requires
finish-requires g c = record { finish_ok = search (rules, calls.whole_ok); above_value = search (rules, calls.whole_line) }

pub returns : goal.returns
returns g c = search (rules, calls.whole_done)
