-- put_start: the notes where they are listed, and then what is pending.
use Rattle.filling.proofs.StartPuts as starts
use borrow.Author.Rules.{rules}
use Rattle.filling.proofs.put_start.Goals as goal

pub put_notes-k-requires : goal.put_notes-k-requires
put_notes-k-requires g c = search (rules, starts.start_notes)

pub put_pending-requires : goal.put_pending-requires
put_pending-requires g c = search (rules, starts.start_lead)

pub overflow_add-result : goal.overflow_add-result
overflow_add-result g c = record { fits = search (rules, starts.start_fits, g.met.T.Slot.few c.args.row.now) }

pub returns-then-full : goal.returns-then-full
returns-then-full g c = (search (rules, starts.start_all), search (rules, starts.start_count))

pub put_pending-requires-2 : goal.put_pending-requires-2
put_pending-requires-2 g c = search (rules, starts.plain_lead)

pub returns : goal.returns
returns g c = (search (rules, starts.start_none), search (rules, starts.plain_count))
