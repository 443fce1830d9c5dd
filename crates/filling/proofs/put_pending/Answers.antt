-- put_pending: an Indent and then the Dedents, or the Dedents alone.
use mathlib.Core.Path.{◌∙◌, ap}
use lib.ListN.{length}
use native.Mathlib.Omega.{arith}
use Rattle.filling.proofs.Rows as rows
use Rattle.records.proofs.Rooms.{length_rec}
use borrow.Author.Rules.{rules}
use Rattle.filling.proofs.put_pending.Goals as goal

pub returns-then-l-eq0 : goal.returns-then-l-eq0
returns-then-l-eq0 g c = search (rules, rows.prefixed_none)

pub put_dedents-requires-2 : goal.put_dedents-requires-2
put_dedents-requires-2 g c = omega (arith, c.requires, ap length c.put_token.ensures ∙ length_rec _ _ _)

pub returns : goal.returns
returns g c = search (rules, rows.lead_one)
