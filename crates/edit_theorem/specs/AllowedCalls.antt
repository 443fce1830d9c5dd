-- Document 01, demand 3: calls of `read` and `reread`, of rows and of lists, that their contracts allow. Of what is given and at exit
-- `.0` is the first parameter, `.1.0` the second, and so on.
use Rattle.std.specs.Prelude.{ℕ}
use contract.Lifetimes.{Lfts}
use denote.Triple.Entry.{Args, Res}
use denote.Triple.Clauses.{AtExit}
use Rattle.token.specs.declared.Record.{Record}
use Rattle.list_reading.specs.Door.{ReadsInto}
use Rattle.list_rereading.specs.Door.{RereadsInto}
use Rattle.reading.proofs.read.Reads as read
use Rattle.rereading.proofs.reread.Reads as reread
use Rattle.list_reading.specs.contracts.read as list_read
use Rattle.list_rereading.specs.contracts.reread as list_reread
use Rattle.edit_theorem.specs.Calls.{Call, ReadCall, RereadCall}

-- a call of `reading::read`: its parameters are the text, the mode, the start and the row
abbrev pub read_call : Call read.Post → ReadCall ℕ
read_call c = record { text = c.given.0.now; mode = c.given.1.0; start = c.given.1.1.0; lent = c.given.1.1.1.0.now; answer = c.result; left = c.exit.1.1.1.0.now }

-- a call of `rereading::reread`: the text, the mode, the row, the old count and A
abbrev pub reread_call : Call reread.Post → RereadCall ℕ
reread_call c = record { text = c.given.0.now; mode = c.given.1.0; lent = c.given.1.1.0.now; count = c.given.1.1.1.0; common = c.given.1.1.1.1.0; answer = c.result; left = c.exit.1.1.0.now }

-- a reading into a list, as `list_reading::read` makes it
abbrev pub IsListReading : ReadCall Record → Type 0
IsListReading c = ReadsInto c.text c.mode c.start c.lent c.answer c.left

-- a re-reading of a list, as `list_rereading::reread` makes it
abbrev pub IsListRereading : RereadCall Record → Type 0
IsListRereading c = RereadsInto c.text c.mode c.lent c.count c.common c.answer c.left

-- what the contract of `list_reading::read` says of a call (proofs/Lists: `list_read_says`)
abbrev pub ListRead : (κs : Lfts 2) → Args (list_read.ended).signature κs → Res (list_read.ended).signature κs → AtExit list_read.ended κs → Type 0
ListRead κs a r e = ReadsInto a.0.now a.1.0 a.1.1.0 a.1.1.1.0.now r e.1.1.1.0.now

-- what the contract of `list_rereading::reread` says of one (`list_reread_says`)
abbrev pub ListReread : (κs : Lfts 2) → Args (list_reread.ended).signature κs → Res (list_reread.ended).signature κs → AtExit list_reread.ended κs → Type 0
ListReread κs a r e = RereadsInto a.0.now a.1.0 a.1.1.0.now a.1.1.1.0 a.1.1.1.1.0 r e.1.1.0.now

-- a call of `list_reading::read`: the text, the mode, the start and the list
abbrev pub list_read_call : Call ListRead → ReadCall Record
list_read_call c = record { text = c.given.0.now; mode = c.given.1.0; start = c.given.1.1.0; lent = c.given.1.1.1.0.now; answer = c.result; left = c.exit.1.1.1.0.now }

-- a call of `list_rereading::reread`: the text, the mode, the list, the old count and A
abbrev pub list_reread_call : Call ListReread → RereadCall Record
list_reread_call c = record { text = c.given.0.now; mode = c.given.1.0; lent = c.given.1.1.0.now; count = c.given.1.1.1.0; common = c.given.1.1.1.1.0; answer = c.result; left = c.exit.1.1.0.now }
