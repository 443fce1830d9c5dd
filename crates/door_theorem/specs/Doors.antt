-- Document 01, demand 3 and "What comes back": calls of the doors that their contracts allow. Of what is given and at exit `.0` is the first parameter, `.1.0`
-- the second, and so on.
use Rattle.std.specs.Prelude.{ℕ, ◌+◌, List, length}
use Rattle.token.specs.declared.Record.{Record}
use Rattle.answers.specs.declared.Answer.{Answer}
use Rattle.answers.specs.Answers.{answer_in}
use Rattle.exports.proofs.srv_read.Reads as read
use Rattle.exports.proofs.srv_measure.Reads as measure
use Rattle.exports.proofs.srv_reread.Reads as reread
use Rattle.exports.proofs.srv_audit.Reads as audit
use Rattle.list_exports.proofs.Determined as list
use Rattle.edit_theorem.specs.Calls.{Call, ReadCall, RereadCall}

-- the four numbers that `srv_read` hands out
abbrev pub read_numbers : Call read.Post → List ℕ
read_numbers c = c.exit.1.1.1.1.0.now

-- a call of it: its parameters are the text, the mode, the start, the row and those numbers
abbrev pub read_call : Call read.Post → ReadCall ℕ
read_call c = record { text = c.given.0.now; mode = c.given.1.0; start = c.given.1.1.0; lent = c.given.1.1.1.0.now; answer = answer_in (read_numbers c); left = c.exit.1.1.1.0.now }

-- the four numbers that `srv_reread` hands out
abbrev pub reread_numbers : Call reread.Post → List ℕ
reread_numbers c = c.exit.1.1.1.1.1.0.now

-- a call of it: the text, the mode, the row, the old count, A and those numbers
abbrev pub reread_call : Call reread.Post → RereadCall ℕ
reread_call c = record { text = c.given.0.now; mode = c.given.1.0; lent = c.given.1.1.0.now; count = c.given.1.1.1.0; common = c.given.1.1.1.1.0; answer = answer_in (reread_numbers c); left = c.exit.1.1.0.now }

-- a call of `srv_list_read`: the text, the mode, the start and the list
abbrev pub list_read_call : Call list.Read → ReadCall Record
list_read_call c = record { text = c.given.0.now; mode = c.given.1.0; start = c.given.1.1.0; lent = c.given.1.1.1.0.now; answer = c.result; left = c.exit.1.1.1.0.now }

-- a call of `srv_list_reread`: the text, the mode, the list, the old count and A
abbrev pub list_reread_call : Call list.Reread → RereadCall Record
list_reread_call c = record { text = c.given.0.now; mode = c.given.1.0; lent = c.given.1.1.0.now; count = c.given.1.1.1.0; common = c.given.1.1.1.1.0; answer = c.result; left = c.exit.1.1.0.now }

-- what `srv_measure` answers, by its four numbers, and where its text ends: its parameters are the text, the mode, the start and those numbers
abbrev pub measure_answered : Call measure.Post → Answer
measure_answered c = answer_in c.exit.1.1.1.0.now

abbrev pub measure_end : Call measure.Post → ℕ
measure_end c = c.given.1.1.0 + length c.given.0.now

-- what `srv_audit` answers: its parameters are the row, the old count and the four numbers
abbrev pub audit_answered : Call audit.Post → Answer
audit_answered c = answer_in c.exit.1.1.0.now
