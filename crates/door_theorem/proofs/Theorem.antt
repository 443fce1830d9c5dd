-- The edit theorem over the doors' contracts: any results that they allow coincide.
-- Assumes nothing.
use Prim.Native.Nat.{ℕ}
use mathlib.Core.Path.{◌≡◌, sym, ◌∙◌, ap}
use mathlib.Core.List.{List}
use Rattle.token.specs.declared.Record.{Record}
use Rattle.answers.specs.declared.Answer.{Answer}
use Rattle.answers.specs.Answers.{numbers_of, answer_in}
use Rattle.answers.proofs.Laws.{numbers_tell}
use Rattle.exports.proofs.srv_read.Reads as read
use Rattle.exports.proofs.srv_reread.Reads as reread
use Rattle.list_exports.proofs.Determined as list
use Rattle.edit_theorem.specs.Calls.{Call, ReadCall, IsReading, IsRereading, as_reading, Edit, Anew, SameReading, SameList}
use Rattle.edit_theorem.specs.AllowedCalls.{IsListReading}
use Rattle.edit_theorem.proofs.Theorem.{edited, reread_is_read}
use Rattle.edit_theorem.proofs.Lists.{edited_list, reread_is_read_list}
use Rattle.door_theorem.specs.Doors.{read_numbers, read_call, reread_numbers, reread_call, list_read_call, list_reread_call}

-- the contracts are the definitions
pub is_reading : (c : Call read.Post) → IsReading (read_call c)
is_reading c = record { answer = ap answer_in c.allowed.0 ∙ numbers_tell _; left = c.allowed.1 }

pub is_rereading : (c : Call reread.Post) → IsRereading (reread_call c)
is_rereading c = record { answer = ap answer_in c.allowed.0 ∙ numbers_tell _; left = c.allowed.1 }

-- THE THEOREM of `srv_reread`, behind a reading of the old text: that of `srv_read`, or of another `srv_reread` after an edit
pub srv_reread_again : (old : ReadCall ℕ) → IsReading old → (again : Call reread.Post) (anew : Call read.Post)
    → Edit old (reread_call again) → Anew (reread_call again) (read_call anew) → SameReading (reread_call again) (read_call anew)
srv_reread_again old p again anew e w = reread_is_read old (reread_call again) p (is_rereading again) e (read_call anew) (is_reading anew) w

-- which is a reading of the new text; so edits may follow one another
pub srv_edited : (old : ReadCall ℕ) → IsReading old → (again : Call reread.Post) → Edit old (reread_call again) → IsReading (as_reading (reread_call again))
srv_edited old p again e = edited old (reread_call again) p (is_rereading again) e

-- of the two doors alone
pub srv_reread_is_read : (old : Call read.Post) (again : Call reread.Post) (anew : Call read.Post)
    → Edit (read_call old) (reread_call again) → Anew (reread_call again) (read_call anew) → SameReading (reread_call again) (read_call anew)
srv_reread_is_read old = srv_reread_again (read_call old) (is_reading old)

-- four numbers are those of the answer that they tell
told : (l : List ℕ) (r : Answer) → l ≡ numbers_of r → l ≡ numbers_of (answer_in l)
told l r e = rw e

-- so the same four numbers are handed out
pub srv_same_numbers : (again : Call reread.Post) (anew : Call read.Post) → SameReading (reread_call again) (read_call anew) → reread_numbers again ≡ read_numbers anew
srv_same_numbers again anew s = told (reread_numbers again) _ again.allowed.0 ∙ ap numbers_of s.answer ∙ sym (told (read_numbers anew) _ anew.allowed.0)

-- THE THEOREM of `srv_list_reread`, and the same of it
pub srv_list_reread_again : (old : ReadCall Record) → IsListReading old → (again : Call list.Reread) (anew : Call list.Read)
    → Edit old (list_reread_call again) → Anew (list_reread_call again) (list_read_call anew) → SameList (list_reread_call again) (list_read_call anew)
srv_list_reread_again old p again anew e w = reread_is_read_list old (list_reread_call again) p again.allowed e (list_read_call anew) anew.allowed w

pub srv_list_edited : (old : ReadCall Record) → IsListReading old → (again : Call list.Reread) → Edit old (list_reread_call again) → IsListReading (as_reading (list_reread_call again))
srv_list_edited old p again e = edited_list old (list_reread_call again) p again.allowed e

pub srv_list_reread_is_read : (old : Call list.Read) (again : Call list.Reread) (anew : Call list.Read)
    → Edit (list_read_call old) (list_reread_call again) → Anew (list_reread_call again) (list_read_call anew) → SameList (list_reread_call again) (list_read_call anew)
srv_list_reread_is_read old = srv_list_reread_again (list_read_call old) old.allowed
