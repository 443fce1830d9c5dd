-- The theorem over the contracts of `read` and `reread`: any results that they allow coincide.
-- Assumes nothing.
use Rattle.reading.proofs.read.Reads as read
use Rattle.rereading.proofs.reread.Reads as reread
use Rattle.edit_theorem.specs.Calls.{Call, IsReading, IsRereading, Edit, Anew, SameReading}
use Rattle.edit_theorem.specs.AllowedCalls.{read_call, reread_call}
use Rattle.edit_theorem.proofs.Theorem as theorem

-- the contracts are the definitions
pub is_reading : (c : Call read.Post) → IsReading (read_call c)
is_reading c = record { answer = c.allowed.0; left = c.allowed.1 }

is_rereading : (c : Call reread.Post) → IsRereading (reread_call c)
is_rereading c = record { answer = c.allowed.0; left = c.allowed.1 }

-- THE THEOREM
pub reread_is_read : (old : Call read.Post) (again : Call reread.Post) (anew : Call read.Post)
    → Edit (read_call old) (reread_call again) → Anew (reread_call again) (read_call anew) → SameReading (reread_call again) (read_call anew)
reread_is_read old again anew e w = theorem.reread_is_read (read_call old) (reread_call again) (is_reading old) (is_rereading again) e (read_call anew) (is_reading anew) w
