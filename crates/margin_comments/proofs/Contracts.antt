-- Document 01 "Letting a margin comment close a block", over the contract of `read`: of any results that it allows.
-- Assumes nothing.
use Prim.Native.Nat.{◌+◌}
use lib.ListN.{length}
use Rattle.reading.proofs.read.Reads as read
use Rattle.edit_theorem.specs.Calls.{Call}
use Rattle.edit_theorem.specs.AllowedCalls.{read_call}
use Rattle.edit_theorem.proofs.Contracts.{is_reading}
use Rattle.margin_comments.specs.PutIn.{CommentPutIn, SameButPlaces}
use Rattle.margin_comments.proofs.Doors as doors

-- THE THEOREM: `read` of a text in mode 0, 1 or 2, and of the same text with a comment line put in behind a Newline, or behind blank and comment
-- lines there; where both have records as their answer, these are the same but for their places, and of the same kinds in order
pub comment_ends_no_block : (old new : Call read.Post) (c : CommentPutIn (read_call old) (read_call new)) → SameButPlaces (length c.front + length c.lines) (length c.bytes) (read_call old) (read_call new)
comment_ends_no_block old new c = doors.comment_ends_no_block (read_call old) (read_call new) (is_reading old) (is_reading new) c
