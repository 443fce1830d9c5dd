-- Document 01 "What crosses over": there are two doors to the same work. What the second answers and leaves in a list of records
-- is what the first, `rereading::reread`, answers and leaves in the row of that list.
use Rattle.std.specs.Prelude.{ℕ, ◌≡◌, List}
use Rattle.token.specs.declared.Record.{Record}
use Rattle.answers.specs.declared.Answer.{Answer}
use Rattle.rereading.specs.Rereads.{reread_answer, reread_row}
use Rattle.records.specs.Records.{flat}

-- a re-reading of a text, in a mode, of so many old records of a list, after an edit that left the first `a` bytes: the answer, and the
-- list afterwards
pub record RereadsInto (t : List ℕ) (mode : ℕ) (list : List Record) (old a : ℕ) (r : Answer) (after : List Record) : Type 0 where
  pub answer : r ≡ reread_answer t mode (flat list) old a
  pub records : flat after ≡ reread_row t mode (flat list) old a
