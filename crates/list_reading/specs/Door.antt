-- Document 01 "What crosses over": there are two doors to the same work. What the second answers and leaves in a list of records
-- is what the first, `reading::read`, answers and leaves in the row of that list.
use Rattle.std.specs.Prelude.{ℕ, ◌≡◌, List}
use Rattle.token.specs.declared.Record.{Record}
use Rattle.answers.specs.declared.Answer.{Answer}
use Rattle.reading.specs.Answers.{read_answer, read_row}
use Rattle.records.specs.Records.{flat}

-- a whole reading of a text, in a mode and from a start, into a list: the answer, and the list afterwards
pub record ReadsInto (t : List ℕ) (mode start : ℕ) (list : List Record) (r : Answer) (after : List Record) : Type 0 where
  pub answer : r ≡ read_answer t mode start (flat list)
  pub records : flat after ≡ read_row t mode start (flat list)
