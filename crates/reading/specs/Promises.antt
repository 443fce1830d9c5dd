-- What reading on from a line's start asks and promises.
use Rattle.std.specs.Prelude.{ℕ, ◌+◌, ◌<◌, ◌≤◌, ◌≡◌, List, length, ltb}
use Rattle.choice.specs.Choice.{choose}
use Rattle.indentation.specs.declared.Level.{Level}
use Rattle.records.specs.Limits.{most_bytes, most_records, places}
use Rattle.answers.specs.declared.Answer.{Answer}
use Rattle.answers.specs.Answers.{refusal, no_room_for}
use Rattle.reading.specs.Answers.{Plan, plan_answer, plan_row}
use Rattle.indentation.specs.Levels.{most_levels}
use Rattle.reading.specs.declared.Asked.{Asked}
use Rattle.reading.specs.Modes.{lists_notes, starts_line}

-- a text that codes 1 to 3 leave
pub record Readable (t : List ℕ) (start : ℕ) : Type 0 where
  pub small : length t ≤ most_bytes
  pub fits : start + length t < places

-- reading on from a byte of such a text, behind n records
pub record FinishOk (t : List ℕ) (start : ℕ) (a : List Level) (depth at n : ℕ) : Type 0 where
  pub within : at ≤ length t
  pub text : Readable t start
  pub open' : depth ≤ most_levels
  pub levels : length a ≡ most_levels
  pub few : n ≤ most_records

-- code 4 where so many records outnumber the room, or code 0
abbrev pub room_refusal : (space n : ℕ) → Answer
room_refusal space n = choose (ltb space n) (λ _. no_room_for n) (λ _. refusal 0)

-- the answer and the row are a plan's
pub record Finished (t row row' : List ℕ) (start : ℕ) (p : Plan) (r : Answer) : Type 0 where
  pub answer : r ≡ plan_answer t start row p
  pub records : row' ≡ plan_row t start row p

-- what a mode asks for, as the program has it
pub record Asks (mode : ℕ) (r : Asked) : Type 0 where
  pub full : r.full ≡ lists_notes mode
  pub line : r.line ≡ starts_line mode
