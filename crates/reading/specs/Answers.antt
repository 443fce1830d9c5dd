-- Document 01 "What comes back": what a reading answers, and what it leaves in the row.
use Rattle.std.specs.Prelude.{ℕ, ◌+◌, List, [], Bool, true, Ok, Err, length, ltb, leb, eqb}
use Rattle.answers.specs.Answers.{answer, too_long, unknown_mode, refusal, ill_formed_at, in_room}
use Rattle.choice.specs.Choice.{choose}
use Rattle.utf8.specs.Chars.{Checked, checked}
use Rattle.window.specs.Place.{text_start}
use Rattle.indentation.specs.declared.Level.{Level}
use Rattle.rounds.specs.Rounds.{state, Reading, view}
use Rattle.records.specs.Limits.{most_bytes, places}
use Rattle.soft_keywords.specs.SoftKeywords.{soften}
use Rattle.records.specs.Records.{puts, room}
use Rattle.answers.specs.declared.Answer.{Answer}
use Rattle.reading.specs.Modes.{last_mode, lists_notes, starts_line}

-- what a call does once its arguments are looked at: it refuses; or it reads on from a byte at a line's start, where these levels are open,
-- after so many records; `full`: notes are listed too; `line`: a soft keyword may stand first
pub data Plan : Type 0 where
  refuse : Answer → Plan
  go : (first at : ℕ) (full line : Bool) (levels : List Level) → Plan

-- the records that a reading on needs room for, those before it counted too
abbrev pub need : ℕ → Reading → ℕ
need n r = n + length r.recs

-- what it answers where it has room enough
abbrev pub answer_with_room : ℕ → ℕ → Reading → Answer
answer_with_room start n r = answer r.code (need n r) (start + r.place) r.detail

-- document 02 item 5: a plan's answer where it has room enough
unfoldable pub plan_measure : List ℕ → ℕ → Plan → Answer
plan_measure t start (refuse a) = a
plan_measure t start (go n at full line ls) = answer_with_room start n (view full t (state at true 0 ls))

module _ (t : List ℕ) (start : ℕ) (row : List ℕ) where
  -- the answer of a reading on; code 4 where it has no room
  unfoldable pub answered : ℕ → Reading → Answer
  answered n r = in_room row (answer_with_room start n r)

  -- what it leaves: nothing is written where there is no room
  unfoldable pub written : ℕ → Bool → Reading → List ℕ
  written n line r = choose (ltb (room row) (need n r)) (λ _. row) (λ _. puts t start row n (soften line r.recs))

  -- a plan's answer
  unfoldable pub plan_answer : Plan → Answer
  plan_answer (refuse a) = a
  plan_answer (go n at full line ls) = answered n (view full t (state at true 0 ls))

  -- the row after a plan
  unfoldable pub plan_row : Plan → List ℕ
  plan_row (refuse a) = row
  plan_row (go n at full line ls) = written n line (view full t (state at true 0 ls))

-- the text read from its start, after a BOM
abbrev pub whole_plan : List ℕ → ℕ → Plan
whole_plan t mode = go 0 (text_start t).at (lists_notes mode) (starts_line mode) []

-- code 3, by what the text's bytes are, with the place and the fault (document 02 item 2)
unfoldable pub bytes_refusal : ℕ → Checked → Answer
bytes_refusal start (Ok u) = refusal 0
bytes_refusal start (Err e) = ill_formed_at (start + e.at) e.fault

-- codes 1, 2 and 3, in this order, by the text, the mode and the start; code 0 where none of them applies
unfoldable pub text_refusal : List ℕ → ℕ → ℕ → Answer
text_refusal t mode start =
    choose (ltb most_bytes (length t)) (λ _. refusal too_long)
    (λ _. choose (leb places (start + length t)) (λ _. refusal too_long)
    (λ _. choose (ltb last_mode mode) (λ _. refusal unknown_mode)
    (λ _. bytes_refusal start (checked t))))

-- a call goes on, unless a code other than 0 refuses it
unfoldable pub unless : Answer → (Unit {0} → Plan) → Plan
unless r on = choose (eqb r.code 0) on (λ _. refuse r)

-- a whole reading: refused, or the text from its start
unfoldable pub read_plan : List ℕ → ℕ → ℕ → Plan
read_plan t mode start = unless (text_refusal t mode start) (λ _. whole_plan t mode)

-- a whole reading's answer
unfoldable pub read_answer : List ℕ → ℕ → ℕ → List ℕ → Answer
read_answer t mode start row = plan_answer t start row (read_plan t mode start)

-- the row after a whole reading
unfoldable pub read_row : List ℕ → ℕ → ℕ → List ℕ → List ℕ
read_row t mode start row = plan_row t start row (read_plan t mode start)

-- document 02 item 5: the answer of a whole reading that has room enough
unfoldable pub measure_answer : List ℕ → ℕ → ℕ → Answer
measure_answer t mode start = plan_measure t start (read_plan t mode start)
