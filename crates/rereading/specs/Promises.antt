-- What the steps of re-reading ask and promise.
use Rattle.std.specs.Prelude.{ℕ, ◌+◌, ◌-◌, ◌<◌, ◌≤◌, ◌≡◌, List, [], length, Option, None, Some, Result, Ok, Err}
use Rattle.choice.specs.Choice.{choose}
use Rattle.lines.specs.Lines.{line_at}
use Rattle.token.specs.declared.Record.{Record}
use Rattle.indentation.specs.Levels.{most_levels}
use Rattle.indentation.specs.Promises.{stack}
use Rattle.answers.specs.declared.Answer.{Answer}
use Rattle.answers.specs.declared.Refusal.{Refusal}
use Rattle.answers.specs.Answers.{answer_of}
use Rattle.records.specs.Records.{room, rec_at, recs_in}
use Rattle.rereading.specs.declared.Open.{Open}
use Rattle.rereading.specs.Rereads.{kept_up_to, Built, broken, built, rebuild, ends_line, has_its_line}

-- what is answered where nothing refuses, and else
abbrev pub outcome : Result Answer Refusal → Answer
outcome (Ok a) = a
outcome (Err r) = answer_of r

-- how many records are kept up to a cut
abbrev pub kept_by : Option ℕ → ℕ
kept_by None = 0
kept_by (Some i) = i + 1

-- the cut of n records of a row
pub record CutOf (row : List ℕ) (a n : ℕ) (c : Option ℕ) : Type 0 where
  pub kept : kept_by c ≡ kept_up_to a (recs_in row 0 n)
  pub few : kept_by c ≤ n
  pub low : 0 < kept_by c → (rec_at row (kept_by c - 1)).end < a

-- k records lie in a row, and the cut's end in the text
pub record KeptOk (t : List ℕ) (e : ℕ) (row : List ℕ) (k : ℕ) : Type 0 where
  pub end : e ≤ length t
  pub held : k ≤ room row

-- the levels as the definition has them
abbrev pub levels_in : Option Open → Built
levels_in None = broken
levels_in (Some o) = built (stack o.levels o.depth)

-- so many are open, in places for a hundred
abbrev pub OpenOk : Option Open → Type 0
OpenOk None = Unit {0}
OpenOk (Some o) = (o.depth ≤ most_levels) × (length o.levels ≡ most_levels)

-- the levels after k records
pub record Rebuilt (t : List ℕ) (e : ℕ) (row : List ℕ) (k : ℕ) (r : Option Open) : Type 0 where
  pub same : levels_in r ≡ rebuild t e (recs_in row 0 k) []
  pub ok : OpenOk r

-- the number of lines above a cut's end, where a line ends there and the cut's line is right
unfoldable pub above_cut : List ℕ → Record → Option ℕ
above_cut t r = choose (ends_line t r.end) (λ _. choose (has_its_line t r) (λ _. Some (line_at t r.end)) (λ _. None)) (λ _. None)

-- the cut ends before the text does
pub record AboveOk (t : List ℕ) (r : Record) : Type 0 where
  pub end : r.end < length t
