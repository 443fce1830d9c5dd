-- What measuring promises: a reading's ending with the number of its records, for a line and for a text.
use Rattle.std.specs.Prelude.{ℕ, ◌+◌, ◌*◌, ◌<◌, ◌≤◌, ◌≡◌, List, Bool, true, false, length, Option}
use Rattle.std.specs.Option.{option_map_or}
use Rattle.records.specs.Records.{Spanned}
use Rattle.token.specs.declared.Ending.{Ending}
use Rattle.token.specs.Codes.{code_of, detail_of}
use Rattle.records.specs.Limits.{most_bytes, most_records}
use Rattle.indentation.specs.declared.Level.{Level}
use Rattle.indentation.specs.Levels.{most_levels}
use Rattle.indentation.specs.Promises.{stack}
use Rattle.rounds.specs.Rounds.{state, Reading, listed_records, view}
use Rattle.rounds.specs.Promises.{from_item}
use Rattle.measuring.specs.declared.Tally.{Tally}
use Rattle.measuring.specs.declared.Numbers.{Numbers}
use Rattle.measuring.specs.declared.LineEnd.{LineEnd}
use Rattle.measuring.specs.declared.LineEnd.TheVariants.{Newline, Error, End}

-- an ending's numbers, and how many records stand before it
abbrev pub made : ℕ → ℕ → ℕ → ℕ → Numbers
made c n p d = record { code = c; count = n; place = p; detail = d }

-- the code and the detail of how a reading ends, 0 and 0 with its text
abbrev pub end_code : Option Ending → ℕ
end_code o = option_map_or code_of o 0

abbrev pub end_detail : Option Ending → ℕ
end_detail o = option_map_or detail_of o 0

-- a tally's numbers
abbrev pub numbers : Tally → Numbers
numbers r = made (end_code r.ending) r.count r.place (end_detail r.ending)

-- those of a reading's ending, n records before it
abbrev pub tally : ℕ → Reading → Numbers
tally n r = made r.code (n + length r.recs) r.place r.detail

-- the ending that a line's end leads to, where these levels are open
abbrev pub line_end_tally : Bool → List ℕ → List Level → LineEnd → Numbers
line_end_tally full t ls (Newline e n) = tally n (view full t (state e true 0 ls))
line_end_tally full t ls (Error w p n) = made (code_of w) n p (detail_of w)
line_end_tally full t ls (End p n) = made 0 (n + length ls) p 0

-- a bound on the records before a byte: so many at first, and for each byte a Dedent of each level, a token and one more
abbrev pub most : ℕ → ℕ
most at = 2 * most_records + (most_levels + 2) * at

-- a place within a line, where the records of the line's start may be among those before it
pub record InLine (t : List ℕ) (at nest n : ℕ) : Type 0 where
  pub within : at ≤ length t
  pub small : length t ≤ most_bytes
  pub inner : nest ≤ at
  pub few : n ≤ most at + (most_levels + 1)

-- where a line ends, and a bound on the records by then
abbrev pub LineEndFits : List ℕ → ℕ → LineEnd → Type 0
LineEndFits t at (Newline e n) = (at < e) × (e ≤ length t) × (n ≤ most e)
LineEndFits t at (Error w p n) = (p ≤ length t) × (n ≤ most (length t) + (most_levels + 2))
LineEndFits t at (End p n) = (p ≡ length t) × (n ≤ most (length t) + (most_levels + 2))

-- the rest of a line, n records before it
pub record Rested (full : Bool) (t : List ℕ) (at nest n : ℕ) (r : LineEnd) : Type 0 where
  pub same : (ls : List Level) → tally n (view full t (state at false nest ls)) ≡ line_end_tally full t ls r
  pub fits : LineEndFits t at r

-- a line after its start, k records pending
pub record LineOk (t : List ℕ) (from k n : ℕ) : Type 0 where
  pub within : from ≤ length t
  pub small : length t ≤ most_bytes
  pub few : n + k ≤ most from + (most_levels + 1)

-- how such a line ends
pub record Lined (full : Bool) (t : List ℕ) (from k n : ℕ) (r : LineEnd) : Type 0 where
  pub same : (ls : List Level) (rs : List Spanned) → length (listed_records full rs) ≡ k → tally n (from_item full t rs true from 0 ls) ≡ line_end_tally full t ls r
  pub fits : LineEndFits t from r

-- a text from a line's start on, n records before it
pub record TextOk (t : List ℕ) (a : List Level) (depth at n : ℕ) : Type 0 where
  pub within : at ≤ length t
  pub small : length t ≤ most_bytes
  pub open' : depth ≤ most_levels
  pub levels : length a ≡ most_levels
  pub few : n ≤ most at

-- how such a text ends
pub record Measured (full : Bool) (t : List ℕ) (a : List Level) (depth at n : ℕ) (r : Tally) : Type 0 where
  pub same : numbers r ≡ tally n (view full t (state at true 0 (stack a depth)))
  pub to : r.place ≤ length t
