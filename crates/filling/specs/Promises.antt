-- What filling a row promises, for a line and for a text.
use Rattle.std.specs.Prelude.{ℕ, ◌+◌, ◌-◌, ◌<◌, ◌≤◌, ◌≡◌, List, ◌++◌, Bool, true, false, length}
use Rattle.indentation.specs.declared.Level.{Level}
use Rattle.indentation.specs.Promises.{stack}
use Rattle.lines.specs.Lines.{line_at}
use Rattle.window.specs.Place.{place_at}
use Rattle.indentation.specs.Notes.{notes}
use Rattle.rounds.specs.Rounds.{state, dedents, listed_records, view}
use Rattle.rounds.specs.declared.Pending.{Pending}
use Rattle.rounds.specs.Promises.{pending_records, from_item}
use Rattle.measuring.specs.declared.Tally.{Tally}
use Rattle.measuring.specs.declared.LineEnd.{LineEnd}
use Rattle.measuring.specs.declared.LineEnd.TheVariants.{Newline, Error, End}
use Rattle.measuring.specs.Promises.{tally, InLine, Rested, LineOk, TextOk, Measured, line_end_tally, LineEndFits}
use Rattle.filling.specs.declared.Written.{Written}
use Rattle.soft_keywords.specs.SoftKeywords.{soften}
use Rattle.records.specs.Limits.{places}
use Rattle.records.specs.Records.{room, puts}

-- room for n Dedents from the index i on
pub record DedentsOk (space start i n p above : ℕ) : Type 0 where
  pub room : i + n ≤ space
  pub place : start + p < places
  pub line : above < places

-- room for what a line's start leaves pending
pub record PendingOk (space start n : ℕ) (l : Pending) (above : ℕ) : Type 0 where
  pub room : n + (l.indents + l.dedents) ≤ space
  pub one : l.indents ≤ 1
  pub wide : l.blanks.tabs + l.blanks.spaces ≤ l.from
  pub place : start + l.from < places
  pub line : above < places

-- the notes of a line's start, and room for them
pub record NotesOk (t : List ℕ) (space start n at above : ℕ) : Type 0 where
  pub within : at ≤ length t
  pub line : above ≡ line_at t at
  pub room : n + length (notes (place_at t at)) ≤ space
  pub fits : start + length t < places

-- a line's start with so many lines above it, and its blanks in the line of its first item
pub record ItemOk (t : List ℕ) (at above : ℕ) (l : Pending) : Type 0 where
  pub line : above ≡ line_at t at
  pub blanks : line_at t (l.from - (l.blanks.tabs + l.blanks.spaces)) ≡ line_at t l.from
  pub on : at + (l.blanks.tabs + l.blanks.spaces) ≤ l.from
  pub to : l.from ≤ length t

-- what a line's start hands out, and room for it
pub record StartOk (full : Bool) (t : List ℕ) (space start n at above : ℕ) (l : Pending) (here : ℕ) : Type 0 where
  pub within : at ≤ length t
  pub item : ItemOk t at above l
  pub line : here ≡ line_at t l.from
  pub room : n + (length (listed_records full (notes (place_at t at))) + (l.indents + l.dedents)) ≤ space
  pub fits : start + length t < places
  pub one : l.indents ≤ 1
  pub wide : l.blanks.tabs + l.blanks.spaces ≤ l.from
  pub place : start + l.from < places

-- how many lines stand above the place where a line's end leads to
abbrev pub LinesAbove : List ℕ → LineEnd → ℕ → Type 0
LinesAbove t (Newline e n) above = above ≡ line_at t e
LinesAbove t (Error w p n) above = Unit {0}
LinesAbove t (End p n) above = above ≡ line_at t p

-- the row that a line's end leads to, where these levels are open
abbrev pub line_end_puts : Bool → ℕ → List ℕ → List Level → List ℕ → LineEnd → List ℕ
line_end_puts full start t ls row (Newline e n) = puts t start row n (soften true (view full t (state e true 0 ls)).recs)
line_end_puts full start t ls row (Error w p n) = row
line_end_puts full start t ls row (End p n) = puts t start row n (dedents (length ls) p)

-- a place within a line, and room for what is left where some levels are open
pub record RestOk (full : Bool) (t row : List ℕ) (start at above nest n : ℕ) (line : Bool) : Type 0 where
  pub ok : InLine t at nest n
  pub up : above ≡ line_at t at
  pub fits : start + length t < places
  pub flat : line ≡ true → nest ≡ 0
  pub levels : List Level
  pub room : n + length (view full t (state at false nest levels)).recs ≤ room row

-- the rest of a line written: what is left is what its end leads to
pub record RestFilled (full : Bool) (t row row' : List ℕ) (start at nest n : ℕ) (line : Bool) (r : Written) : Type 0 where
  pub counted : Rested full t at nest n r.end
  pub up : LinesAbove t r.end r.above
  pub same : length row' ≡ length row
  pub left : (ls : List Level) → line_end_puts full start t ls row' r.end ≡ puts t start row n (soften line (view full t (state at false nest ls)).recs)

-- a line after its start, and room for what is left where some levels are open
pub record LineFill (full : Bool) (t row : List ℕ) (start n at above : ℕ) (l : Pending) : Type 0 where
  pub ok : LineOk t l.from (length (listed_records full (notes (place_at t at))) + (l.indents + l.dedents)) n
  pub begins : at ≤ length t
  pub item : ItemOk t at above l
  pub one : l.indents ≤ 1
  pub wide : l.blanks.tabs + l.blanks.spaces ≤ l.from
  pub fits : start + length t < places
  pub levels : List Level
  pub room : n + length (from_item full t (notes (place_at t at) ++ pending_records l) true l.from 0 levels).recs ≤ room row

-- such a line written, and how it ends
pub record LineFilled (full : Bool) (t row row' : List ℕ) (start n at : ℕ) (l : Pending) (line : Bool) (r : Written) : Type 0 where
  pub counted : (ls : List Level) → tally n (from_item full t (notes (place_at t at) ++ pending_records l) true l.from 0 ls) ≡ line_end_tally full t ls r.end
  pub bounds : LineEndFits t l.from r.end
  pub up : LinesAbove t r.end r.above
  pub same : length row' ≡ length row
  pub left : (ls : List Level) → line_end_puts full start t ls row' r.end ≡ puts t start row n (soften line (from_item full t (notes (place_at t at) ++ pending_records l) true l.from 0 ls).recs)

-- a text from a line's start on, and room for its records
pub record TextFill (full : Bool) (t row : List ℕ) (start : ℕ) (a : List Level) (depth at above n : ℕ) : Type 0 where
  pub ok : TextOk t a depth at n
  pub up : above ≡ line_at t at
  pub fits : start + length t < places
  pub room : n + length (view full t (state at true 0 (stack a depth))).recs ≤ room row

-- such a text written, and how it ends
pub record Filled (full : Bool) (t row row' : List ℕ) (start : ℕ) (a : List Level) (depth at n : ℕ) (line : Bool) (r : Tally) : Type 0 where
  pub counted : Measured full t a depth at n r
  pub records : row' ≡ puts t start row n (soften line (view full t (state at true 0 (stack a depth))).recs)
