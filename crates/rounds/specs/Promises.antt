-- What a line's start and the next token of a line promise, as the code has them.
use Rattle.std.specs.Prelude.{ℕ, zero, suc, ◌+◌, ◌-◌, ◌≤◌, ◌<◌, ◌≡◌, List, [], ◌∷◌, ◌++◌, true, Bool, false, length, set, eqb, Result, Ok, Err}
use Rattle.token.specs.declared.Token.TheVariants as N
use Rattle.indentation.specs.declared.Level.{Level}
use Rattle.indentation.specs.Levels.{top_of, most_levels}
use Rattle.indentation.specs.Promises.{stack}
use Rattle.indentation.specs.Notes.{notes}
use Rattle.lines.specs.Lines.{line_at}
use Rattle.lines.specs.Promises.{Ends}
use Rattle.window.specs.Place.{place_at}
use Rattle.lexer.specs.Steps.{step_at, is_note}
use Rattle.rounds.specs.declared.Pending.{Pending}
use Rattle.rounds.specs.Rounds.{error, state, dedents, with_item, round, Reading, ended, prefixed, follow, raw_reading, listed_reading, view}
use Rattle.records.specs.Records.{Spanned, spanned, spanned_of}
use Rattle.token.specs.Kinds as K
use Rattle.choice.specs.Choice.{choose, both}
use Rattle.token.specs.declared.Ending.{Ending}
use Rattle.token.specs.Codes.{code_of, detail_of}
use Rattle.lexer.specs.declared.Step.TheVariants as T
use Rattle.rounds.specs.declared.NextToken.{NextToken}
use Rattle.rounds.specs.declared.Found.{Found}
use Rattle.rounds.specs.declared.NextToken.TheVariants.{Tok, Newline, End, Error}

-- one record, or none
abbrev pub opt : ℕ → Spanned → List Spanned
opt zero r = []
opt (suc n) r = r ∷ []

-- what is pending after a line's start: an Indent or Dedents
abbrev pub pending_records : Pending → List Spanned
pending_records l = opt l.indents (spanned_of N.Indent (l.from - (l.blanks.tabs + l.blanks.spaces)) l.from) ++ dedents l.dedents l.from

-- the places of the levels with a new level stored
abbrev pub pushed : ℕ → ℕ → Level → List Level → List Level
pushed zero depth v a = a
pushed (suc n) depth v a = set a (depth - 1) v

-- the levels after a line's start
abbrev pub levels_after : Pending → List Level → List Level
levels_after l a = stack (pushed l.indents l.depth l.blanks a) l.depth

-- the bounds of a line's start with so many notes in a text of so many bytes
pub record PendingFits (at few len open' : ℕ) (l : Pending) : Type 0 where
  pub from : few + at + (l.blanks.tabs + l.blanks.spaces) ≤ l.from
  pub to : l.from ≤ len
  pub indents : l.indents ≤ 1
  pub depth : l.depth ≤ most_levels
  pub slot : l.indents ≤ l.depth
  pub even : l.depth + l.dedents ≡ open' + l.indents
  pub wide : l.indents ≤ l.blanks.tabs + l.blanks.spaces

-- a line's start, as it leaves its round before the first item; or the error that it is
abbrev pub Started : List ℕ → List Level → ℕ → ℕ → Result Pending (Ending × ℕ) → Type 0
Started t a depth at (Ok l) =
    PendingFits at (length (notes (place_at t at))) (length t) depth l × (round t (state at true 0 (stack a depth)) ≡ with_item (notes (place_at t at) ++ pending_records l) true l.from 0 (levels_after l a) (step_at t l.from 0))
Started t a depth at (Err e) = (e.1 ≤ length t) × (round t (state at true 0 (stack a depth)) ≡ error e.0 e.1)

-- what a reader needs to be at a line's start
pub record AtLine (t : List ℕ) (a : List Level) (depth at : ℕ) : Type 0 where
  pub within : at ≤ length t
  pub few : depth ≤ most_levels
  pub levels : length a ≡ most_levels

-- the innermost level beside the places of the levels
pub record Below (t : List ℕ) (a : List Level) (inner : Level) (depth at : ℕ) : Type 0 where
  pub line : AtLine t a depth at
  pub top : inner ≡ top_of (stack a depth)

-- after a line's start it is the line's blanks
abbrev pub TopAfter : List Level → Result Pending (Ending × ℕ) → Type 0
TopAfter a (Ok l) = l.blanks ≡ top_of (levels_after l a)
TopAfter a (Err e) = Unit {0}

-- and the blanks are all in the line of the first item
abbrev pub BlanksInLine : List ℕ → Result Pending (Ending × ℕ) → Type 0
BlanksInLine t (Ok l) = line_at t (l.from - (l.blanks.tabs + l.blanks.spaces)) ≡ line_at t l.from
BlanksInLine t (Err e) = Unit {0}

-- a line's start, the innermost level after it, and its blanks
pub record StartedBelow (t : List ℕ) (a : List Level) (depth at : ℕ) (r : Result Pending (Ending × ℕ)) : Type 0 where
  pub start : Started t a depth at r
  pub top : TopAfter a r
  pub line : BlanksInLine t r

-- a place within a text, with no more brackets open than bytes before it
pub record Inside (t : List ℕ) (at nest : ℕ) : Type 0 where
  pub nests : nest ≤ at
  pub to : at ≤ length t

-- the reading from an item on, with what is pending before it; `first` if nothing of its line stands before
abbrev pub from_item : Bool → List ℕ → List Spanned → Bool → ℕ → ℕ → List Level → Reading
from_item full t pend first at nest ls = listed_reading full (follow (with_item pend first at nest ls (step_at t at nest)) (raw_reading t))

-- the same from what comes next, looked for from the byte `at` on: at the text's end a Newline is due, but not at a line's start
abbrev pub from_next : Bool → List ℕ → Bool → ℕ → List Level → NextToken → Reading
from_next full t first at ls (Tok k a e m) = prefixed (spanned k a e ∷ []) (view full t (state e false m ls))
from_next full t first at ls (Newline a e) = prefixed (spanned_of N.Newline a e ∷ []) (view full t (state e true 0 ls))
from_next full t first at ls (End a) = ended (choose (both first (eqb a at)) (λ _. []) (λ _. spanned_of N.Newline a a ∷ []) ++ dedents (length ls) a) 0 a 0
from_next full t first at ls (Error w p) = ended [] (code_of w) p (detail_of w)

-- it lies within the text; a soft keyword and a note leave the brackets as they are
abbrev pub Reaches : List ℕ → ℕ → ℕ → NextToken → Type 0
Reaches t at nest (Tok k a e m) = (at ≤ a) × (a < e) × (e ≤ length t) × (m ≤ e) × (K.dedent < k) × (K.first_soft ≤ k → m ≡ nest) × (is_note k ≡ true → m ≡ nest)
Reaches t at nest (Newline a e) = (at ≤ a) × (a < e) × (e ≤ length t)
Reaches t at nest (End a) = (a ≤ length t) × (step_at t a 0 ≡ T.End)
Reaches t at nest (Error w p) = p ≤ length t

-- the reading goes on with what comes next
pub record NextTokenFrom (full : Bool) (t : List ℕ) (at nest : ℕ) (r : NextToken) : Type 0 where
  pub same : (first : Bool) (ls : List Level) → from_item full t [] first at nest ls ≡ from_next full t first at ls r
  pub reaches : Reaches t at nest r

-- the line ends before what comes next, and those in it
abbrev pub LineEndsOf : List ℕ → ℕ → NextToken → ℕ → ℕ → Type 0
LineEndsOf t at (Tok k a e m) before within = Ends t at a before × Ends t a e within
LineEndsOf t at (Newline a e) before within = Ends t at a before × Ends t a e within
LineEndsOf t at (End a) before within = Ends t at a before
LineEndsOf t at (Error w p) before within = Unit {0}

-- what comes next, with its line ends
pub record FoundFrom (full : Bool) (t : List ℕ) (at nest : ℕ) (r : Found) : Type 0 where
  pub next : NextTokenFrom full t at nest r.token
  pub lines : LineEndsOf t at r.token r.before r.within
