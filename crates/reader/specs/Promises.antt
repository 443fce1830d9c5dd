-- What a reader by value promises: the reading that is left, its records one by one and its ending.
use Rattle.std.specs.Prelude.{ℕ, zero, suc, ◌+◌, ◌-◌, ◌*◌, ◌<◌, ◌≤◌, ◌≡◌, List, [], ◌∷◌, ◌++◌, Bool, true, false, ◌⊎◌, eqb, ltb, length}
use Rattle.choice.specs.Choice.{choose, both}
use Rattle.window.specs.Place.{place_at}
use Rattle.lines.specs.Lines.{line_at}
use Rattle.token.specs.declared.Token.TheVariants as N
use Rattle.token.specs.declared.Ending.{Ending}
use Rattle.token.specs.Codes.{code_of, detail_of}
use Rattle.indentation.specs.declared.Level.{Level}
use Rattle.indentation.specs.Levels.{most_levels, level, top_of}
use Rattle.indentation.specs.Promises.{stack}
use Rattle.indentation.specs.Notes.{notes}
use Rattle.lexer.specs.declared.Step.{Step}
use Rattle.lexer.specs.declared.Step.TheVariants as T
use Rattle.lexer.specs.Steps.{step_at}
use Rattle.rounds.specs.declared.Pending.{Pending}
use Rattle.rounds.specs.Rounds.{state, dedents, Reading, ended, prefixed, view}
use Rattle.records.specs.Records.{Spanned, spanned_of, rec, record_in}
use Rattle.records.specs.Promises.{blank}
use Rattle.rounds.specs.Promises.{opt, pushed, Inside, from_item}
use Rattle.records.specs.Limits.{most_bytes, places}
use Rattle.soft_keywords.specs.SoftKeywords.{soften}
use Rattle.soft_keywords.specs.Promises.{or_moved}
use Rattle.reader.specs.declared.Reader.{Reader}
use Rattle.reader.specs.declared.Given.{Given}

-- ---- readers
-- at a line's start
abbrev pub at_margin : (full : Bool) (at above depth : ℕ) (top : Level) (line : Bool) → Reader
at_margin full at above depth top line = record { at = at; above = above; nest = 0; depth = depth; top = top; note = 0; noted = 0; indent = 0; dedents = 0; full = full; line = line; margin = true; first = true; due = false; on = true; code = 0; place = 0; detail = 0 }

-- at the text's end, with so many Dedents left
abbrev pub at_end : (at above n : ℕ) → Reader
at_end at above n = record { at = at; above = above; nest = 0; depth = 0; top = level 0 0; note = 0; noted = 0; indent = 0; dedents = n; full = false; line = true; margin = false; first = true; due = true; on = true; code = 0; place = 0; detail = 0 }

-- ended
abbrev pub at_ending : (code place detail : ℕ) → Reader
at_ending code place detail = record { at = 0; above = 0; nest = 0; depth = 0; top = level 0 0; note = 0; noted = 0; indent = 0; dedents = 0; full = false; line = true; margin = false; first = true; due = false; on = false; code = code; place = place; detail = detail }

-- ended with an error
abbrev pub at_error : Ending → ℕ → Reader
at_error w p = at_ending (code_of w) p (detail_of w)

-- the blanks of a new level, or none
abbrev pub blanks_of : ℕ → ℕ → ℕ
blanks_of zero w = 0
blanks_of (suc n) w = w

-- past a line's start, which may have something to give: its notes, or so many Indents and Dedents
abbrev pub past_margin : Reader → Pending → (above : ℕ) → Reader
past_margin c l above = record { at = l.from; above = above; nest = 0; depth = l.depth; top = l.blanks; note = c.at; noted = c.above; indent = blanks_of l.indents (l.blanks.tabs + l.blanks.spaces); dedents = l.dedents; full = c.full; line = or_moved c.line (l.indents + l.dedents); margin = false; first = true; due = or_moved c.full (l.indents + l.dedents); on = true; code = 0; place = 0; detail = 0 }

-- within a line
abbrev pub within : Reader → (at above nest : ℕ) (line : Bool) → Reader
within c at above nest line = record { at = at; above = above; nest = nest; depth = c.depth; top = c.top; note = c.note; noted = c.noted; indent = c.indent; dedents = c.dedents; full = c.full; line = line; margin = c.margin; first = false; due = false; on = c.on; code = c.code; place = c.place; detail = c.detail }

-- ---- what is left
-- a reading after the second pass
abbrev pub softened : Bool → Reading → Reading
softened line r = ended (soften line r.recs) r.code r.place r.detail

-- of the notes of the line's start
abbrev pub notes_left : List ℕ → Reader → List Spanned
notes_left t c = choose c.full (λ _. notes (place_at t c.note)) (λ _. [])

-- of the line's start: notes, an Indent, Dedents
abbrev pub due_left : List ℕ → Reader → List Spanned
due_left t c = choose c.due (λ _. notes_left t c ++ opt c.indent (spanned_of N.Indent (c.at - c.indent) c.at) ++ dedents c.dedents c.at) (λ _. [])

-- of the text, from the reader's place on, where the first places of `a` are the open levels
abbrev pub items_left : List ℕ → List Level → Reader → Reading
items_left t a c = softened c.line (from_item c.full t [] c.first c.at c.nest (stack a c.depth))

-- of the reading: every record that a reader has still to give, and its ending
unfoldable pub left : List ℕ → List Level → Reader → Reading
left t a c =
    choose c.on
    (λ _. choose c.margin (λ _. softened c.line (view c.full t (state c.at true 0 (stack a c.depth))))
    (λ _. prefixed (due_left t c) (items_left t a c)))
    (λ _. ended [] c.code c.place c.detail)

-- how far a reader is from its ending, where no record is left
unfoldable pub busy : Reader → ℕ
busy c = choose c.on (λ _. choose c.margin (λ _. 3) (λ _. choose c.due (λ _. 2) (λ _. 1))) (λ _. 0)

-- ---- what the steps ask and say
-- a line's start, with numbers that fit
pub record PendingOk (l : Pending) : Type 0 where
  pub few : l.indents + l.dedents ≤ 2 * most_levels + 1
  pub wide : l.blanks.tabs + l.blanks.spaces ≤ most_bytes

-- a reader within its text, with the lines of its places; an Indent that is due is in one line
pub record Sound (t : List ℕ) (c : Reader) : Type 0 where
  pub inside : Inside t c.at c.nest
  pub wide : c.indent ≤ c.at
  pub open' : c.depth ≤ most_levels
  pub small : length t ≤ most_bytes
  pub flat : c.line ≡ true → c.nest ≡ 0
  pub aside : c.note ≤ length t
  pub to : c.place ≤ length t
  pub above : c.above ≡ line_at t c.at
  pub noted : c.noted ≡ line_at t c.note
  pub blanks : c.due ≡ true → line_at t (c.at - c.indent) ≡ line_at t c.at

-- the innermost level at hand
abbrev pub Topped : List Level → Reader → Type 0
Topped a c = c.on ≡ true → c.top ≡ top_of (stack a c.depth)

-- the levels, once what a line's start opens is stored
abbrev pub levels_of : List Level → Reader → List Level
levels_of a o = pushed o.indent o.depth o.top a

-- a step that is no ending
abbrev pub Free : Step → Type 0
Free (T.Gap e) = Unit {0}
Free (T.Tok k e n) = Unit {0}
Free (T.Newline e) = Unit {0}
Free (T.Error w p) = ⊥
Free T.End = Unit {0}

-- a reader that stays, and one that ends, by a line's first item
pub record Stays (t : List ℕ) (c r : Reader) : Type 0 where
  pub free : Free (step_at t c.at 0)
  pub is : r ≡ c

pub record Stops (t : List ℕ) (c r : Reader) : Type 0 where
  pub why : Ending
  pub where' : ℕ
  pub step : step_at t c.at 0 ≡ T.Error why where'
  pub is : r ≡ at_error why where'

-- a line's first item is no ending, or the reader is stopped by it
abbrev pub Kept : List ℕ → Reader → Reader → Type 0
Kept t c r = Stays t c r ⊎ Stops t c r

-- at a line's start
pub record OpenReady (t : List ℕ) (a : List Level) (c : Reader) : Type 0 where
  pub sound : Sound t c
  pub all : length a ≡ most_levels
  pub on : c.on ≡ true
  pub begins : c.margin ≡ true
  pub top : Topped a c

-- it is read: as much is left, once the level that it opens is stored
pub record Opens (t : List ℕ) (a : List Level) (c o : Reader) : Type 0 where
  pub sound : Sound t o
  pub begun : o.margin ≡ false
  pub less : busy o < busy c
  pub slot : 0 < o.indent → 0 < o.depth
  pub top : Topped (levels_of a o) o
  pub same : left t (levels_of a o) o ≡ left t a c

-- a level to store
pub record StoreOk (a : List Level) (c : Reader) : Type 0 where
  pub some : 0 < c.depth
  pub few : c.depth ≤ most_levels
  pub all : length a ≡ most_levels

-- past a line's start
pub record Ready (t : List ℕ) (start : ℕ) (c : Reader) : Type 0 where
  pub sound : Sound t c
  pub fits : start + length t < places
  pub begun : c.margin ≡ false

-- where something of the line's start may be left, and where nothing is
pub record DueReady (t : List ℕ) (start : ℕ) (c : Reader) : Type 0 where
  pub ready : Ready t start c
  pub on : c.on ≡ true
  pub due : c.due ≡ true

pub record ItemReady (t : List ℕ) (start : ℕ) (c : Reader) : Type 0 where
  pub ready : Ready t start c
  pub on : c.on ≡ true
  pub none : c.due ≡ false

-- an Indent or a Dedent to give
pub record PendReady (start : ℕ) (c : Reader) : Type 0 where
  pub wide : c.indent ≤ c.at
  pub fits : start + c.at < places
  pub above : c.above < places

-- a record with the start added, and its line
abbrev pub giving : ℕ → Spanned → (line : ℕ) → Reader → Given
giving start x line next = record { more = true; item = rec x.kind (start + x.start) (start + x.end) line; next = next }

-- no record
abbrev pub ending : Reader → Given
ending next = record { more = false; item = blank; next = next }

-- what is given at the text's end: a Newline within a line; else a Dedent for each open level, and then no more
abbrev pub dedent_at : (start a above n : ℕ) → Given
dedent_at start a above zero = ending (at_ending 0 a 0)
dedent_at start a above (suc n) = giving start (spanned_of N.Dedent a a) above (at_end a above n)

unfoldable pub last_given : ℕ → Reader → (a above : ℕ) → Given
last_given start c a above = choose (both c.first (eqb a c.at)) (λ _. dedent_at start a above c.depth) (λ _. giving start (spanned_of N.Newline a a) above (at_end a above c.depth))

-- the reader with so much of the line's start left
abbrev pub pends : Reader → (indent dedents : ℕ) (due : Bool) → Reader
pends c indent n due = record { at = c.at; above = c.above; nest = c.nest; depth = c.depth; top = c.top; note = c.note; noted = c.noted; indent = indent; dedents = n; full = c.full; line = c.line; margin = c.margin; first = c.first; due = due; on = c.on; code = c.code; place = c.place; detail = c.detail }

-- what is given of a line's start once its notes are: an Indent, then Dedents, then no more
unfoldable pub pending_given : ℕ → Reader → Given
pending_given start c =
    choose (ltb 0 c.indent) (λ _. giving start (spanned_of N.Indent (c.at - c.indent) c.at) c.above (pends c 0 c.dedents c.due))
    (λ _. choose (ltb 0 c.dedents) (λ _. giving start (spanned_of N.Dedent c.at c.at) c.above (pends c c.indent (c.dedents - 1) c.due))
    (λ _. ending (pends c c.indent c.dedents false)))

-- a record, or none
abbrev pub some : Bool → Spanned → List Spanned
some true r = r ∷ []
some false r = []

-- a record is given, or none at once: what was left is what it is the record of, and what is left then
pub record Takes (t : List ℕ) (start : ℕ) (c : Reader) (g : Given) : Type 0 where
  pub sound : Sound t g.next
  pub top : (a : List Level) → Topped a c → Topped a g.next
  pub raw : Spanned
  pub item : g.more ≡ true → g.item ≡ record_in t start raw
  pub same : (a : List Level) → left t a c ≡ prefixed (some g.more raw) (left t a g.next)
  pub less : g.more ≡ false → busy g.next ≤ busy c - 1
