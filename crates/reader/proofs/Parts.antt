-- The small functions: each way is its definition's.
-- Assumes nothing.
use Prim.Native.Nat.{ℕ, zero, suc, ◌+◌, ◌-◌, ◌<◌, ◌≤◌}
use mathlib.Core.Path.{◌≡◌, refl, ◌∙◌, ap}
use mathlib.Core.Bool.{Bool, true, false}
use native.Mathlib.Numerals.{sub-one}
use borrow.Author.Tests.{lt-ltb, le-ltb}
use lib.Dec.{eqb}
use Rattle.choice.specs.Choice.{both}
use Rattle.token.specs.declared.Record.{Record}
use Rattle.token.specs.declared.Ending.{Ending}
use Rattle.token.specs.Kinds as K
use Rattle.token.specs.declared.Token.{Token}
use Rattle.token.specs.Codes.{kind_of, code_of, detail_of}
use Rattle.indentation.specs.Levels.{level}
use Rattle.rounds.specs.declared.Pending.{Pending}
use Rattle.records.specs.Records.{spanned, spanned_of}
use Rattle.soft_keywords.specs.Promises.{or_moved}
use Rattle.reader.specs.declared.Reader.{Reader}
use Rattle.reader.specs.declared.Given.{Given}
use Rattle.reader.specs.Promises.{at_margin, at_end, at_ending, at_error, blanks_of, past_margin, giving, ending, dedent_at, last_given, pends, pending_given}

-- the blanks of a new level
pub blanks_none : (k w : ℕ) → k ≡ 0 → 0 ≡ blanks_of k w
blanks_none k w e = rw e

pub blanks_some : (k w : ℕ) → (k ≡ 0 → ⊥) → w ≡ blanks_of k w
blanks_some zero w h = absurd (h refl)
blanks_some (suc k) w h = refl

pub bare_told : (f b : Bool) → f ≡ true → both f b ≡ b
bare_told f b e = rw e

-- a reader made from another
pub end_told : (at above n : ℕ) (r : Reader) → r ≡ at_margin false at above 0 (level 0 0) true
    → record { at = r.at; above = r.above; nest = r.nest; depth = r.depth; top = r.top; note = r.note; noted = r.noted; indent = r.indent; dedents = n; full = r.full; line = r.line; margin = false; first = r.first; due = true; on = r.on; code = r.code; place = r.place; detail = r.detail } ≡ at_end at above n
end_told at above n r e = ap (λ (x : Reader). pending x) e
  where
    pending : Reader → Reader
    pending r = record { at = r.at; above = r.above; nest = r.nest; depth = r.depth; top = r.top; note = r.note; noted = r.noted; indent = r.indent; dedents = n; full = r.full; line = r.line; margin = false; first = r.first; due = true; on = r.on; code = r.code; place = r.place; detail = r.detail }

pub stop_told : (k p d : ℕ) (r : Reader) → r ≡ at_margin false 0 0 0 (level 0 0) true
    → record { at = r.at; above = r.above; nest = r.nest; depth = r.depth; top = r.top; note = r.note; noted = r.noted; indent = r.indent; dedents = r.dedents; full = r.full; line = r.line; margin = false; first = r.first; due = r.due; on = false; code = k; place = p; detail = d } ≡ at_ending k p d
stop_told k p d r e = ap (λ (x : Reader). over x) e
  where
    over : Reader → Reader
    over r = record { at = r.at; above = r.above; nest = r.nest; depth = r.depth; top = r.top; note = r.note; noted = r.noted; indent = r.indent; dedents = r.dedents; full = r.full; line = r.line; margin = false; first = r.first; due = r.due; on = false; code = k; place = p; detail = d }

pub by_told : (w : Ending) (k p d : ℕ) (r : Reader) → r ≡ at_ending k p d → k ≡ code_of w → d ≡ detail_of w → r ≡ at_error w p
by_told w k p d r e f g = e ∙ rw (f, g)

pub past_told : (c : Reader) (l : Pending) (above indent : ℕ) (line due : Bool) (r : Reader) → r ≡ at_margin c.full l.from above l.depth l.blanks line → indent ≡ blanks_of l.indents (l.blanks.tabs + l.blanks.spaces) → line ≡ or_moved c.line (l.indents + l.dedents) → due ≡ or_moved c.full (l.indents + l.dedents)
    → record { at = r.at; above = r.above; nest = r.nest; depth = r.depth; top = r.top; note = c.at; noted = c.above; indent = indent; dedents = l.dedents; full = r.full; line = r.line; margin = false; first = r.first; due = due; on = r.on; code = r.code; place = r.place; detail = r.detail } ≡ past_margin c l above
past_told c l above indent line due r e f g h = ap (λ (x : Reader). past x) e ∙ rw (f, g, h)
  where
    past : Reader → Reader
    past r = record { at = r.at; above = r.above; nest = r.nest; depth = r.depth; top = r.top; note = c.at; noted = c.above; indent = indent; dedents = l.dedents; full = r.full; line = r.line; margin = false; first = r.first; due = due; on = r.on; code = r.code; place = r.place; detail = r.detail }

-- a record by its kind is the token's whose kind that is
pub given_kind : (start k s e line : ℕ) (t : Token) (n : Reader) (r : Given) → r ≡ giving start (spanned k s e) line n → k ≡ kind_of t → r ≡ giving start (spanned_of t s e) line n
given_kind start k s e line t n r p q = p ∙ ap (λ (x : ℕ). giving start (spanned x s e) line n) q

pub given_told : (b : Bool) (m x : Record) (n : Reader) → m ≡ x → ◌≡◌ {A = Given} (record { more = b; item = m; next = n }) (record { more = b; item = x; next = n })
given_told b m x n e = ap (λ (y : Record). given y) e
  where
    given : Record → Given
    given y = record { more = b; item = y; next = n }

-- the text's end
module _ (start a above : ℕ) (c : Reader) (b : Bool) (q : both c.first (eqb a c.at) ≡ b) (r : Reader) (g : Given) where
  pub last_stop : r ≡ at_ending 0 a 0 → g ≡ ending r → b ≡ true → c.depth ≡ 0 → g ≡ last_given start c a above
  unfolding last_given
  last_stop e f h d = f ∙ ap (λ (x : Reader). ending x) e ∙ rw (q, h, d)

  pub last_dedent : r ≡ at_end a above (c.depth - 1) → g ≡ giving start (spanned K.dedent a a) above r → b ≡ true → (c.depth ≡ 0 → ⊥) → g ≡ last_given start c a above
  unfolding last_given
  last_dedent e f h d = f ∙ ap (λ (x : Reader). giving start (spanned K.dedent a a) above x) e ∙ rw (q, h) (one c.depth d)
    where
      one : (n : ℕ) → (n ≡ 0 → ⊥) → giving start (spanned K.dedent a a) above (at_end a above (n - 1)) ≡ dedent_at start a above n
      one zero h = absurd (h refl)
      one (suc n) h = rw sub-one

  pub last_line : r ≡ at_end a above c.depth → g ≡ giving start (spanned K.newline a a) above r → b ≡ false → g ≡ last_given start c a above
  unfolding last_given
  last_line e f h = f ∙ ap (λ (x : Reader). giving start (spanned K.newline a a) above x) e ∙ rw (q, h)

-- what a line's start gives once its notes are given
module _ (start : ℕ) (c : Reader) (g : Given) where
  pub pend_indent : g ≡ giving start (spanned K.indent (c.at - c.indent) c.at) c.above (pends c 0 c.dedents c.due) → 0 < c.indent → g ≡ pending_given start c
  unfolding pending_given
  pend_indent e h = e ∙ rw (lt-ltb 0 c.indent h)

  pub pend_dedent : g ≡ giving start (spanned K.dedent c.at c.at) c.above (pends c c.indent (c.dedents - 1) c.due) → c.indent ≤ 0 → 0 < c.dedents → g ≡ pending_given start c
  unfolding pending_given
  pend_dedent e h k = e ∙ rw (le-ltb 0 c.indent h, lt-ltb 0 c.dedents k)

  pub pend_none : g ≡ ending (pends c c.indent c.dedents false) → c.indent ≤ 0 → c.dedents ≤ 0 → g ≡ pending_given start c
  unfolding pending_given
  pend_none e h k = e ∙ rw (le-ltb 0 c.indent h, le-ltb 0 c.dedents k)
