-- Document 01 "Rounds", "Line start", "Levels", "Brackets", "End"; Reference 2.1.7 and 2.1.8; the original's `inner_next`: a round takes
-- the blanks of a line's start and one item, and a reading is rounds until one is the last.
use Rattle.std.specs.Prelude.{ℕ, zero, suc, ◌+◌, ◌-◌, List, [], ◌∷◌, ◌++◌, Bool, true, false, length, drop, Result, Ok, Err}
use Rattle.choice.specs.Choice.{choose}
use Rattle.window.specs.Place.{place_at}
use Rattle.token.specs.declared.Token.TheVariants as N
use Rattle.records.specs.Records.{Spanned, spanned, spanned_of}
use Rattle.token.specs.declared.Ending.{Ending}
use Rattle.token.specs.declared.Ending.TheVariants as E
use Rattle.token.specs.Codes.{code_of, detail_of}
use Rattle.indentation.specs.declared.Level.{Level}
use Rattle.indentation.specs.declared.Margin.{Margin}
use Rattle.indentation.specs.declared.LevelChange.{LevelChange}
use Rattle.indentation.specs.declared.LevelChange.TheVariants as S
use Rattle.indentation.specs.Blanks.{blanks}
use Rattle.indentation.specs.Notes.{notes}
use Rattle.indentation.specs.Levels.{level, change_of}
use Rattle.lexer.specs.declared.Step.{Step}
use Rattle.lexer.specs.declared.Step.TheVariants as T
use Rattle.lexer.specs.Steps.{step_at, is_listed}

-- where the reader stands between two rounds: its byte, whether at a line's start, the open brackets, the open levels, innermost first
pub record State : Type 0 where
  pub at : ℕ
  pub at_line_start : Bool
  pub nest : ℕ
  pub levels : List Level

-- a state by its parts
abbrev pub state : ℕ → Bool → ℕ → List Level → State
state a f n ls = record { at = a; at_line_start = f; nest = n; levels = ls }

-- what a round hands out: an error with its place; or records, after which the reading goes on or ends with the text
pub data Outcome : Type 0 where
  error : Ending → ℕ → Outcome
  more : List Spanned → State → Outcome
  end : List Spanned → ℕ → Outcome

-- Reference 2.1.8: so many empty Dedents at a place
unfoldable pub dedents : ℕ → ℕ → List Spanned
dedents zero p = []
dedents (suc n) p = spanned_of N.Dedent p p ∷ dedents n p

-- one item at the byte `at`, after what is pending in its round; `first`: nothing of its line came before it. An error drops what is
-- pending (document 01 "Rounds"). At the text's end, document 01 "End", the
-- original's `consume_normal`: a Newline unless at a line's start, then Dedents
unfoldable pub with_item : List Spanned → Bool → ℕ → ℕ → List Level → Step → Outcome
with_item pend first at nest ls (T.Gap e) = more pend (state e false nest ls)
with_item pend first at nest ls (T.Tok k e n) = more (pend ++ spanned k at e ∷ []) (state e false n ls)
with_item pend first at nest ls (T.Newline e) = more (pend ++ spanned_of N.Newline at e ∷ []) (state e true nest ls)
with_item pend first at nest ls (T.Error w p) = error w p
with_item pend first at nest ls T.End =
    end (pend ++ (choose first (λ _. []) (λ _. spanned_of N.Newline at at ∷ [])) ++ dedents (length ls) at) at

module _ (t : List ℕ) where
  -- the original's `handle_indentations`: a line's start, its blanks counted and compared; the notes of the lines before it
  -- come first. DedentTo d leaves d levels open
  unfoldable pub at_level : List Spanned → ℕ → ℕ → ℕ → ℕ → List Level → Result LevelChange Ending → Outcome
  at_level pre at tabs spaces nest ls (Ok S.Same) = with_item pre true at nest ls (step_at t at nest)
  at_level pre at tabs spaces nest ls (Ok S.Indent) =
      with_item (pre ++ spanned_of N.Indent (at - (tabs + spaces)) at ∷ []) true at nest (level tabs spaces ∷ ls) (step_at t at nest)
  at_level pre at tabs spaces nest ls (Ok (S.DedentTo d)) =
      with_item (pre ++ dedents (length ls - d) at) true at nest (drop (length ls - d) ls) (step_at t at nest)
  at_level pre at tabs spaces nest ls (Err w) = error w at

  -- a line's start, its blanks counted: a tab after a space is an error (code 25)
  unfoldable pub line_start : List Spanned → Result Margin Margin → ℕ → List Level → Outcome
  line_start pre (Err m) nest ls = error E.TabsAfterSpaces m.at
  line_start pre (Ok m) nest ls = at_level pre m.at m.blanks.tabs m.blanks.spaces nest ls (change_of ls m.blanks.tabs m.blanks.spaces)

  -- a round: at a line's start its blanks and one item, elsewhere one item
  unfoldable pub round : State → Outcome
  round s =
      choose s.at_line_start
      (λ _. line_start (notes (place_at t s.at)) (blanks (place_at t s.at)) s.nest s.levels)
      (λ _. with_item [] false s.at s.nest s.levels (step_at t s.at s.nest))

-- a reading: its records, and how it ended
pub record Reading : Type 0 where
  pub recs : List Spanned
  pub code : ℕ
  pub place : ℕ
  pub detail : ℕ

-- a reading by its parts
abbrev pub ended : List Spanned → ℕ → ℕ → ℕ → Reading
ended rs c p d = record { recs = rs; code = c; place = p; detail = d }

-- records, and a reading behind them
unfoldable pub prefixed : List Spanned → Reading → Reading
prefixed rs r = ended (rs ++ r.recs) r.code r.place r.detail

-- what a round hands out, and behind it, where the reading goes on, what `k` reads from the state
unfoldable pub follow : Outcome → (State → Reading) → Reading
follow (error w p) k = ended [] (code_of w) p (detail_of w)
follow (more rs s) k = prefixed rs (k s)
follow (end rs p) k = ended rs 0 p 0

-- the raw reading with so many rounds at most; the case of no round left is never reached (proofs/Fuel)
unfoldable pub raw_rounds : List ℕ → ℕ → State → Reading
raw_rounds t zero s = ended [] 0 0 0
raw_rounds t (suc k) s = follow (round t s) (raw_rounds t k)

-- the raw reading from a state: a round takes a byte or is the last, so this many are enough (proofs/Fuel)
unfoldable pub raw_reading : List ℕ → State → Reading
raw_reading t s = raw_rounds t (suc (length t - s.at)) s

-- where the last of some records ends, or the byte before them where there are none
unfoldable pub last_end : ℕ → List Spanned → ℕ
last_end from [] = from
last_end from (r ∷ rs) = last_end r.end rs

-- ---- the reading with its notes or without (document 02 item 1)
-- the records that are listed
unfoldable pub listed_records : Bool → List Spanned → List Spanned
listed_records full [] = []
listed_records full (r ∷ rs) = choose (is_listed full r.kind) (λ _. r ∷ listed_records full rs) (λ _. listed_records full rs)

-- a reading with its records that are listed
unfoldable pub listed_reading : Bool → Reading → Reading
listed_reading full r = ended (listed_records full r.recs) r.code r.place r.detail

-- the reading from a state, with its notes or without
unfoldable pub view : Bool → List ℕ → State → Reading
view full t s = listed_reading full (raw_reading t s)
