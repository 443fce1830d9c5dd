-- What a step tells that makes a reading neat. No token has a kind above that of `type`. A comment runs up to a newline or the text's end, so outside
-- brackets the step behind one ends the line or the text; and no other token is a note there, since a newline ends its line.
-- Assumes nothing.
use Prim.Native.Nat.{ℕ, ◌+◌, ◌≤◌}
use Prim.Native.Char.{code}
use mathlib.Core.Path.{◌≡◌, refl, sym, subst}
use mathlib.Core.List.{List, [], ◌∷◌}
use mathlib.Core.Bool.{true}
use mathlib.Core.Logic.{◌⊎◌, inl, inr, ⊎_elim}
use native.Mathlib.Omega.{arith}
use borrow.Author.Tests.{eqb-false}
use lib.Dec.{eqb}
use lib.ListN.{length}
use Rattle.names.proofs.Laws.{breaks}
use Rattle.choice.proofs.Laws.{choose_keeps, true_is_not_false}
use Rattle.utf8.specs.Chars.{width}
use Rattle.window.specs.Place.{Place, place_at, nth, slid, next_char}
use Rattle.window.proofs.Within.{Within, within_at, within_is, within_on}
use Rattle.classes.specs.Classes.{is_emoji}
use Rattle.classes.specs.Promises.{is_ascii_start}
use Rattle.classes.proofs.Laws.{ascii_start}
use Rattle.token.specs.declared.Token.{Token}
use Rattle.token.specs.declared.Token.TheVariants as N
use Rattle.token.specs.declared.Item.{Item}
use Rattle.token.specs.declared.Item.TheVariants as I
use Rattle.token.specs.Codes.{kind_of}
use Rattle.names.specs.Runs.{skip_from, skip_while, is_newline, not_newline, is_blank}
use Rattle.strings.specs.Strings.{is_quote, lower}
use Rattle.numbers.specs.Numbers.{digit_value, is_digit}
use Rattle.operators.specs.Operators.{longest_operator, single}
use Rattle.lexer.specs.declared.Step.{Step}
use Rattle.lexer.specs.declared.Step.TheVariants as T
use Rattle.lexer.specs.Items.{starts_number, joined_line, continuation, other_at, operator_at, normal_at, open_at, item_at}
use Rattle.token.specs.Brackets.{is_opener, is_closer}
use Rattle.lexer.specs.Steps.{is_note, token_step, step_of, step_at}
use Rattle.lexer.proofs.Firsts.{Plain, plain_opens}
use Rattle.lexer.proofs.KindsOf.{Proper, Kind, numbered, item_by}
use Rattle.rounds.proofs.Listed.{note_kinds}
use Rattle.token.specs.Kinds as K
use Rattle.utf8.specs.Chars.{no_char}

-- ---- where a comment ends
-- at a newline, or past the last character
abbrev Breaks : ℕ → Type 0
Breaks c = (c ≡ code "\n") ⊎ ((c ≡ code "\r") ⊎ (c ≡ no_char))

-- a run of characters in a line ends at a place of the text, before one that is not
run_ends : (t : List ℕ) (at : ℕ) (l : List ℕ) → Within t (record { at = at; rest = l }) → Within t (skip_from not_newline at l) × Breaks (nth (skip_from not_newline at l) 0)
unfolding skip_from
run_ends t at [] w = (w, inr (inr refl))
run_ends t at (c ∷ r) w =
    choose_keeps (λ (p : Place). Within t p × Breaks (nth p 0)) (not_newline c)
    (λ _. run_ends t (at + width c) r (within_on t at c r w).0) (λ e. (w, ⊎_elim (λ z. inl z) (λ z. inr (inl z)) (breaks c e)))

-- ---- the step there, outside brackets
-- a step that ends a line, or the text
abbrev pub Closes : Step → Type 0
Closes (T.Gap e) = ⊥
Closes (T.Tok k e n) = ⊥
Closes (T.Newline e) = Unit {0}
Closes (T.Error w p) = ⊥
Closes T.End = Unit {0}

module _ (p : Place) where
  -- LF and CR start no name and open no string, so they are newlines; past the last character the text ends
  lf_item : nth p 0 ≡ code "\n" → item_at p ≡ I.Tok N.Newline (next_char p).at
  unfolding item_at open_at normal_at operator_at longest_operator single other_at is_blank is_newline is_digit digit_value starts_number is_quote lower is_ascii_start
  lf_item c =
      let l : Plain (code "\n") = record { quote = refl; other = λ e. omega arith; other_f = λ e. omega arith; other_r = λ e. omega arith; other_u = λ e. omega arith } in
      rw (c, plain_opens (code "\n") (nth p 1) (nth p 2) l, c, ascii_start (code "\n") (omega arith), c)

  cr_item : nth p 0 ≡ code "\r" → item_at p ≡ I.Tok N.Newline (next_char p).at
  unfolding item_at open_at normal_at operator_at longest_operator single other_at is_blank is_newline is_digit digit_value starts_number is_quote lower is_ascii_start
  cr_item c =
      let l : Plain (code "\r") = record { quote = refl; other = λ e. omega arith; other_f = λ e. omega arith; other_r = λ e. omega arith; other_u = λ e. omega arith } in
      rw (c, plain_opens (code "\r") (nth p 1) (nth p 2) l, c, ascii_start (code "\r") (omega arith), c)

  last_item : nth p 0 ≡ no_char → item_at p ≡ I.End
  unfolding item_at
  last_item c = rw c

  -- in each case a line ends, or the text
  item_closes : (at : ℕ) → Breaks (nth p 0) → Closes (step_of at 0 (item_at p))
  unfolding step_of token_step
  item_closes at (inl c) = rw (lf_item c) tt
  item_closes at (inr (inl c)) = rw (cr_item c) tt
  item_closes at (inr (inr c)) = rw (last_item c) tt

-- ---- items
-- a token's kind is at most that of `type`; behind a note a line ends outside brackets, or the text
abbrev NoteLast : List ℕ → Item → Type 0
NoteLast t (I.Tok k e) = (kind_of k ≤ K.type) × (is_note (kind_of k) ≡ true → Closes (step_at t e 0))
NoteLast t (I.Gap e) = Unit {0}
NoteLast t I.End = Unit {0}
NoteLast t (I.Error w e) = Unit {0}

-- names, strings, numbers and operators are no notes
no_note : (k : Token) → Proper k → is_note (kind_of k) ≡ true → ⊥
no_note k p h = let a = (numbered k p).apart in ⊎_elim a.0 a.1 (note_kinds (kind_of k) h)

kind_note_last : (t : List ℕ) (i : Item) → Kind i → NoteLast t i
kind_note_last t (I.Tok k e) p = (omega (arith, (numbered k p).low), λ h. absurd (no_note k p h))
kind_note_last t (I.Gap e) p = tt
kind_note_last t I.End p = tt
kind_note_last t (I.Error w e) p = tt

module _ (t : List ℕ) (at : ℕ) (h : at ≤ length t) where
  abbrev here : Place
  here = place_at t at

  -- behind a comment
  comment_closes : Closes (step_at t (skip_while not_newline here).at 0)
  unfolding step_at skip_while
  comment_closes =
      let q = skip_from not_newline at here.rest in
      let e = run_ends t at here.rest (within_at t at h) in
      subst (λ (p : Place). Closes (step_of q.at 0 (item_at p))) (sym (within_is t q e.0)) (item_closes q q.at e.1)

  -- each way through an item
  joined_note_last : (p : Place) → NoteLast t (joined_line p)
  unfolding joined_line
  joined_note_last p = choose_keeps (NoteLast t) (eqb (nth p 0) no_char) (λ _. tt) (λ _. tt)

  other_note_last : NoteLast t (other_at here)
  unfolding other_at continuation is_note
  other_note_last =
      let Q = NoteLast t in
      choose_keeps Q (eqb (nth here 0) (code "#")) (λ _. (omega arith, λ _. comment_closes))
      (λ _. choose_keeps Q (is_newline (nth here 0)) (λ _. (omega arith, λ z. absurd (true_is_not_false (sym z))))
      (λ _. choose_keeps Q (eqb (nth here 0) (code "\\")) (λ _. choose_keeps Q (is_newline (nth here 1)) (λ _. joined_note_last (next_char (slid here))) (λ _. tt))
      (λ _. choose_keeps Q (eqb (nth here 0) (code "!")) (λ _. tt)
      (λ _. choose_keeps Q (is_emoji (nth here 0)) (λ _. (omega arith, λ z. absurd (true_is_not_false (sym z)))) (λ _. tt)))))

  item_note_last : NoteLast t (item_at here)
  item_note_last = item_by (NoteLast t) here tt tt (kind_note_last t) other_note_last

-- ---- steps
-- the same of a token's kind; of a note where no bracket is open
abbrev pub StepNoteLast : List ℕ → ℕ → Step → Type 0
StepNoteLast t nest (T.Gap e) = Unit {0}
StepNoteLast t nest (T.Tok k e n) = (k ≤ K.type) × (nest ≡ 0 → is_note k ≡ true → Closes (step_at t e 0))
StepNoteLast t nest (T.Newline e) = Unit {0}
StepNoteLast t nest (T.Error w p) = Unit {0}
StepNoteLast t nest T.End = Unit {0}

token_note_last : (t : List ℕ) (nest k e : ℕ) → k ≤ K.type → (is_note k ≡ true → Closes (step_at t e 0)) → StepNoteLast t nest (token_step nest k e)
unfolding token_step
token_note_last t nest k e m f =
    let Q = StepNoteLast t nest in
    choose_keeps Q (eqb k 0) (λ _. choose_keeps Q (eqb nest 0) (λ _. tt) (λ z. (omega arith, λ y. absurd (eqb-false nest 0 z y))))
    (λ _. choose_keeps Q (is_opener k) (λ _. (m, λ _. f))
    (λ _. choose_keeps Q (is_closer k) (λ _. choose_keeps Q (eqb nest 0) (λ _. tt) (λ _. (m, λ _. f))) (λ _. (m, λ _. f))))

-- THE LAW: a token's kind is at most that of `type`, and behind a note outside brackets a line ends, or the text
pub step_note_last : (t : List ℕ) (at nest : ℕ) → at ≤ length t → StepNoteLast t nest (step_at t at nest)
unfolding step_at step_of
step_note_last t at nest h = go (item_at (place_at t at)) (item_note_last t at h)
  where
    go : (i : Item) → NoteLast t i → StepNoteLast t nest (step_of at nest i)
    go (I.Tok k e) f = token_note_last t nest (kind_of k) e f.0 f.1
    go (I.Gap e) f = tt
    go I.End f = choose_keeps (StepNoteLast t nest) (eqb nest 0) (λ _. tt) (λ _. tt)
    go (I.Error w e) f = tt
