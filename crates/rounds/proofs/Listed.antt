-- Records with their notes or without.
-- Assumes nothing.
use Prim.Native.Nat.{ℕ, zero, suc, ◌+◌, ◌-◌, ◌≤◌}
use Prim.Native.Char.{code}
use mathlib.Core.Path.{◌≡◌, refl, sym, ◌∙◌, ap}
use mathlib.Core.List.{List, [], ◌∷◌, ◌++◌}
use mathlib.Core.Bool.{Bool, true, false}
use mathlib.Core.Logic.{◌⊎◌, inl, inr}
use native.Mathlib.Omega.{arith}
use borrow.Author.Tests.{eqb-true, ne_eqb}
use lib.Dec.{eqb}
use lib.ListN.{length}
use Rattle.choice.specs.Choice.{choose}
use Rattle.choice.proofs.Laws.{choose_keeps}
use Rattle.utf8.specs.Chars.{width}
use Rattle.window.specs.Place.{Place}
use Rattle.names.specs.Runs.{not_newline}
use Rattle.indentation.specs.Notes.{is_cr_lf, newline_note, notes_from, notes}
use Rattle.lexer.specs.Steps.{is_note, is_listed}
use Rattle.rounds.specs.declared.Pending.{Pending}
use Rattle.rounds.specs.Promises.{opt, pending_records}
use Rattle.rounds.specs.Rounds.{dedents, Reading, ended, prefixed, listed_records, listed_reading}
use Rattle.records.specs.Records.{Spanned, spanned}
use Rattle.token.specs.Kinds as K

-- a record whose kind is listed stays, and another does not
module _ (full : Bool) (r : Spanned) (rs : List Spanned) where
  pub listed_yes : is_listed full r.kind ≡ true → listed_records full (r ∷ rs) ≡ r ∷ listed_records full rs
  unfolding listed_records
  listed_yes h = rw h

  pub listed_no : is_listed full r.kind ≡ false → listed_records full (r ∷ rs) ≡ listed_records full rs
  unfolding listed_records
  listed_no h = rw h

pub listed_nil : (full : Bool) → listed_records full [] ≡ []
unfolding listed_records
listed_nil full = refl

pub listed_append : (full : Bool) (x y : List Spanned) → listed_records full (x ++ y) ≡ listed_records full x ++ listed_records full y
unfolding listed_records
listed_append full [] y = refl
listed_append full (r ∷ x) y = go (is_listed full r.kind) (listed_append full x y)
  where
    go : (b : Bool) → listed_records full (x ++ y) ≡ listed_records full x ++ listed_records full y
        → choose b (λ _. r ∷ listed_records full (x ++ y)) (λ _. listed_records full (x ++ y)) ≡ choose b (λ _. r ∷ listed_records full x) (λ _. listed_records full x) ++ listed_records full y
    go true e = ap (λ (l : List Spanned). r ∷ l) e
    go false e = e

pub listed_reading_prefixed : (full : Bool) (rs : List Spanned) (r : Reading) → listed_reading full (prefixed rs r) ≡ prefixed (listed_records full rs) (listed_reading full r)
unfolding listed_reading prefixed
listed_reading_prefixed full rs r = rw listed_append

pub listed_reading_none : (full : Bool) (c p d : ℕ) → listed_reading full (ended [] c p d) ≡ ended [] c p d
unfolding listed_reading listed_records
listed_reading_none full c p d = refl

pub listed_one : (full : Bool) (k s e : ℕ) → is_listed full k ≡ true → listed_records full (spanned k s e ∷ []) ≡ spanned k s e ∷ []
listed_one full k s e h = listed_yes full (spanned k s e) [] h ∙ ap (λ (l : List Spanned). spanned k s e ∷ l) (listed_nil full)

pub listed_none : (full : Bool) (k s e : ℕ) → is_listed full k ≡ false → listed_records full (spanned k s e ∷ []) ≡ []
listed_none full k s e h = listed_no full (spanned k s e) [] h ∙ listed_nil full

-- a note is a comment (7) or a newline that ends no logical line (8)
pub note_kinds : (k : ℕ) → is_note k ≡ true → (k ≡ 7) ⊎ (k ≡ 8)
unfolding is_note
note_kinds k = choose_keeps (λ (b : Bool). b ≡ true → (k ≡ 7) ⊎ (k ≡ 8)) (eqb k 7) (λ e _. inl (eqb-true k 7 e)) (λ _ e. inr (eqb-true k 8 e))

-- what is not listed is a note
pub unlisted : (full : Bool) (k : ℕ) → is_listed full k ≡ false → is_note k ≡ true
unfolding is_listed
unlisted full k = go (is_note k)
  where
    go : (b : Bool) → choose b (λ _. full) (λ _. true) ≡ false → b ≡ true
    go true h = refl
    go false h = sym h

-- Newline, Indent and Dedent, and what a glance shows, are listed
pub listed_other : (full : Bool) (k : ℕ) → is_note k ≡ false → is_listed full k ≡ true
unfolding is_listed
listed_other full k h = rw h

low : (k : ℕ) → k ≤ K.dedent → is_note k ≡ false
unfolding is_note
low k h = rw (ne_eqb k K.comment (λ e. omega arith), ne_eqb k K.non_logical_newline (λ e. omega arith))

pub listed_low : (full : Bool) (k s e : ℕ) → k ≤ K.dedent → listed_records full (spanned k s e ∷ []) ≡ spanned k s e ∷ []
listed_low full k s e h = listed_one full k s e (listed_other full k (low k h))

pub listed_dedents : (full : Bool) (n p : ℕ) → listed_records full (dedents n p) ≡ dedents n p
unfolding listed_records dedents is_listed is_note
listed_dedents full zero p = refl
listed_dedents full (suc n) p = ap (λ (l : List Spanned). spanned K.dedent p p ∷ l) (listed_dedents full n p)

pub listed_opt : (full : Bool) (n k s e : ℕ) → k ≤ K.dedent → listed_records full (opt n (spanned k s e)) ≡ opt n (spanned k s e)
unfolding listed_records
listed_opt full zero k s e h = refl
listed_opt full (suc n) k s e h = listed_low full k s e h

-- and so is what a line's start leaves pending
pub listed_pending : (full : Bool) (l : Pending) → listed_records full (pending_records l) ≡ pending_records l
listed_pending full l = listed_append full (opt l.indents _) _ ∙ rw (listed_opt full l.indents 1 (l.from - (l.blanks.tabs + l.blanks.spaces)) l.from (omega arith), listed_dedents full l.dedents l.from)

pub listed_short : (full : Bool) (rs : List Spanned) → length (listed_records full rs) ≤ length rs
unfolding listed_records
listed_short full [] = omega arith
listed_short full (r ∷ rs) =
    choose_keeps (λ (l : List Spanned). length l ≤ suc (length rs)) (is_listed full r.kind) (λ _. omega (arith, listed_short full rs)) (λ _. omega (arith, listed_short full rs))

-- with its notes a list is as it is
pub listed_full : (rs : List Spanned) → listed_records true rs ≡ rs
unfolding listed_records is_listed
listed_full [] = refl
listed_full (r ∷ rs) = go (is_note r.kind) (listed_full rs)
  where
    go : (b : Bool) → listed_records true rs ≡ rs → choose (choose b (λ _. true) (λ _. true)) (λ _. r ∷ listed_records true rs) (λ _. listed_records true rs) ≡ r ∷ rs
    go true e = ap (λ (l : List Spanned). r ∷ l) e
    go false e = ap (λ (l : List Spanned). r ∷ l) e

-- ---- the notes of a line's start are notes
abbrev None : List Spanned → Type 0
None l = listed_records false l ≡ []

none_newline : (from at c : ℕ) (r : List ℕ) (on : ℕ → List Spanned) → ((b : ℕ) → None (on b)) → None (newline_note from at c r on)
unfolding listed_records is_listed is_note
none_newline from at c r on f = choose_keeps None (is_cr_lf c r) (λ _. f from) (λ _. f (at + width c))

none_from : (comment : Bool) (from at : ℕ) (l : List ℕ) → None (notes_from comment from at l)
unfolding notes_from listed_records is_listed is_note
none_from true from at [] = refl
none_from false from at [] = refl
none_from true from at (c ∷ r) =
    choose_keeps None (not_newline c) (λ _. none_from true from (at + width c) r)
    (λ _. none_newline at at c r (λ b. notes_from false b (at + width c) r) (λ b. none_from false b (at + width c) r))
none_from false from at (c ∷ r) =
    choose_keeps None (eqb c (code " ")) (λ _. none_from false (at + width c) (at + width c) r)
    (λ _. choose_keeps None (eqb c (code "\t")) (λ _. none_from false (at + width c) (at + width c) r)
    (λ _. choose_keeps None (eqb c (code "#")) (λ _. none_from true at (at + width c) r)
    (λ _. choose_keeps None (eqb c (code "\u{c}")) (λ _. none_from false (at + width c) (at + width c) r)
    (λ _. choose_keeps None (not_newline c) (λ _. refl)
    (λ _. none_newline from at c r (λ b. notes_from false b (at + width c) r) (λ b. none_from false b (at + width c) r))))))

pub listed_notes : (p : Place) → listed_records false (notes p) ≡ []
unfolding notes
listed_notes p = none_from false p.at p.at p.rest
