-- The second pass over a token, over the Dedents at a text's end, and where a line starts.
-- Assumes nothing.
use Prim.Native.Nat.{ℕ, ◌+◌, ◌<◌}
use native.Mathlib.Omega.{arith}
use lib.Dec.{eqb, leb}
use Rattle.choice.specs.Choice.{choose}
use Rattle.choice.proofs.Laws.{choose_keeps}
use Rattle.window.specs.Place.{Place}
use Rattle.indentation.specs.Notes.{notes}
use Rattle.rounds.specs.declared.Pending.{Pending}
use Rattle.rounds.specs.Promises.{pending_records}
use Rattle.rounds.proofs.Listed.{listed_full, listed_notes}
use mathlib.Core.Path.{◌≡◌, refl, sym, ◌∙◌, ap}
use mathlib.Core.List.{List, [], ◌∷◌, ◌++◌, append-nil, append_assoc}
use mathlib.Core.Bool.{Bool, true, false}
use borrow.Author.Tests.{lt-leb, eqb-true}
use Rattle.rounds.specs.Rounds.{dedents, listed_records}
use Rattle.records.specs.Records.{Spanned, spanned}
use Rattle.soft_keywords.specs.SoftKeywords.{soft_kind, line_start_after, soften}
use Rattle.soft_keywords.specs.Promises.{or_moved}
use Rattle.lexer.specs.Steps.{is_note, is_listed}
use Rattle.soft_keywords.proofs.Second.{soft_low, soften_dedents, soften_pending}
use Rattle.token.specs.Kinds as K

-- the Dedents at the end of a text
pub soften_last : (line : Bool) (n p : ℕ) → soften line (dedents n p) ≡ dedents n p
unfolding soften
soften_last line n p = ap (soften line) (sym (append-nil (dedents n p))) ∙ soften_dedents n p line [] ∙ append-nil (dedents n p)

-- a token within a line, after which no line starts
pub soften_tok : (line : Bool) (k s e : ℕ) (xs : List Spanned) → 2 < k → is_note k ≡ false → soften line (spanned k s e ∷ xs) ≡ spanned (soft_kind line k xs) s e ∷ soften false xs
unfolding soften line_start_after
soften_tok line k s e xs h n = rw (n, lt-leb k 2 h)

-- a Newline, after which a line starts
pub soften_line : (line : Bool) (s e : ℕ) (xs : List Spanned) → soften line (spanned K.newline s e ∷ xs) ≡ spanned K.newline s e ∷ soften true xs
unfolding soften soft_kind line_start_after is_note
soften_line line s e xs = refl

note_low : (k : ℕ) → is_note k ≡ true → k < K.first_soft
unfolding is_note
note_low k = choose_keeps (λ (b : Bool). b ≡ true → k < K.first_soft) (eqb k K.comment) (λ e _. omega (arith, eqb-true k K.comment e)) (λ _ e. omega (arith, eqb-true k K.non_logical_newline e))

cons_nil : (r : Spanned) (rs : List Spanned) → r ∷ rs ≡ [] → ⊥
cons_nil r rs e = let z : ◌≡◌ {A = ℕ} 1 0 = ap (λ (l : List Spanned). elim l as (λ _. ℕ) [ [] ↦ 0 | x ∷ xs ↦ 1 ]) e in omega arith

-- a note changes nothing
pub soften_note : (line : Bool) (k s e : ℕ) (xs : List Spanned) → is_note k ≡ true → soften line (spanned k s e ∷ xs) ≡ spanned k s e ∷ soften line xs
unfolding soften line_start_after
soften_note line k s e xs n = rw (soft_low line k xs (note_low k n), n)

-- nor do those of a line's start
pub soften_notes : (line : Bool) (ns xs : List Spanned) → listed_records false ns ≡ [] → soften line (ns ++ xs) ≡ ns ++ soften line xs
unfolding listed_records is_listed
soften_notes line [] xs h = refl
soften_notes line (r ∷ ns) xs h = go (is_note r.kind) refl h (λ g. soften_notes line ns xs g)
  where
    go : (b : Bool) → is_note r.kind ≡ b → choose (choose (is_note r.kind) (λ _. false) (λ _. true)) (λ _. r ∷ listed_records false ns) (λ _. listed_records false ns) ≡ [] → (listed_records false ns ≡ [] → soften line (ns ++ xs) ≡ ns ++ soften line xs) → soften line (r ∷ ns ++ xs) ≡ r ∷ ns ++ soften line xs
    go true b h ih = soften_note line r.kind r.start r.end (ns ++ xs) b ∙ ap (λ (l : List Spanned). r ∷ l) (ih (rw b at h))
    go false b h ih = absurd (cons_nil r (listed_records false ns) (rw b at h))

pub soften_start : (full : Bool) (p : Place) (l : Pending) (line : Bool) (xs : List Spanned)
    → soften line ((listed_records full (notes p) ++ pending_records l) ++ xs) ≡ (listed_records full (notes p) ++ pending_records l) ++ soften (or_moved line (l.indents + l.dedents)) xs
soften_start full p l line xs =
    ap (soften line) (append_assoc (listed_records full (notes p)) (pending_records l) xs) ∙ first full ∙ ap (λ (y : List Spanned). listed_records full (notes p) ++ y) (soften_pending l line xs)
    ∙ sym (append_assoc (listed_records full (notes p)) (pending_records l) _)
  where
    first : (b : Bool) → soften line (listed_records b (notes p) ++ (pending_records l ++ xs)) ≡ listed_records b (notes p) ++ soften line (pending_records l ++ xs)
    first true = rw (listed_full (notes p)) (soften_notes line (notes p) (pending_records l ++ xs) (listed_notes p))
    first false = rw (listed_notes p)

-- the two cases of `line_start_after`
module _ (line b : Bool) (k : ℕ) (q : is_note k ≡ b) where
  pub after_note : b ≡ true → line ≡ line_start_after line k
  unfolding line_start_after
  after_note e = rw (q, e)

  pub after_other : b ≡ false → leb k 2 ≡ line_start_after line k
  unfolding line_start_after
  after_other e = rw (q, e)
