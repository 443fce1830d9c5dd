-- Records written into a row.
-- Assumes nothing.
use Prim.Native.Nat.{ℕ, zero, suc, ◌+◌, ◌-◌, ◌≤◌}
use mathlib.Core.Path.{◌≡◌, refl, sym, ◌∙◌, ap}
use mathlib.Core.List.{List, ◌++◌}
use native.Mathlib.Omega.{arith}
use native.Mathlib.Numerals.{add-one}
use Rattle.rounds.specs.Rounds.{dedents}
use Rattle.lines.specs.Lines.{line_at}
use Rattle.records.specs.Records.{spanned, rec, set_rec, put1, puts}
use Rattle.records.proofs.Puts.{put_lined}
use Rattle.rounds.specs.declared.Pending.{Pending}
use Rattle.rounds.specs.Promises.{opt, pending_records}
use Rattle.token.specs.Kinds as K

-- n Dedents that are left to write at j, where m were at i, for each text in which their place is in the line l
abbrev pub DedentsLeft : (start p l : ℕ) (row : List ℕ) (j n : ℕ) (row₀ : List ℕ) (i m : ℕ) → Type 0
DedentsLeft start p l row j n row₀ i m = (t : List ℕ) → l ≡ line_at t p → puts t start row j (dedents n p) ≡ puts t start row₀ i (dedents m p)

module _ (start p l : ℕ) (row : List ℕ) (j n : ℕ) (row₀ : List ℕ) (i m : ℕ) where
  -- one more is written, and k are left
  pub dedents_more : (k : ℕ) → n ≡ k + 1 → (r : List ℕ) → r ≡ set_rec row j (rec K.dedent (start + p) (start + p) l) → DedentsLeft start p l row j n row₀ i m → DedentsLeft start p l r (j + 1) k row₀ i m
  unfolding puts dedents
  dedents_more k h r q z = λ t u. rw (put_lined t start row r j K.dedent p p l q u) (rw (h, add-one k) at (z t u))

  pub dedents_end : n ≤ 0 → DedentsLeft start p l row j n row₀ i m → (t : List ℕ) → l ≡ line_at t p → row ≡ puts t start row₀ i (dedents m p)
  unfolding puts dedents
  dedents_end h z = λ t u. let e : n ≡ 0 = omega arith in rw e at (z t u)

-- y is the row with what is pending, for each text in which the blanks and the first item are in this line
abbrev pub Leads : ℕ → ℕ → Pending → ℕ → List ℕ → List ℕ → Type 0
Leads start n l above row y = (t : List ℕ) → above ≡ line_at t l.from → line_at t (l.from - (l.blanks.tabs + l.blanks.spaces)) ≡ line_at t l.from → y ≡ puts t start row n (pending_records l)

-- it is Dedents, or an Indent before them
module _ (start n : ℕ) (l : Pending) (above : ℕ) (row x y : List ℕ) where
  pub prefixed_none : ((t : List ℕ) → above ≡ line_at t l.from → y ≡ puts t start row n (dedents l.dedents l.from)) → l.indents ≡ 0 → Leads start n l above row y
  prefixed_none q e = λ t u v. q t u ∙ rw e

  pub lead_one : x ≡ set_rec row n (rec K.indent (start + (l.from - (l.blanks.tabs + l.blanks.spaces))) (start + l.from) above) → ((t : List ℕ) → above ≡ line_at t l.from → y ≡ puts t start x (n + 1) (dedents l.dedents l.from)) → (l.indents ≡ 0 → ⊥) → Leads start n l above row y
  unfolding puts
  lead_one q z h = λ t u v. z t u ∙ ap (λ r. puts t start r (n + 1) (dedents l.dedents l.from)) (put_lined t start row x n K.indent _ _ above q (u ∙ sym v)) ∙ go t l.indents h
    where
      go : (t : List ℕ) (k : ℕ) → (k ≡ 0 → ⊥) → puts t start (put1 t start row n (spanned K.indent (l.from - (l.blanks.tabs + l.blanks.spaces)) l.from)) (n + 1) (dedents l.dedents l.from)
          ≡ puts t start row n (opt k (spanned K.indent (l.from - (l.blanks.tabs + l.blanks.spaces)) l.from) ++ dedents l.dedents l.from)
      go t zero h = absurd (h refl)
      go t (suc k) h = refl
