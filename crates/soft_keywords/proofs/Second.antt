-- The second pass over a list of records: what it leaves as it is, and that a Newline blocks its look-ahead.
-- Assumes nothing.
use Prim.Native.Nat.{ℕ, zero, suc, ◌+◌, ◌<◌, ◌≤◌}
use mathlib.Core.Path.{◌≡◌, refl, sym, ◌∙◌, ap}
use mathlib.Core.List.{List, [], ◌∷◌, ◌++◌, append_assoc}
use mathlib.Core.Bool.{Bool, true, false}
use native.Mathlib.Omega.{arith}
use native.Mathlib.Nat.{add-zero, zero-add, add-suc}
use borrow.Author.Tests.{lt-ltb, ltb-false, ne_eqb}
use lib.ListN.{length}
use lib.Dec.{eqb, ltb}
use lib.IntN.{ℤ, pos}
use Rattle.choice.proofs.Laws.{choose_keeps}
use Rattle.rounds.specs.declared.Pending.{Pending}
use Rattle.rounds.specs.Rounds.{dedents}
use Rattle.records.specs.Records.{Spanned, spanned}
use Rattle.rounds.specs.Promises.{opt, pending_records}
use Rattle.soft_keywords.specs.SoftKeywords.{match_from, lambda_after, keeps_match, stands_for_name, square_count_after, type_from, keeps_type, stays_keyword, soft_kind, line_start_after, soften}
use Rattle.soft_keywords.specs.Promises.{or_moved}
use Rattle.lexer.specs.Steps.{is_note, nest_after}
use Rattle.token.specs.Kinds as K

-- a kind that is no soft keyword stays
pub soft_low : (line : Bool) (k : ℕ) (rs : List Spanned) → k < K.first_soft → soft_kind line k rs ≡ k
unfolding soft_kind
soft_low line k rs h = rw (lt-ltb k K.first_soft h)

-- only a soft keyword changes, and only to a Name: Newline, Indent and Dedent are the same before and after
pub soft_lines : (line : Bool) (k j : ℕ) (rs : List Spanned) → j ≤ 2 → eqb (soft_kind line k rs) j ≡ eqb k j
unfolding soft_kind
soft_lines line k j rs h =
    let P : ℕ → Type 0 = λ m. eqb m j ≡ eqb k j in
    let name : ltb k K.first_soft ≡ false → P K.name = λ e. ne_eqb K.name j (omega arith) ∙ sym (ne_eqb k j (omega (arith, ltb-false k K.first_soft e))) in
    choose_keeps P (ltb k K.first_soft) (λ _. refl) (λ e. choose_keeps P line (λ _. choose_keeps P (stays_keyword k rs) (λ _. refl) (λ _. name e)) (λ _. name e))

-- Dedents, an Indent, and what a line's start leaves pending
pub soften_dedents : (n p : ℕ) (line : Bool) (rs : List Spanned) → soften line (dedents n p ++ rs) ≡ dedents n p ++ soften (or_moved line n) rs
unfolding soften soft_kind line_start_after is_note dedents
soften_dedents zero p line rs = refl
soften_dedents (suc n) p line rs = ap (λ (l : List Spanned). spanned K.dedent p p ∷ l) (soften_dedents n p true rs ∙ ap (λ (b : Bool). dedents n p ++ soften b rs) (always n))
  where
    always : (m : ℕ) → or_moved true m ≡ true
    always zero = refl
    always (suc m) = refl

pub soften_indent : (n s e : ℕ) (line : Bool) (rs : List Spanned) → soften line (opt n (spanned K.indent s e) ++ rs) ≡ opt n (spanned K.indent s e) ++ soften (or_moved line n) rs
unfolding soften soft_kind line_start_after is_note
soften_indent zero s e line rs = refl
soften_indent (suc n) s e line rs = refl

line_both : (line : Bool) (m n : ℕ) → or_moved (or_moved line m) n ≡ or_moved line (m + n)
line_both line m zero = rw add-zero
line_both line zero (suc n) = rw zero-add
line_both line (suc m) (suc n) = rw add-suc

pub soften_pending : (l : Pending) (line : Bool) (rs : List Spanned) → soften line (pending_records l ++ rs) ≡ pending_records l ++ soften (or_moved line (l.indents + l.dedents)) rs
soften_pending l line rs = simp (append_assoc, soften_indent, soften_dedents, line_both)

-- the pass changes kinds alone
pub soften_length : (line : Bool) (rs : List Spanned) → length (soften line rs) ≡ length rs
unfolding soften
soften_length line [] = refl
soften_length line (r ∷ rs) = ap suc (soften_length (line_start_after line r.kind) rs)

-- a Newline blocks the look-ahead: what follows it changes nothing before it
module _ (x y : List Spanned) (N : Spanned) (z : N.kind ≡ K.newline) where
  match_block : (n : ℕ) (first lambda : Bool) (rs : List Spanned) → match_from n first lambda (rs ++ N ∷ x) ≡ match_from n first lambda (rs ++ N ∷ y)
  unfolding match_from
  match_block n first lambda [] = rw z
  match_block n first lambda (r ∷ rs) = simp (match_block (nest_after n r.kind) false (lambda_after n lambda r.kind) rs)

  type_block : (c : ℤ) (rs : List Spanned) → type_from c (rs ++ N ∷ x) ≡ type_from c (rs ++ N ∷ y)
  unfolding type_from
  type_block c [] = rw z
  type_block c (r ∷ rs) = simp (type_block (square_count_after c r.kind) rs)

  keeps_block : (rs : List Spanned) → keeps_type (rs ++ N ∷ x) ≡ keeps_type (rs ++ N ∷ y)
  unfolding keeps_type stands_for_name
  keeps_block [] = rw z
  keeps_block (r ∷ rs) = rw (type_block (pos 0) rs)

  soft_block : (line : Bool) (k : ℕ) (rs : List Spanned) → soft_kind line k (rs ++ N ∷ x) ≡ soft_kind line k (rs ++ N ∷ y)
  unfolding soft_kind stays_keyword keeps_match
  soft_block line k rs = rw (match_block 0 true false rs, keeps_block rs)

pub soften_block : (line : Bool) (rs x : List Spanned) (N : Spanned) → N.kind ≡ K.newline → soften line (rs ++ N ∷ x) ≡ soften line (rs ++ N ∷ []) ++ soften true x
unfolding soften soft_kind line_start_after is_note
soften_block line [] x N z = rw z
soften_block line (r ∷ rs) x N z = rw (soft_block x [] N z line r.kind rs, soften_block (line_start_after line r.kind) rs x N z)
