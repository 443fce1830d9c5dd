-- The second pass looks at kinds alone: records that are moved it leaves as it does where they stood.
-- Assumes nothing.
use Prim.Native.Nat.{ℕ}
use mathlib.Core.Path.{◌≡◌, refl, sym, ◌∙◌, ap}
use mathlib.Core.List.{List, [], ◌∷◌, ◌++◌, map}
use mathlib.Core.Bool.{Bool, true, false}
use native.Mathlib.Omega.{arith}
use borrow.Author.Tests.{eqb-true, eq-eqb}
use lib.Dec.{ltb}
use lib.IntN.{ℤ, pos}
use Rattle.choice.proofs.Laws.{choose_keeps, choose_both}
use Rattle.token.specs.Kinds as K
use Rattle.records.specs.Records.{Spanned, spanned}
use Rattle.lexer.specs.Steps.{nest_after}
use Rattle.soft_keywords.specs.SoftKeywords.{match_from, lambda_after, keeps_match, square_count_after, type_from, keeps_type, stays_keyword, soft_kind, line_start_after, soften}
use Rattle.soft_keywords.proofs.Second.{soft_lines}
use Rattle.edit_theorem.proofs.Newlines.{nil_no, head_eq, tail_eq}
use Rattle.margin_comments.specs.Moved.{moved_behind, all_moved_behind, kinds_of}

-- ---- a record that is moved
module _ (place n : ℕ) where
  abbrev f : Spanned → Spanned
  f = moved_behind place n

  pub same_kind : (r : Spanned) → (f r).kind ≡ r.kind
  unfolding moved_behind
  same_kind r = choose_keeps (λ (x : Spanned). x.kind ≡ r.kind) (ltb r.start place) (λ _. refl) (λ _. refl)

  other_kind : (r : Spanned) (k : ℕ) → spanned k (f r).start (f r).end ≡ f (spanned k r.start r.end)
  unfolding moved_behind
  other_kind r k = choose_both (λ (x y : Spanned). spanned k x.start x.end ≡ y) (ltb r.start place) (λ _. refl) (λ _. refl)

  pub same_kinds : (rs : List Spanned) → kinds_of (map f rs) ≡ kinds_of rs
  same_kinds [] = refl
  same_kinds (r ∷ rs) = rw (same_kind r, same_kinds rs)

  -- ---- the searches
  match_moved : (m : ℕ) (first lambda : Bool) (rs : List Spanned) → match_from m first lambda (map f rs) ≡ match_from m first lambda rs
  unfolding match_from
  match_moved m first lambda [] = refl
  match_moved m first lambda (r ∷ rs) = rw (same_kind r) (simp (match_moved (nest_after m r.kind) false (lambda_after m lambda r.kind) rs))

  type_moved : (z : ℤ) (rs : List Spanned) → type_from z (map f rs) ≡ type_from z rs
  unfolding type_from
  type_moved z [] = refl
  type_moved z (r ∷ rs) = rw (same_kind r) (simp (type_moved (square_count_after z r.kind) rs))

  keeps_moved : (rs : List Spanned) → keeps_type (map f rs) ≡ keeps_type rs
  unfolding keeps_type
  keeps_moved [] = refl
  keeps_moved (r ∷ rs) = rw (same_kind r, type_moved (pos 0) rs)

  soft_moved : (line : Bool) (k : ℕ) (rs : List Spanned) → soft_kind line k (map f rs) ≡ soft_kind line k rs
  unfolding soft_kind stays_keyword keeps_match
  soft_moved line k rs = rw (match_moved 0 true false rs, keeps_moved rs)

  pub soften_moved : (line : Bool) (rs : List Spanned) → soften line (all_moved_behind place n rs) ≡ all_moved_behind place n (soften line rs)
  unfolding soften
  soften_moved line [] = refl
  soften_moved line (r ∷ rs) = rw (same_kind r, soft_moved line r.kind rs, other_kind r (soft_kind line r.kind rs), soften_moved (line_start_after line r.kind) rs)

-- ---- a Newline behind the pass is one before it
pub record Raw (rs : List Spanned) (N : Spanned) : Type 0 where
  pub pre : List Spanned
  pub post : List Spanned
  pub shape : rs ≡ pre ++ N ∷ post

same_newline : (line : Bool) (r N : Spanned) (rs : List Spanned) → spanned (soft_kind line r.kind rs) r.start r.end ≡ N → N.kind ≡ K.newline → r ≡ N
same_newline line r N rs e k =
    let a : soft_kind line r.kind rs ≡ 0 = ap (λ (x : Spanned). x.kind) e ∙ k in
    let b : r.kind ≡ 0 = eqb-true r.kind 0 (sym (soft_lines line r.kind 0 rs (omega arith)) ∙ eq-eqb _ 0 a) in
    ap (λ (m : ℕ). spanned m r.start r.end) (b ∙ sym a) ∙ e

pub raw : (line : Bool) (rs pre post : List Spanned) (N : Spanned) → soften line rs ≡ pre ++ N ∷ post → N.kind ≡ K.newline → Raw rs N
unfolding soften
raw line [] pre post N e k = absurd (nil_no pre post N e)
raw line (r ∷ rs) [] post N e k = record { pre = []; post = rs; shape = ap (λ (x : Spanned). x ∷ rs) (same_newline line r N rs (head_eq _ _ _ _ e) k) }
raw line (r ∷ rs) (p ∷ pre) post N e k =
    let x = raw (line_start_after line r.kind) rs pre post N (tail_eq _ _ _ _ e) k in
    record { pre = r ∷ x.pre; post = x.post; shape = ap (λ (l : List Spanned). r ∷ l) x.shape }
