-- The cut found in a row is the cut of the raw records: the second pass changes nothing that re-reading looks at.
-- Assumes nothing.
use Prim.Native.Nat.{ℕ, zero, suc, ◌+◌, ◌<◌}
use mathlib.Core.Path.{◌≡◌, refl, ◌∙◌, ap, fun_ext}
use mathlib.Core.List.{List, [], ◌∷◌, ◌++◌}
use mathlib.Core.Bool.{Bool, true, false}
use mathlib.Core.Logic.{◌⊎◌, inl, inr}
use native.Mathlib.Omega.{arith}
use borrow.Author.Tests.{eqb-true, ltb-true}
use lib.Dec.{eqb, ltb}
use Rattle.std.specs.Prelude.{Option}
use lib.ListN.{length}
use Rattle.choice.proofs.Laws.{both_left, both_right}
use Rattle.token.specs.Kinds as K
use Rattle.indentation.specs.declared.Level.{Level}
use Rattle.records.specs.Records.{Spanned, spanned}
use Rattle.soft_keywords.specs.SoftKeywords.{soft_kind, line_start_after, soften}
use Rattle.soft_keywords.proofs.Second.{soft_lines}
use Rattle.rereading.specs.declared.Effect.{Effect}
use Rattle.edit_theorem.proofs.Spans.{bare, kept_spans_lem, rebuild_spans_lem}
use Rattle.rereading.specs.Rereads.{is_cut, or_cut, kept_up_to, effect_of, applied, rebuild}

-- the pass finds the same cut
pub kept_soft : (a : ℕ) (line : Bool) (rs : List Spanned) → kept_spans_lem a (soften line rs) ≡ kept_spans_lem a rs
unfolding kept_up_to soften is_cut
kept_soft a line [] = refl
kept_soft a line (r ∷ rs) = rw (kept_soft a (line_start_after line r.kind) rs, soft_lines line r.kind K.newline rs (omega arith))

effect_soft : (t : List ℕ) (e d : ℕ) (line : Bool) (r : Spanned) (rs : List Spanned) → effect_of t e d (bare (spanned (soft_kind line r.kind rs) r.start r.end)) ≡ effect_of t e d (bare r)
unfolding effect_of
effect_soft t e d line r rs = rw (soft_lines line r.kind K.indent rs (omega arith), soft_lines line r.kind K.dedent rs (omega arith))

-- and rebuilds the same levels
pub rebuild_soft : (t : List ℕ) (e : ℕ) (line : Bool) (rs : List Spanned) (ls : List Level) → rebuild_spans_lem t e (soften line rs) ls ≡ rebuild_spans_lem t e rs ls
unfolding rebuild soften
rebuild_soft t e line [] ls = refl
rebuild_soft t e line (r ∷ rs) ls =
    ap (λ (j : Option Effect). applied j ls (rebuild_spans_lem t e (soften (line_start_after line r.kind) rs))) (effect_soft t e (length ls) line r rs)
    ∙ ap (applied (effect_of t e (length ls) (bare r)) ls) (fun_ext (λ x. rebuild_soft t e (line_start_after line r.kind) rs x))

-- a cut, where there is one
pub record Found (a : ℕ) (rs : List Spanned) (k : ℕ) : Type 0 where
  pub pre : List Spanned
  pub line : Spanned
  pub post : List Spanned
  pub shape : rs ≡ pre ++ line ∷ post
  pub kind : line.kind ≡ K.newline
  pub low : line.end < a
  pub count : k ≡ length pre + 1

is_cut_lem : (a : ℕ) (r : Spanned) → is_cut a (bare r) ≡ true → (r.kind ≡ K.newline) × (r.end < a)
unfolding is_cut
is_cut_lem a r e = (eqb-true _ _ (both_left (eqb r.kind K.newline) (ltb r.end a) e), ltb-true _ _ (both_right (eqb r.kind K.newline) (ltb r.end a) e))

pub found : (a : ℕ) (rs : List Spanned) → (kept_spans_lem a rs ≡ 0) ⊎ Found a rs (kept_spans_lem a rs)
unfolding kept_up_to
found a [] = inl refl
found a (r ∷ rs) = go (is_cut a (bare r)) (kept_spans_lem a rs) refl (found a rs)
  where
    go : (b : Bool) (k : ℕ) → is_cut a (bare r) ≡ b → (k ≡ 0) ⊎ Found a rs k → (or_cut b k ≡ 0) ⊎ Found a (r ∷ rs) (or_cut b k)
    go b (suc k) e (inl z) = absurd (omega arith)
    go b zero e (inr f) = absurd (omega (arith, f.count))
    go true zero e (inl z) = let c = is_cut_lem a r e in inr (record { pre = []; line = r; post = rs; shape = refl; kind = c.0; low = c.1; count = omega arith })
    go false zero e (inl z) = inl refl
    go b (suc k) e (inr f) =
        inr (record { pre = r ∷ f.pre; line = f.line; post = f.post; shape = ap (λ (l : List Spanned). r ∷ l) f.shape; kind = f.kind; low = f.low; count = omega (arith, f.count) })
