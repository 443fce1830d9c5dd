-- What re-reading looks at in kept records, the cut's line apart: kinds and places. So its rules are said of what a reading lists.
-- Assumes nothing.
use Prim.Native.Nat.{ℕ, ◌+◌, ◌≤◌}
use mathlib.Core.Path.{◌≡◌, refl, sym, ◌∙◌, ap, ap₂, fun_ext}
use mathlib.Core.List.{List, [], ◌∷◌, map}
use mathlib.Core.Logic.{◌⊎◌, inl, inr, ⊎_elim}
use native.Mathlib.Omega.{arith}
use native.Mathlib.Nat.{zero-add}
use borrow.Author.Tests.{ltb-false}
use lib.Dec.{ltb}
use Rattle.std.specs.Prelude.{Option, None, Some}
use lib.ListN.{length}
use Rattle.choice.proofs.Laws.{choose_keeps}
use Rattle.lines.specs.Lines.{line_at}
use Rattle.token.specs.declared.Record.{Record}
use Rattle.indentation.specs.declared.Level.{Level}
use Rattle.records.specs.Records.{Spanned, rec, record_in}
use Rattle.rereading.specs.declared.Effect.{Effect}
use Rattle.rereading.specs.declared.Effect.TheVariants.{Opens, Closes, Stays}
use Rattle.rereading.specs.Rereads.{is_cut, kept_up_to, effect_of, Built, broken, built, applied, rebuild}

-- a record whose line nothing is said of
abbrev pub bare : Spanned → Record
bare x = rec x.kind x.start x.end 0

-- how many of them are kept, and the levels that are rebuilt from them
abbrev pub kept_spans_lem : ℕ → List Spanned → ℕ
kept_spans_lem a xs = kept_up_to a (map bare xs)

abbrev pub rebuild_spans_lem : List ℕ → ℕ → List Spanned → List Level → Built
rebuild_spans_lem t e xs = rebuild t e (map bare xs)

-- the records of a text are kept as these are
pub kept_spans : (a : ℕ) (u : List ℕ) (xs : List Spanned) → kept_up_to a (map (record_in u 0) xs) ≡ kept_spans_lem a xs
unfolding kept_up_to is_cut
kept_spans a u [] = refl
kept_spans a u (x ∷ xs) = rw (zero-add x.end, kept_spans a u xs)

effect_span : (t : List ℕ) (e d : ℕ) (u : List ℕ) (x : Spanned) → effect_of t e d (record_in u 0 x) ≡ effect_of t e d (bare x)
unfolding effect_of
effect_span t e d u x = rw (zero-add x.start, zero-add x.end)

-- and rebuild what these do
pub rebuild_spans : (t : List ℕ) (e : ℕ) (u : List ℕ) (xs : List Spanned) (ls : List Level) → rebuild t e (map (record_in u 0) xs) ls ≡ rebuild_spans_lem t e xs ls
unfolding rebuild
rebuild_spans t e u [] ls = refl
rebuild_spans t e u (x ∷ xs) ls =
    ap (λ (j : Option Effect). applied j ls (rebuild t e (map (record_in u 0) xs))) (effect_span t e (length ls) u x)
    ∙ ap (applied (effect_of t e (length ls) (bare x)) ls) (fun_ext (λ y. rebuild_spans t e u xs y))

-- ---- sound records lie before the cut's end
pub not_broken : (x : List Level) → broken ≡ built x → ⊥
not_broken x e = let z : ◌≡◌ {A = ℕ} 0 1 = ap (λ (b : Built). elim b as (λ _. ℕ) [ broken ↦ 0 | built ls ↦ 1 ]) e in omega arith

effect_low : (t : List ℕ) (e d : ℕ) (r : Record) → (effect_of t e d r ≡ None) ⊎ (r.start ≤ e)
unfolding effect_of
effect_low t e d r =
    choose_keeps P (ltb r.end r.start) (λ _. inl refl)
    (λ y. choose_keeps P (ltb e r.end) (λ _. inl refl) (λ z. inr (omega (arith, ltb-false r.end r.start y, ltb-false e r.end z))))
  where
    P : Option Effect → Type 0
    P x = (x ≡ None) ⊎ (r.start ≤ e)

-- what is rebuilt behind an effect that is none of an unsound record
goes_on : (Q : Type 0) (z : Option Effect) (ls : List Level) (k : List Level → Built) (x : List Level) → ((l : List Level) → k l ≡ built x → Q) → applied z ls k ≡ built x → Q
unfolding applied
goes_on Q None ls k x ih h = absurd (not_broken x h)
goes_on Q (Some (Opens y)) ls k x ih h = ih _ h
goes_on Q (Some Closes) ls k x ih h = ih _ h
goes_on Q (Some Stays) ls k x ih h = ih _ h

sound : (z : Option Effect) (ls : List Level) (k : List Level → Built) (x : List Level) → applied z ls k ≡ built x → z ≡ None → ⊥
unfolding applied
sound z ls k x h u = not_broken x (rw u at h)

-- so they are the same records of two texts that have the same lines up to there
pub same_lines : (u u' : List ℕ) (e : ℕ) → ((p : ℕ) → p ≤ e → line_at u' p ≡ line_at u p)
    → (t : List ℕ) (xs : List Spanned) (ls x : List Level) → rebuild_spans_lem t e xs ls ≡ built x → map (record_in u 0) xs ≡ map (record_in u' 0) xs
unfolding rebuild
same_lines u u' e f t [] ls x h = refl
same_lines u u' e f t (y ∷ xs) ls x h =
    let z = effect_of t e (length ls) (bare y) in
    let l : y.start ≤ e = ⊎_elim (λ b. absurd (sound z ls (rebuild_spans_lem t e xs) x h b)) (λ b. b) (effect_low t e (length ls) (bare y)) in
    let n : line_at u y.start ≡ line_at u' y.start = sym (f y.start l) in
    ap₂ (λ (r : Record) (rs : List Record). r ∷ rs) (ap (rec y.kind (0 + y.start) (0 + y.end)) n)
    (goes_on _ z ls (rebuild_spans_lem t e xs) x (λ w. same_lines u u' e f t xs w x) h)
