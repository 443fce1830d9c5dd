-- The notes of a line's start: how many there are, and that a newline blocks look-ahead.
-- Assumes nothing.
use Prim.Native.Nat.{ℕ, ◌+◌, ◌<◌, ◌≤◌}
use Prim.Native.Char.{code}
use mathlib.Core.Path.{◌≡◌, refl, sym, ap, subst}
use mathlib.Core.List.{List, [], ◌∷◌}
use mathlib.Core.Bool.{Bool, true, false}
use mathlib.Core.Logic.{◌⊎◌, inl, inr}
use native.Mathlib.Omega.{arith}
use lib.Dec.{eqb, ltb}
use lib.ListN.{length}
use Rattle.std.specs.Prelude.{Result, Ok, Err, is_ok}
use Rattle.choice.proofs.Laws.{choose_three, choose_keeps, choose_both, true_is_not_false}
use Rattle.utf8.specs.Chars.{width, no_char}
use Rattle.window.specs.Place.{Place}
use Rattle.window.proofs.Near.{Near, Beside, same_first}
use Rattle.window.proofs.Near.Near.{lf, cr, more}
use Rattle.window.proofs.Near.Beside.{beside}
use Rattle.token.specs.Kinds as K
use Rattle.indentation.specs.declared.Margin.{Margin}
use Rattle.names.specs.Runs.{is_newline, not_newline}
use Rattle.indentation.specs.Blanks.{blanks_from, blanks}
use Rattle.indentation.specs.Notes.{is_cr_lf, newline_note, notes_from, notes}
use Rattle.records.specs.Records.{Spanned, spanned}
use Rattle.indentation.proofs.Local.{on_from, stop}

wide : (c : ℕ) → 0 < width c
unfolding width
wide c =
    let P : ℕ → Type 0 = λ n. 0 < n in
    choose_keeps P (ltb c 0x80) (λ _. omega arith)
    (λ _. choose_keeps P (ltb c 0x800) (λ _. omega arith)
    (λ _. choose_keeps P (ltb c 0x10000) (λ _. omega arith)
    (λ _. choose_keeps P (ltb c no_char) (λ _. omega arith) (λ _. omega arith))))

-- ---- each note takes a byte, and none of those that are counted as blanks
abbrev one : Bool → ℕ
one true = 1
one false = 0

abbrev Few : ℕ → Result Margin Margin → List Spanned → Type 0
Few n (Ok m) ns = length ns + n + (m.blanks.tabs + m.blanks.spaces) ≤ m.at
Few n (Err m) ns = Unit {0}

-- a newline behind which there are few
few_newline : (n from at c : ℕ) (r : List ℕ) (m : Result Margin Margin) (on : ℕ → List Spanned) → n < at + width c → ((b : ℕ) → Few (at + width c) m (on b)) → Few n m (newline_note from at c r on)
few_newline n from at c r (Ok m) on h f =
    choose_keeps (Few n (Ok m)) (is_cr_lf c r) (λ _. omega (arith, f from)) (λ _. omega (arith, f (at + width c)))
few_newline n from at c r (Err m) on h f = tt

few_more : (n : ℕ) (m : Result Margin Margin) (r : Spanned) (ns : List Spanned) → Few (n + 1) m ns → Few n m (r ∷ ns)
few_more n (Ok m) r ns h = omega arith
few_more n (Err m) r ns h = tt

few_from : (comment : Bool) (from at tabs spaces : ℕ) (l : List ℕ) → (n : ℕ) → n + one comment + tabs + spaces ≤ at
    → Few n (blanks_from comment at tabs spaces l) (notes_from comment from at l)
unfolding blanks_from notes_from
few_from true from at tabs spaces [] n h = omega arith
few_from false from at tabs spaces [] n h = omega arith
few_from true from at tabs spaces (c ∷ r) n h =
    let w = wide c in
    choose_both (Few n) (not_newline c) (λ _. few_from true from (at + width c) 0 0 r n (omega arith))
    (λ _. few_more n (blanks_from false (at + width c) 0 0 r) (spanned K.comment from at) _
    (few_newline (n + 1) at at c r (blanks_from false (at + width c) 0 0 r) (λ b. notes_from false b (at + width c) r) (omega arith) (λ b. few_from false b (at + width c) 0 0 r (at + width c) (omega arith))))
few_from false from at tabs spaces (c ∷ r) n h =
    let w = wide c in
    let R : Result Margin Margin → List Spanned → Type 0 = Few n in
    choose_both R (eqb c (code " ")) (λ _. few_from false (at + width c) (at + width c) tabs (spaces + 1) r n (omega arith))
    (λ _. choose_both R (eqb c (code "\t"))
    (λ _. choose_keeps (λ (m : Result Margin Margin). R m (notes_from false (at + width c) (at + width c) r)) (eqb spaces 0)
    (λ _. few_from false (at + width c) (at + width c) (tabs + 1) spaces r n (omega arith))
    (λ _. tt))
    (λ _. choose_both R (eqb c (code "#")) (λ _. few_from true at (at + width c) 0 0 r n (omega arith))
    (λ _. choose_both R (eqb c (code "\u{c}")) (λ _. few_from false (at + width c) (at + width c) 0 0 r n (omega arith))
    (λ _. choose_both R (not_newline c) (λ _. omega arith)
    (λ _. few_newline n from at c r (blanks_from false (at + width c) 0 0 r) (λ b. notes_from false b (at + width c) r) (omega arith)
    (λ b. few_from false b (at + width c) 0 0 r (at + width c) (omega arith)))))))

few : (p : Place) → Few p.at (blanks p) (notes p)
unfolding blanks notes
few p = few_from false p.at p.at 0 0 p.rest p.at (omega arith)

pub notes_few : (p : Place) (m : Margin) → blanks p ≡ Ok m → length (notes p) + p.at + (m.blanks.tabs + m.blanks.spaces) ≤ m.at
notes_few p m e = subst (λ r. Few p.at r (notes p)) e (few p)

-- ---- each is a comment or a newline, and ends at or before the line's first token
abbrev pub Upto : ℕ → List Spanned → Type 0
Upto q [] = Unit
Upto q (r ∷ rs) = ((r.kind ≡ K.comment) ⊎ (r.kind ≡ K.non_logical_newline)) × (r.start ≤ r.end) × (r.end ≤ q) × Upto q rs

abbrev Ups : Result Margin Margin → List Spanned → Type 0
Ups (Ok m) ns = Upto m.at ns
Ups (Err m) ns = Unit {0}

up_newline : (from at c : ℕ) (r : List ℕ) (m : Result Margin Margin) (on : ℕ → List Spanned) → from ≤ at → at + width c ≤ stop m → ((b : ℕ) → b ≤ at + width c → Ups m (on b)) → Ups m (newline_note from at c r on)
up_newline from at c r (Ok m) on h k f =
    choose_keeps (Ups (Ok m)) (is_cr_lf c r) (λ _. f from (omega arith)) (λ _. (inr refl, omega arith, k, f (at + width c) (omega arith)))
up_newline from at c r (Err m) on h k f = tt

up_comment : (from at : ℕ) (m : Result Margin Margin) (ns : List Spanned) → from ≤ at → at ≤ stop m → Ups m ns → Ups m (spanned K.comment from at ∷ ns)
up_comment from at (Ok m) ns h k u = (inl refl, h, k, u)
up_comment from at (Err m) ns h k u = tt

up_from : (comment : Bool) (from at tabs spaces : ℕ) (l : List ℕ) → from ≤ at → Ups (blanks_from comment at tabs spaces l) (notes_from comment from at l)
unfolding blanks_from notes_from
up_from true from at tabs spaces [] h = (inl refl, h, omega arith, tt)
up_from false from at tabs spaces [] h = tt
up_from true from at tabs spaces (c ∷ r) h =
    choose_both Ups (not_newline c) (λ _. up_from true from (at + width c) 0 0 r (omega arith))
    (λ _. up_comment from at (blanks_from false (at + width c) 0 0 r) _ h (omega (arith, on_from false (at + width c) 0 0 r))
    (up_newline at at c r (blanks_from false (at + width c) 0 0 r) (λ b. notes_from false b (at + width c) r) (omega arith) (on_from false (at + width c) 0 0 r) (λ b k. up_from false b (at + width c) 0 0 r k)))
up_from false from at tabs spaces (c ∷ r) h =
    choose_both Ups (eqb c (code " ")) (λ _. up_from false (at + width c) (at + width c) tabs (spaces + 1) r (omega arith))
    (λ _. choose_both Ups (eqb c (code "\t"))
    (λ _. choose_keeps (λ (m : Result Margin Margin). Ups m (notes_from false (at + width c) (at + width c) r)) (eqb spaces 0)
    (λ _. up_from false (at + width c) (at + width c) (tabs + 1) spaces r (omega arith)) (λ _. tt))
    (λ _. choose_both Ups (eqb c (code "#")) (λ _. up_from true at (at + width c) 0 0 r (omega arith))
    (λ _. choose_both Ups (eqb c (code "\u{c}")) (λ _. up_from false (at + width c) (at + width c) 0 0 r (omega arith))
    (λ _. choose_both Ups (not_newline c) (λ _. tt)
    (λ _. up_newline from at c r (blanks_from false (at + width c) 0 0 r) (λ b. notes_from false b (at + width c) r) h (on_from false (at + width c) 0 0 r) (λ b k. up_from false b (at + width c) 0 0 r k))))))

ups : (p : Place) → Ups (blanks p) (notes p)
unfolding blanks notes
ups p = up_from false p.at p.at 0 0 p.rest (omega arith)

pub notes_upto : (p : Place) (m : Margin) → blanks p ≡ Ok m → Upto m.at (notes p)
notes_upto p m e = subst (λ r. Ups r (notes p)) e (ups p)

-- ---- locality
abbrev Alike : ℕ → Result Margin Margin → List Spanned → List Spanned → Type 0
Alike end m ns ns' = stop m < end → is_ok m ≡ true → ns' ≡ ns

near_newline : {end at : ℕ} {l l' : List ℕ} (m : Result Margin Margin) (from i c : ℕ) (on on' : ℕ → List Spanned) → Near end at l l' → ((b : ℕ) → Alike end m (on b) (on' b))
    → Alike end m (newline_note from i c l on) (newline_note from i c l' on')
unfolding is_cr_lf
near_newline {end} {at} {l} {l'} m from i c on on' h f = λ k z. rw (same_first (beside h), f from k z, f (i + width c) k z)

from_near : {end at : ℕ} {l l' : List ℕ} → Near end at l l' → (comment : Bool) (from tabs spaces : ℕ)
    → Alike end (blanks_from comment at tabs spaces l) (notes_from comment from at l) (notes_from comment from at l')
unfolding blanks_from notes_from not_newline is_newline width
from_near {at} (lf {v} e) true from tabs spaces = λ k. absurd (omega (arith, on_from false (at + 1) 0 0 v))
from_near {at} (lf {v} e) false from tabs spaces = λ k. absurd (omega (arith, on_from false (at + 1) 0 0 v))
from_near {at} (cr {v} e f g) true from tabs spaces = λ k. absurd (omega (arith, on_from false (at + 1) 0 0 v))
from_near {at} (cr {v} e f g) false from tabs spaces = λ k. absurd (omega (arith, on_from false (at + 1) 0 0 v))
from_near {end} {at} (more {l} {l'} c h) true from tabs spaces =
    choose_three (Alike end) (not_newline c) (λ _. from_near h true from 0 0)
    (λ _ k z. ap (λ (x : List Spanned). spanned K.comment from at ∷ x)
    (near_newline (blanks_from false (at + width c) 0 0 l) at at c (λ b. notes_from false b (at + width c) l) (λ b. notes_from false b (at + width c) l') h (λ b. from_near h false b 0 0) k z))
from_near {end} {at} (more {l} {l'} c h) false from tabs spaces =
    let R = Alike end in
    choose_three R (eqb c (code " ")) (λ _. from_near h false (at + width c) tabs (spaces + 1))
    (λ _. choose_three R (eqb c (code "\t"))
    (λ _. choose_keeps (λ (m : Result Margin Margin). R m (notes_from false (at + width c) (at + width c) l) (notes_from false (at + width c) (at + width c) l')) (eqb spaces 0)
    (λ _. from_near h false (at + width c) (tabs + 1) spaces) (λ _ k z. absurd (true_is_not_false (sym z))))
    (λ _. choose_three R (eqb c (code "#")) (λ _. from_near h true at 0 0)
    (λ _. choose_three R (eqb c (code "\u{c}")) (λ _. from_near h false (at + width c) 0 0)
    (λ _. choose_three R (not_newline c) (λ _ k z. refl)
    (λ _. near_newline (blanks_from false (at + width c) 0 0 l) from at c (λ b. notes_from false b (at + width c) l) (λ b. notes_from false b (at + width c) l') h (λ b. from_near h false b 0 0))))))

near : {end : ℕ} {p p' : Place} → Beside end p p' → stop (blanks p) < end → is_ok (blanks p) ≡ true → notes p' ≡ notes p
unfolding blanks notes
near (beside {at} h) = from_near h false at 0 0

pub notes_near : {end : ℕ} {p p' : Place} → Beside end p p' → (m : Margin) → blanks p ≡ Ok m → m.at < end → notes p' ≡ notes p
notes_near {end} b m e k = near b (subst (λ (r : Result Margin Margin). stop r < end) (sym e) k) (ap is_ok e)
