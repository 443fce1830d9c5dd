-- A newline blocks look-ahead: blanks from near places on that end before the cut's end are the same. A count that passes the cut's
-- newline ends behind it.
-- Assumes nothing.
use Prim.Native.Nat.{ℕ, ◌+◌, ◌<◌, ◌≤◌}
use Prim.Native.Char.{code}
use mathlib.Core.Path.{◌≡◌, refl}
use mathlib.Core.List.{List, [], ◌∷◌}
use mathlib.Core.Bool.{Bool, true, false}
use native.Mathlib.Omega.{arith}
use lib.Dec.{eqb}
use Rattle.std.specs.Prelude.{Result, Ok, Err}
use Rattle.choice.proofs.Laws.{choose_keeps, choose_both}
use Rattle.utf8.specs.Chars.{width}
use Rattle.window.specs.Place.{Place}
use Rattle.window.proofs.Near.{Near, Beside}
use Rattle.window.proofs.Near.Near.{lf, cr, more}
use Rattle.window.proofs.Near.Beside.{beside}
use Rattle.indentation.specs.declared.Margin.{Margin}
use Rattle.names.specs.Runs.{is_newline, not_newline}
use Rattle.indentation.specs.Blanks.{blanks_from, blanks}

-- what was counted, to the end of the blanks or to a tab after a space; and where the count stops
abbrev pub margin_of : Result Margin Margin → Margin
margin_of (Ok m) = m
margin_of (Err m) = m

abbrev pub stop : Result Margin Margin → ℕ
stop r = (margin_of r).at

-- a count goes forward
pub on_from : (comment : Bool) (at tabs spaces : ℕ) (l : List ℕ) → at ≤ stop (blanks_from comment at tabs spaces l)
unfolding blanks_from
on_from comment at tabs spaces [] = omega arith
on_from true at tabs spaces (c ∷ r) =
    choose_keeps (λ (m : Result Margin Margin). at ≤ stop m) (not_newline c) (λ _. omega (arith, on_from true (at + width c) 0 0 r)) (λ _. omega (arith, on_from false (at + width c) 0 0 r))
on_from false at tabs spaces (c ∷ r) =
    let P : Result Margin Margin → Type 0 = λ m. at ≤ stop m in
    choose_keeps P (eqb c (code " ")) (λ _. omega (arith, on_from false (at + width c) tabs (spaces + 1) r))
    (λ _. choose_keeps P (eqb c (code "\t")) (λ _. choose_keeps P (eqb spaces 0) (λ _. omega (arith, on_from false (at + width c) (tabs + 1) spaces r)) (λ _. omega arith))
    (λ _. choose_keeps P (eqb c (code "#")) (λ _. omega (arith, on_from true (at + width c) 0 0 r))
    (λ _. choose_keeps P (eqb c (code "\u{c}")) (λ _. omega (arith, on_from false (at + width c) 0 0 r))
    (λ _. choose_keeps P (not_newline c) (λ _. omega arith) (λ _. omega (arith, on_from false (at + width c) 0 0 r))))))

-- where the first ends before `end`, the second is the same
abbrev Alike : ℕ → Result Margin Margin → Result Margin Margin → Type 0
Alike end m m' = stop m < end → m' ≡ m

from_near : {end at : ℕ} {l l' : List ℕ} → Near end at l l' → (comment : Bool) (tabs spaces : ℕ)
    → Alike end (blanks_from comment at tabs spaces l) (blanks_from comment at tabs spaces l')
unfolding blanks_from not_newline is_newline width
from_near {at} (lf {v} e) true tabs spaces = λ k. absurd (omega (arith, on_from false (at + 1) 0 0 v))
from_near {at} (lf {v} e) false tabs spaces = λ k. absurd (omega (arith, on_from false (at + 1) 0 0 v))
from_near {at} (cr {v} e f g) true tabs spaces = λ k. absurd (omega (arith, on_from false (at + 1) 0 0 v))
from_near {at} (cr {v} e f g) false tabs spaces = λ k. absurd (omega (arith, on_from false (at + 1) 0 0 v))
from_near {end} (more c h) true tabs spaces =
    choose_both (Alike end) (not_newline c) (λ _. from_near h true 0 0) (λ _. from_near h false 0 0)
from_near {end} (more c h) false tabs spaces =
    choose_both (Alike end) (eqb c (code " ")) (λ _. from_near h false tabs (spaces + 1))
    (λ _. choose_both (Alike end) (eqb c (code "\t")) (λ _. choose_both (Alike end) (eqb spaces 0) (λ _. from_near h false (tabs + 1) spaces) (λ _ _. refl))
    (λ _. choose_both (Alike end) (eqb c (code "#")) (λ _. from_near h true 0 0)
    (λ _. choose_both (Alike end) (eqb c (code "\u{c}")) (λ _. from_near h false 0 0)
    (λ _. choose_both (Alike end) (not_newline c) (λ _ _. refl) (λ _. from_near h false 0 0)))))

-- the blanks from a line's start on
pub blanks_near : {end : ℕ} {p p' : Place} → Beside end p p' → stop (blanks p) < end → blanks p' ≡ blanks p
unfolding blanks
blanks_near (beside h) k = from_near h false 0 0 k
