-- A newline blocks look-ahead: the operator that three characters begin is the same at near places. No operator has a newline, and
-- none is looked for behind one.
-- Assumes nothing.
use mathlib.Core.Path.{◌≡◌, refl}
use Prim.Native.Nat.{ℕ}
use Rattle.window.specs.Place.{Place, nth}
use Rattle.window.proofs.Near.{Beside}
use Rattle.window.proofs.Near.Near.{lf, cr, more}
use Rattle.window.proofs.Near.Beside.{beside}
use Rattle.operators.specs.Operators.{before_equal, doubled, dash, exclamation, dots, single, longest_operator}

pub operator_near : {end : ℕ} {p p' : Place} → Beside end p p' → longest_operator (nth p' 0) (nth p' 1) (nth p' 2) ≡ longest_operator (nth p 0) (nth p 1) (nth p 2)
unfolding longest_operator before_equal doubled dash exclamation dots single
operator_near (beside (lf e)) = refl
operator_near (beside (cr e f g)) = refl
operator_near (beside (more c (lf e))) = refl
operator_near (beside (more c (cr e f g))) = refl
operator_near (beside (more c (more d (lf e)))) = refl
operator_near (beside (more c (more d (cr e f g)))) = refl
operator_near (beside (more c (more d (more x h)))) = refl
