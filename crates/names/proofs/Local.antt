-- A newline blocks look-ahead: runs of a class without newlines, and names, are the same from near places on.
-- Assumes nothing.
use Prim.Native.Nat.{ℕ}
use Prim.Native.Char.{code}
use mathlib.Core.Path.{◌≡◌, refl, ap, ap₂}
use mathlib.Core.List.{List, ◌∷◌}
use mathlib.Core.Bool.{Bool, false}
use native.Mathlib.Omega.{arith}
use Rattle.choice.proofs.Laws.{choose_both}
use Rattle.window.specs.Place.{Place}
use Rattle.window.proofs.Near.{Near, Beside, same_at}
use Rattle.window.proofs.Near.Near.{lf, cr, more}
use Rattle.window.proofs.Near.Beside.{beside}
use Rattle.token.specs.declared.Item.TheVariants.{Tok}
use Rattle.classes.specs.Classes.{is_identifier_continuation}
use Rattle.classes.specs.Promises.{is_ascii_continuation}
use Rattle.classes.proofs.Laws.{ascii_continue}
use Rattle.names.specs.Runs.{skip_from, skip_while, taken, is_newline, not_newline, is_blank}
use Rattle.names.specs.Names.{name_token, name_at}

-- ---- a class without newlines
module _ (f : ℕ → Bool) (no_lf : f (code "\n") ≡ false) (no_cr : f (code "\r") ≡ false) {end : ℕ} where
  -- a run ends beside its like
  run_near : {at : ℕ} {l l' : List ℕ} → Near end at l l' → Beside end (skip_from f at l) (skip_from f at l')
  unfolding skip_from
  run_near (lf e) = rw no_lf (beside (lf e))
  run_near (cr e g h) = rw no_cr (beside (cr e g h))
  run_near (more c h) = choose_both (Beside end) (f c) (λ _. run_near h) (λ _. beside (more c h))

  pub skip_near : {p p' : Place} → Beside end p p' → Beside end (skip_while f p) (skip_while f p')
  unfolding skip_while
  skip_near (beside h) = run_near h

  -- with the same characters
  pub taken_near : {at : ℕ} {l l' : List ℕ} → Near end at l l' → taken f l' ≡ taken f l
  unfolding taken
  taken_near (lf e) = rw no_lf
  taken_near (cr e g h) = rw no_cr
  taken_near (more c h) = choose_both (λ x x'. x' ≡ x) (f c) (λ _. ap (λ l. c ∷ l) (taken_near h)) (λ _. refl)

-- ---- blanks, comments and names
module _ {end : ℕ} {p p' : Place} (h : Beside end p p') where
  -- blanks and comments end at the same byte
  pub blank_near : (skip_while is_blank p').at ≡ (skip_while is_blank p).at
  unfolding is_blank
  blank_near = same_at (skip_near is_blank refl refl h)

  pub comment_near : (skip_while not_newline p').at ≡ (skip_while not_newline p).at
  unfolding not_newline is_newline
  comment_near = same_at (skip_near not_newline refl refl h)

-- a name is the same
pub name_near : {end : ℕ} {p p' : Place} → Beside end p p' → name_at p' ≡ name_at p
unfolding name_at is_ascii_continuation
name_near (beside h) =
    let m : is_identifier_continuation (code "\n") ≡ false = ascii_continue (code "\n") (omega arith) in
    let n : is_identifier_continuation (code "\r") ≡ false = ascii_continue (code "\r") (omega arith) in
    ap₂ (λ w e. Tok (name_token w) e) (taken_near is_identifier_continuation m n h) (same_at (skip_near is_identifier_continuation m n (beside h)))
