-- Runs that stay in their line: those of a class with neither LF nor CR, as blanks and names are.
-- Assumes nothing.
use Prim.Native.Nat.{ℕ, ◌+◌}
use Prim.Native.Char.{code}
use mathlib.Core.Path.{◌≡◌, refl, sym, ◌∙◌, ap}
use mathlib.Core.List.{List, [], ◌∷◌}
use mathlib.Core.Bool.{Bool, true, false}
use native.Mathlib.Omega.{arith}
use lib.ListN.{drop}
use Rattle.choice.proofs.Laws.{choose_keeps, true_is_not_false}
use Rattle.utf8.specs.Chars.{chars, width}
use Rattle.lines.specs.Lines.{line_at}
use Rattle.lines.proofs.Chars.{char_line}
use Rattle.window.specs.Place.{Place, place_at}
use Rattle.window.proofs.Within.{first}
use Rattle.classes.specs.Classes.{is_identifier_continuation}
use Rattle.classes.specs.Promises.{is_ascii_continuation}
use Rattle.classes.proofs.Laws.{ascii_continue}
use Rattle.names.specs.Runs.{skip_from, skip_while, is_blank}

module _ (f : ℕ → Bool) (no_lf : f (code "\n") ≡ false) (no_cr : f (code "\r") ≡ false) (t : List ℕ) where
  -- a character of the class is none of them
  not_in : (c d : ℕ) → f d ≡ false → f c ≡ true → c ≡ d → ⊥
  not_in c d n e z = true_is_not_false (sym e ∙ ap f z ∙ n)

  run_from_lem : (l : List ℕ) (at : ℕ) → chars (drop at t) ≡ l → line_at t (skip_from f at l).at ≡ line_at t at
  unfolding skip_from
  run_from_lem [] at e = refl
  run_from_lem (c ∷ r) at e =
      choose_keeps (λ (q : Place). line_at t q.at ≡ line_at t at) (f c)
      (λ p. run_from_lem r (at + width c) (first t at c r e).rest ∙ char_line t at c r e (not_in c (code "\n") no_lf p) (not_in c (code "\r") no_cr p))
      (λ p. refl)

  run_line : (at : ℕ) → line_at t (skip_while f (place_at t at)).at ≡ line_at t at
  unfolding skip_while
  run_line at = run_from_lem (chars (drop at t)) at refl

module _ (t : List ℕ) (at : ℕ) where
  pub blank_line : line_at t (skip_while is_blank (place_at t at)).at ≡ line_at t at
  unfolding is_blank
  blank_line = run_line is_blank refl refl t at

  pub name_line : line_at t (skip_while is_identifier_continuation (place_at t at)).at ≡ line_at t at
  unfolding is_ascii_continuation
  name_line = run_line is_identifier_continuation (ascii_continue (code "\n") (omega arith)) (ascii_continue (code "\r") (omega arith)) t at
