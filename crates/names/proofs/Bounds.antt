-- Runs go forward and stay within the text.
-- Assumes nothing.
use Prim.Native.Nat.{ℕ, ◌+◌, ◌<◌, ◌≤◌}
use Prim.Native.Char.{code}
use mathlib.Core.Path.{◌≡◌, refl, sym, ◌∙◌, ap}
use mathlib.Core.List.{List, [], ◌∷◌}
use mathlib.Core.Bool.{Bool, true, false}
use native.Mathlib.Omega.{arith}
use lib.ListN.{length, get_or, drop}
use Rattle.choice.proofs.Laws.{choose_keeps, true_is_not_false}
use Rattle.utf8.specs.Chars.{chars, width, no_char}
use Rattle.window.specs.Place.{Place, place_at, nth}
use Rattle.window.proofs.Laws.{here, this_nth}
use Rattle.window.proofs.Within.{first}
use Rattle.token.specs.declared.Token.{Token}
use Rattle.token.specs.declared.Item.TheVariants.{Tok}
use Rattle.classes.specs.Classes.{is_identifier_start, is_identifier_continuation}
use Rattle.classes.proofs.Laws.{start_continues, no_continue_beyond}
use Rattle.names.specs.Runs.{skip_from, skip_while, is_newline, not_newline}
use Rattle.names.specs.Names.{name_at}

-- ---- a run ends at or behind its start, and within the text
module _ (f : ℕ → Bool) (t : List ℕ) where
  -- the same, character by character
  pub within_from : (l : List ℕ) (at : ℕ) → chars (drop at t) ≡ l → at ≤ length t → (at ≤ (skip_from f at l).at) × ((skip_from f at l).at ≤ length t)
  unfolding skip_from
  within_from [] at e h = (omega arith, omega arith)
  within_from (c ∷ r) at e h =
      choose_keeps (λ (x : Place). (at ≤ x.at) × (x.at ≤ length t)) (f c)
      (λ p.
      let n = first t at c r e in
      let w = within_from r (at + width c) n.rest n.fits in
      (omega arith, omega arith))
      (λ p. (omega arith, omega arith))

  module _ (at : ℕ) where
    pub skip_within : at ≤ length t → (at ≤ (skip_while f (place_at t at)).at) × ((skip_while f (place_at t at)).at ≤ length t)
    unfolding skip_while
    skip_within h = within_from (chars (drop at t)) at refl h

    -- a run that begins at all goes forward
    pub run_forward : (nth (place_at t at) 0 ≡ no_char → ⊥) → f (nth (place_at t at) 0) ≡ true → (at < (skip_while f (place_at t at)).at) × ((skip_while f (place_at t at)).at ≤ length t)
    unfolding skip_while skip_from
    run_forward n e =
        let c = nth (place_at t at) 0 in
        let h = here t at c refl n in
        let w = within_from (chars (drop (at + width c) t)) (at + width c) refl h.fits in
        rw h.list (simp e (omega arith, omega arith))

    -- and does where the class has nothing past the last character
    pub skip_forward : f no_char ≡ false → f (nth (place_at t at) 0) ≡ true → (at < (skip_while f (place_at t at)).at) × ((skip_while f (place_at t at)).at ≤ length t)
    skip_forward n e = run_forward (λ z. true_is_not_false (sym e ∙ ap f z ∙ n)) e

-- a comment goes forward
pub comment_forward : (t : List ℕ) (at e : ℕ) → place_at t e ≡ skip_while not_newline (place_at t at) → at < length t → get_or t at 0 ≡ code "#" → (at < e) × (e ≤ length t)
unfolding not_newline is_newline
comment_forward t at e p h b =
    let c : nth (place_at t at) 0 ≡ code "#" = this_nth t at h (omega arith) ∙ b in
    let q = ap (λ (x : Place). x.at) p in
    let w = run_forward not_newline t at (λ z. omega arith) (ap not_newline c) in
    (omega arith, omega arith)

-- a name goes forward
pub name_forward : (t : List ℕ) (at e : ℕ) (k : Token) → is_identifier_start (nth (place_at t at) 0) ≡ true → name_at (place_at t at) ≡ Tok k e → (at < e) × (e ≤ length t)
unfolding name_at
name_forward t at e k s p =
    let w = skip_forward is_identifier_continuation t at (no_continue_beyond no_char (omega arith)) (start_continues _ s) in
    let q : (skip_while is_identifier_continuation (place_at t at)).at ≡ e = cc in
    (omega arith, omega arith)
