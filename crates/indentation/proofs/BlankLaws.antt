-- Laws of the blanks at a line's start: the turns of the loop over bytes.
-- Assumes nothing.
use Prim.Native.Nat.{ℕ, ◌+◌, ◌-◌, ◌<◌, ◌≤◌}
use Prim.Native.Char.{code}
use mathlib.Core.Path.{◌≡◌, refl, sym, ◌∙◌, ap}
use mathlib.Core.List.{List, [], ◌∷◌}
use mathlib.Core.Bool.{true, false}
use mathlib.Core.Logic.{◌⊎◌, inl, inr}
use native.Mathlib.Omega.{arith}
use native.Mathlib.Decide.{dec_lt}
use borrow.Author.Tests.{eq-eqb, ne_eqb}
use lib.ListN.{length, get_or, drop}
use Rattle.std.specs.Prelude.{Result}
use Rattle.choice.proofs.Laws.{choose_both}
use Rattle.utf8.specs.Chars.{chars, width}
use Rattle.utf8.proofs.Pass.{plain, none, found}
use Rattle.utf8.proofs.Bytes.{get_or_any}
use Rattle.window.specs.Place.{Place, place_at}
use Rattle.indentation.specs.declared.Margin.{Margin}
use Rattle.names.specs.Runs.{skip_from, skip_while, is_newline, not_newline}
use Rattle.names.proofs.Laws.{in_line, breaks}
use Rattle.names.proofs.Bounds.{comment_forward}
use Rattle.indentation.specs.Blanks.{counted, stopped, blanks_from, blanks}

-- a byte below 0x80 is the first character
pub first_is : (t : List ℕ) (i b : ℕ) → i < length t → b < 0x80 → get_or t i 0 ≡ b → chars (drop i t) ≡ b ∷ chars (drop (i + 1) t)
first_is t i b h k e = plain t i h (omega arith) ∙ ap (λ x. x ∷ chars (drop (i + 1) t)) e

-- behind a comment the blanks are those from the end of its line on
break_over : (at c : ℕ) (r : List ℕ) → (c ≡ code "\n") ⊎ (c ≡ code "\r") → blanks_from false at 0 0 (c ∷ r) ≡ blanks_from false (at + width c) 0 0 r
unfolding blanks_from not_newline is_newline
break_over at c r (inl e) = rw e
break_over at c r (inr e) = rw e

after_from : (at : ℕ) (l : List ℕ) → blanks (skip_from not_newline at l) ≡ blanks_from true at 0 0 l
unfolding blanks skip_from blanks_from
after_from at [] = refl
after_from at (c ∷ r) =
    choose_both (λ (q : Place) (m : Result Margin Margin). blanks q ≡ m) (not_newline c) (λ _. after_from (at + width c) r) (λ e. break_over at c r (breaks c e))

-- ---- eat_indentation, with the blanks counted so far
on_other : (at tabs spaces c : ℕ) (r : List ℕ) → (c ≡ code " " → ⊥) → (c ≡ code "\t" → ⊥) → (c ≡ code "#" → ⊥) → (c ≡ code "\u{c}" → ⊥) → (c ≡ code "\n" → ⊥) → (c ≡ code "\r" → ⊥)
    → blanks_from false at tabs spaces (c ∷ r) ≡ counted at tabs spaces
unfolding blanks_from
on_other at tabs spaces x r a b c d e f = simp (ne_eqb x (code " ") a, ne_eqb x (code "\t") b, ne_eqb x (code "#") c, ne_eqb x (code "\u{c}") d, in_line x e f)

module _ (t : List ℕ) (i tabs spaces : ℕ) (q : Result Margin Margin) (w : blanks_from false i tabs spaces (chars (drop i t)) ≡ q) where
  pub blanks_end : length t ≤ i → counted i 0 0 ≡ q
  unfolding blanks_from
  blanks_end h = sym (ap (blanks_from false i tabs spaces) (none t i h)) ∙ w

  module _ (h : i < length t) where
    at_byte : (b : ℕ) → b < 0x80 → get_or t i 0 ≡ b → blanks_from false i tabs spaces (b ∷ chars (drop (i + 1) t)) ≡ q
    at_byte b k e = sym (ap (blanks_from false i tabs spaces) (first_is t i b h k e)) ∙ w

    pub blanks_space : get_or t i 0 ≡ code " " → blanks_from false (i + 1) tabs (spaces + 1) (chars (drop (i + 1) t)) ≡ q
    unfolding blanks_from width
    blanks_space e = at_byte (code " ") (omega arith) e

    pub blanks_tab : get_or t i 0 ≡ code "\t" → spaces ≡ 0 → blanks_from false (i + 1) (tabs + 1) spaces (chars (drop (i + 1) t)) ≡ q
    unfolding blanks_from width
    blanks_tab e z = simp (eq-eqb spaces 0 z) at (at_byte (code "\t") (omega arith) e)

    pub blanks_bad : get_or t i 0 ≡ code "\t" → (spaces ≡ 0 → ⊥) → stopped i tabs spaces ≡ q
    unfolding blanks_from width
    blanks_bad e z = simp (ne_eqb spaces 0 z) at (at_byte (code "\t") (omega arith) e)

    pub blanks_comment : (n : ℕ) → place_at t n ≡ skip_while not_newline (place_at t i) → get_or t i 0 ≡ code "#" → blanks_from false n 0 0 (chars (drop n t)) ≡ q
    unfolding blanks blanks_from skip_while skip_from not_newline is_newline width
    blanks_comment n p e =
        ap blanks p ∙ ap (λ l. blanks (skip_from not_newline i l)) (first_is t i (code "#") h (omega arith) e) ∙ after_from (i + 1) (chars (drop (i + 1) t)) ∙ at_byte (code "#") (omega arith) e

    pub blanks_feed : get_or t i 0 ≡ code "\u{c}" → blanks_from false (i + 1) 0 0 (chars (drop (i + 1) t)) ≡ q
    unfolding blanks_from width
    blanks_feed e = at_byte (code "\u{c}") (omega arith) e

    pub blanks_lf : get_or t i 0 ≡ code "\n" → blanks_from false (i + 1) 0 0 (chars (drop (i + 1) t)) ≡ q
    unfolding blanks_from not_newline is_newline width
    blanks_lf e = at_byte (code "\n") (omega arith) e

    pub blanks_cr : get_or t i 0 ≡ code "\r" → blanks_from false (i + 1) 0 0 (chars (drop (i + 1) t)) ≡ q
    unfolding blanks_from not_newline is_newline width
    blanks_cr e = at_byte (code "\r") (omega arith) e

    pub blanks_newline : (get_or t i 0 ≡ code "\n") ⊎ (get_or t i 0 ≡ code "\r") → blanks_from false (i + 1) 0 0 (chars (drop (i + 1) t)) ≡ q
    blanks_newline (inl e) = blanks_lf e
    blanks_newline (inr e) = blanks_cr e

    pub blanks_other : (get_or t i 0 ≡ code " " → ⊥) → (get_or t i 0 ≡ code "\t" → ⊥) → (get_or t i 0 ≡ code "#" → ⊥) → (get_or t i 0 ≡ code "\u{c}" → ⊥) → (get_or t i 0 ≡ code "\n" → ⊥) → (get_or t i 0 ≡ code "\r" → ⊥)
        → counted i tabs spaces ≡ q
    blanks_other a b c d e f = go (dec_lt (get_or t i 0) 0x80)
      where
        go : Dec (get_or t i 0 < 0x80) → counted i tabs spaces ≡ q
        go (yes k) = sym (on_other i tabs spaces (get_or t i 0) _ a b c d e f) ∙ at_byte (get_or t i 0) k refl
        go (no k) =
            let y = found t i h in
            let v = get_or_any t i 256 0 h in
            let m = y.high (omega arith) in
            sym (on_other i tabs spaces y.c _ (λ z. omega arith) (λ z. omega arith) (λ z. omega arith) (λ z. omega arith) (λ z. omega arith) (λ z. omega arith))
            ∙ sym (ap (blanks_from false i tabs spaces) y.here.list) ∙ w

-- past a comment less is left
pub comment_less : (t : List ℕ) (i n : ℕ) → place_at t n ≡ skip_while not_newline (place_at t i) → i < length t → get_or t i 0 ≡ code "#" → length t - n < length t - i
comment_less t i n p h e = omega (arith, comment_forward t i n p h e)
