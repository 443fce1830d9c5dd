-- Literals go forward and stay within the text.
-- Assumes nothing.
use Prim.Native.Nat.{ℕ, zero, suc, ◌+◌, ◌<◌, ◌≤◌}
use Prim.Native.Char.{code}
use mathlib.Core.Path.{◌≡◌, refl, sym, subst}
use mathlib.Core.List.{List, [], ◌∷◌}
use mathlib.Core.Bool.{Bool, true, false}
use native.Mathlib.Omega.{arith}
use lib.Dec.{eqb}
use lib.ListN.{length, get_or, drop}
use Rattle.choice.proofs.Laws.{choose_keeps, both_right, true_is_not_false}
use Rattle.choice.specs.Choice.{both}
use Rattle.utf8.specs.Chars.{chars, width, no_char}
use Rattle.window.specs.Place.{place_at, nth}
use Rattle.token.specs.declared.StringKind.{StringKind}
use Rattle.token.specs.declared.Item.{Item}
use Rattle.token.specs.declared.Item.TheVariants.{Tok, Gap, End, Error}
use Rattle.window.proofs.Within.{first}
use Rattle.strings.specs.Strings.{is_quote, length_of_next, triple_at, breaks, closes, quotes, body_from, body, string_at}
use Rattle.strings.proofs.Bodies.{quote_small, quote_in, tripled_all, one_on, three_on}

-- a token ends behind the place, an ending stands at or behind it, both within the text; and there is nothing else
unfoldable pub Within : List ℕ → ℕ → Item → Type 0
Within t at (Tok k e) = (at < e) × (e ≤ length t)
Within t at (Error x e) = (at ≤ e) × (e ≤ length t)
Within t at (Gap e) = ⊥
Within t at End = ⊥

-- what lies behind a later place lies behind an earlier one
wider : (t : List ℕ) (at i : ℕ) (x : Item) → at ≤ i → Within t i x → Within t at x
unfolding Within
wider t at i (Tok k e) h w = (omega arith, omega arith)
wider t at i (Error y e) h w = (omega arith, omega arith)
wider t at i (Gap e) h w = w
wider t at i End h w = w

module _ (t : List ℕ) where
  -- two characters, and three, are as many bytes or more
  two_fit : (at c d : ℕ) (r : List ℕ) → chars (drop at t) ≡ c ∷ (d ∷ r) → at + 2 ≤ length t
  two_fit at c d r e = let p = first t at c (d ∷ r) e in let q = first t (at + width c) d r p.rest in omega arith

  three_fit : (at c d f : ℕ) (r : List ℕ) → chars (drop at t) ≡ c ∷ (d ∷ (f ∷ r)) → at + 3 ≤ length t
  three_fit at c d f r e = let p = first t at c (d ∷ (f ∷ r)) e in omega (arith, two_fit (at + width c) d f r p.rest)

  -- so is a newline, CR LF or other
  along_fits : (at c : ℕ) (r : List ℕ) → chars (drop at t) ≡ c ∷ r → (at ≤ at + length_of_next (c ∷ r)) × (at + length_of_next (c ∷ r) ≤ length t)
  unfolding length_of_next
  along_fits at c r e =
      let p = first t at c r e in
      choose_keeps (λ n. (at ≤ at + n) × (at + n ≤ length t)) (both (eqb c (code "\r")) (eqb (get_or r 0 no_char) (code "\n")))
      (λ f. (omega arith, two r e (both_right (eqb c (code "\r")) _ f))) (λ _. (omega arith, omega arith))
    where
      two : (r : List ℕ) → chars (drop at t) ≡ c ∷ r → eqb (get_or r 0 no_char) (code "\n") ≡ true → at + 2 ≤ length t
      two [] e f = absurd (true_is_not_false (sym f))
      two (d ∷ r) e f = two_fit at c d r e

  -- so are three quotes, and what closes a literal
  triple_fits : (q at : ℕ) (l : List ℕ) → chars (drop at t) ≡ l → triple_at q l ≡ true → q < no_char → at + 3 ≤ length t
  triple_fits q at [] e h k = absurd (omega (arith, tripled_all q [] h))
  triple_fits q at (c ∷ []) e h k = absurd (omega (arith, tripled_all q (c ∷ []) h))
  triple_fits q at (c ∷ (d ∷ [])) e h k = absurd (omega (arith, tripled_all q (c ∷ (d ∷ [])) h))
  triple_fits q at (c ∷ (d ∷ (f ∷ r))) e h k = three_fit at c d f r e

  module _ (k : StringKind) (q : ℕ) (small : q < no_char) where
    close_fits : (three : Bool) (at c : ℕ) (r : List ℕ) → chars (drop at t) ≡ c ∷ r → closes three q (c ∷ r) ≡ true → (at < at + quotes three) × (at + quotes three ≤ length t)
    unfolding closes
    close_fits true at c r e h = (omega arith, triple_fits q at (c ∷ r) e h small)
    close_fits false at c r e h = let p = first t at c r e in (omega arith, omega arith)

    -- a literal from its body on, character by character
    within_from : (three : Bool) (l : List ℕ) (skip at : ℕ) → chars (drop at t) ≡ l → at ≤ length t → Within t at (body_from k three q skip at l)
    unfolding body_from Within
    within_from three [] skip at e h = (omega arith, omega arith)
    within_from three (c ∷ r) (suc skip) at e h =
        let p = first t at c r e in
        wider t at (at + width c) (body_from k three q skip (at + width c) r) (omega arith) (within_from three r skip (at + width c) p.rest p.fits)
    within_from three (c ∷ r) zero at e h =
        let p = first t at c r e in
        let on : (skip : ℕ) → Within t at (body_from k three q skip (at + width c) r) = λ skip. wider t at (at + width c) (body_from k three q skip (at + width c) r) (omega arith) (within_from three r skip (at + width c) p.rest p.fits) in
        choose_keeps (Within t at) (eqb c (code "\\")) (λ _. on (length_of_next r))
        (λ _. choose_keeps (Within t at) (breaks three c) (λ _. along_fits at c r e)
        (λ _. choose_keeps (Within t at) (closes three q (c ∷ r)) (λ f. close_fits three at c r e f) (λ _. on 0)))

    pub body_within : (three : Bool) (at : ℕ) → at ≤ length t → Within t at (body k three q (place_at t at))
    unfolding body
    body_within three at h = within_from three (chars (drop at t)) 0 at refl h

  -- a literal, from its opening quote on
  module _ (at : ℕ) (k : StringKind) (quote : is_quote (nth (place_at t at) 0) ≡ true) where
    pub string_within : Within t at (string_at k (place_at t at))
    unfolding string_at
    string_within =
        let q = nth (place_at t at) 0 in
        let n = quote_small q quote in
        choose_keeps (Within t at) (triple_at q (place_at t at).rest)
        (λ e. subst (λ p. Within t at (body k true q p)) (three_on t at quote e) (wider t at (at + 3) _ (omega arith) (body_within k q (omega arith) true (at + 3) (triple_fits q at _ refl e (omega arith)))))
        (λ _. subst (λ p. Within t at (body k false q p)) (one_on t at quote) (wider t at (at + 1) _ (omega arith) (body_within k q (omega arith) false (at + 1) (omega (arith, quote_in t at quote)))))
