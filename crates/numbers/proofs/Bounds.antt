-- A number ends after its start and within the text, and so does a refusal, whose place may be the start.
-- Assumes nothing.
use Prim.Native.Nat.{ℕ, ◌+◌, ◌-◌, ◌<◌, ◌≤◌}
use Prim.Native.Char.{code}
use mathlib.Core.Path.{◌≡◌, refl, sym, ◌∙◌, ap, subst}
use mathlib.Core.List.{List, [], ◌∷◌}
use mathlib.Core.Bool.{true, false}
use mathlib.Core.Logic.{◌⊎◌, inl, inr, ⊎_elim}
use native.Mathlib.Omega.{arith}
use borrow.Author.Tests.{eqb-true, lt-ltb, le-ltb, lt-leb, ltb-false}
use lib.Dec.{eqb, ltb, leb}
use lib.ListN.{length, get_or}
use Rattle.choice.proofs.Laws.{choose_keeps, true_is_not_false}
use Rattle.utf8.specs.Chars.{width, no_char}
use Rattle.window.specs.Place.{Place, place_at, nth, slid, window}
use Rattle.window.proofs.Laws.{here, slid_le}
use Rattle.window.proofs.Within.{Within, within_at, within_on, within_slid, slid_lt}
use Rattle.numbers.specs.Numbers.{digit_value, is_digit, in_run, digits_from, digits, is_letter, is_sign, at_exponent, float_end, exponent_digits, exponent_sign, exponent, after_fraction, fraction, integer, after_digits, normal_number, radix_number, radix_of, number_at}
use Rattle.numbers.proofs.Laws.{run_on, run_stop}
use Rattle.token.specs.declared.Item.{Item}
use Rattle.token.specs.declared.Item.TheVariants.{Tok, Gap, End, Error}

-- a token that ends after `low`, or a refusal from `low` on, at most at `high`; nothing else
abbrev pub Ends : ℕ → ℕ → Item → Type 0
Ends low high (Tok k e) = (low < e) × (e ≤ high)
Ends low high (Gap e) = ⊥
Ends low high End = ⊥
Ends low high (Error w e) = (low ≤ e) × (e ≤ high)

-- ---- a run of digits leads on within the text
digits_by : (t : List ℕ) (radix at : ℕ) (l : List ℕ) → Within t (record { at = at; rest = l }) → Within t (digits_from radix at l) × (at ≤ (digits_from radix at l).at)
unfolding digits_from
digits_by t radix at [] w = (w, omega arith)
digits_by t radix at (c ∷ r) w =
    choose_keeps (λ (q : Place). Within t q × (at ≤ q.at)) (in_run radix c (get_or r 0 no_char))
    (λ e. let d = digits_by t radix (at + width c) r (within_on t at c r w).0 in (d.0, omega arith))
    (λ e. (w, omega arith))

run_within : (t : List ℕ) (radix : ℕ) (p : Place) → Within t p → Within t (digits radix p) × (p.at ≤ (digits radix p).at)
unfolding digits
run_within t radix p w = digits_by t radix p.at p.rest w

module _ (t : List ℕ) (low : ℕ) where
  float_ends : (p : Place) → Within t p → low < p.at → Ends low (length t) (float_end p)
  unfolding float_end
  float_ends p w h =
      choose_keeps (Ends low (length t)) (is_letter (code "j") (nth p 0)) (λ e. (omega (arith, slid_le p), (within_slid t p w).fits)) (λ e. (h, w.fits))

  power_ends : (p : Place) → Within t p → low < p.at → Ends low (length t) (exponent_digits p)
  unfolding exponent_digits
  power_ends p w h =
      let d = run_within t 10 p w in
      choose_keeps (Ends low (length t)) (eqb (digits 10 p).at p.at) (λ e. (omega arith, w.fits)) (λ e. float_ends (digits 10 p) d.0 (omega arith))

  sign_ends : (p : Place) → Within t p → low < p.at → Ends low (length t) (exponent_sign p)
  unfolding exponent_sign
  sign_ends p w h =
      choose_keeps (Ends low (length t)) (is_sign (nth p 0))
      (λ e. choose_keeps (Ends low (length t)) (eqb (nth p 1) (code "_")) (λ f. (omega arith, w.fits)) (λ f. power_ends (slid p) (within_slid t p w) (omega (arith, slid_le p))))
      (λ e. power_ends p w h)

  exponent_ends : (p : Place) → Within t p → low < p.at → Ends low (length t) (exponent p)
  unfolding exponent
  exponent_ends p w h =
      choose_keeps (Ends low (length t)) (eqb (nth p 1) (code "_")) (λ f. (omega arith, w.fits)) (λ f. sign_ends (slid p) (within_slid t p w) (omega (arith, slid_le p)))

  after_ends : (p : Place) → Within t p → low < p.at → Ends low (length t) (after_fraction p)
  unfolding after_fraction
  after_ends p w h = choose_keeps (Ends low (length t)) (is_letter (code "e") (nth p 0)) (λ e. exponent_ends p w h) (λ e. float_ends p w h)

  fraction_ends : (p : Place) → Within t p → low ≤ p.at → low < (slid p).at → Ends low (length t) (fraction p)
  unfolding fraction
  fraction_ends p w h k =
      let d = run_within t 10 (slid p) (within_slid t p w) in
      choose_keeps (Ends low (length t)) (eqb (nth p 1) (code "_")) (λ f. (h, w.fits)) (λ f. after_ends (digits 10 (slid p)) d.0 (omega arith))

  integer_ends : (p e : Place) → Within t e → low < e.at → Ends low (length t) (integer p e)
  unfolding integer
  integer_ends p e w h =
      choose_keeps (Ends low (length t)) (eqb (nth p 0) (code "0"))
      (λ _. choose_keeps (Ends low (length t)) (eqb (digits 1 p).at e.at) (λ _. (h, w.fits)) (λ _. (omega arith, w.fits)))
      (λ _. (h, w.fits))

  digits_ends : (p e : Place) → Within t e → low < e.at → Ends low (length t) (after_digits p e)
  unfolding after_digits
  digits_ends p e w h =
      choose_keeps (Ends low (length t)) (eqb (nth e 0) (code ".")) (λ _. fraction_ends e w (omega arith) (omega (arith, slid_le e)))
      (λ _. choose_keeps (Ends low (length t)) (at_exponent (window e)) (λ _. exponent_ends e w h)
      (λ _. choose_keeps (Ends low (length t)) (is_letter (code "j") (nth e 0)) (λ _. (omega (arith, slid_le e), (within_slid t e w).fits))
      (λ _. integer_ends p e w h)))

  radix_ends : (radix : ℕ) (p : Place) → Within t p → low < p.at → Ends low (length t) (radix_number radix low p)
  unfolding radix_number
  radix_ends radix p w h =
      let d = run_within t radix p w in
      choose_keeps (Ends low (length t)) (eqb (digits radix p).at p.at) (λ _. (omega arith, omega (arith, w.fits))) (λ _. (omega arith, d.0.fits))

-- a digit is a character
digit_some : (c : ℕ) → is_digit 10 c ≡ true → c ≡ no_char → ⊥
unfolding is_digit digit_value
digit_some c e z = let f : is_digit 10 no_char ≡ false = refl in true_is_not_false (sym e ∙ ap (is_digit 10) z ∙ f)

module _ (t : List ℕ) (p : Place) (w : Within t p) where
  -- from a digit
  digit_first : is_digit 10 (nth p 0) ≡ true → Ends p.at (length t) (normal_number p)
  unfolding normal_number in_run
  digit_first e =
      let on = run_on 10 (omega arith) p (simp e) in
      let next = run_within t 10 (slid p) (within_slid t p w) in
      let same = ap (λ (q : Place). q.at) on.0 in
      let further = slid_lt t p w (digit_some (nth p 0) e) in
      digits_ends t p.at p (digits 10 p) (run_within t 10 p w).0 (omega arith)

  -- from a dot: there is no digit before it
  dot_first : nth p 0 ≡ code "." → Ends p.at (length t) (normal_number p)
  unfolding normal_number after_digits in_run is_digit digit_value
  dot_first e =
      let none : digits 10 p ≡ p = run_stop 10 p (simp e) in
      let further = slid_lt t p w (λ z. omega arith) in
      subst (λ (q : Place). Ends p.at (length t) (after_digits p q)) (sym none) (simp e (fraction_ends t p.at p w (omega arith) (omega arith)))

  number_by : Ends p.at (length t) (normal_number p) → Ends p.at (length t) (number_at p)
  unfolding number_at
  number_by n =
      choose_keeps (Ends p.at (length t)) (eqb (nth p 0) (code "0"))
      (λ e. let z = eqb-true (nth p 0) (code "0") e in
      let one = within_slid t p w in
      choose_keeps (Ends p.at (length t)) (eqb (radix_of (nth p 1)) 0) (λ _. n)
      (λ _. radix_ends t p.at (radix_of (nth p 1)) (slid (slid p)) (within_slid t (slid p) one) (omega (arith, slid_lt t p w (λ y. omega arith), slid_le (slid p)))))
      (λ e. n)

-- at a digit, or a dot
pub number_ends : (t : List ℕ) (at : ℕ) → (is_digit 10 (nth (place_at t at) 0) ≡ true) ⊎ (nth (place_at t at) 0 ≡ code ".") → Ends at (length t) (number_at (place_at t at))
number_ends t at s =
    let p = place_at t at in
    let w : (nth p 0 ≡ no_char → ⊥) → Within t p = λ n. within_at t at (omega (arith, (here t at (nth p 0) refl n).fits)) in
    ⊎_elim (λ e. let v = w (digit_some (nth p 0) e) in number_by t p v (digit_first t p v e)) (λ e. let v = w (λ z. omega arith) in number_by t p v (dot_first t p v e)) s

-- only the characters 0 to 9 are digits of radix 10
pub no_digit : (c : ℕ) → (c < code "0") ⊎ (code "9" < c) → is_digit 10 c ≡ false
unfolding is_digit digit_value
no_digit c (inl h) = simp (lt-ltb c (code "0") h)
no_digit c (inr h) =
    let P : ℕ → Type 0 = λ v. ltb v 10 ≡ false in
    simp (le-ltb c (code "0") (omega arith), lt-leb c (code "9") h)
    (choose_keeps P (ltb c (code "A")) (λ _. refl)
    (λ a. choose_keeps P (leb c (code "F")) (λ _. le-ltb (c - (code "A" - 10)) 10 (omega (arith, ltb-false c (code "A") a)))
    (λ _. choose_keeps P (ltb c (code "a")) (λ _. refl)
    (λ b. choose_keeps P (leb c (code "f")) (λ _. le-ltb (c - (code "a" - 10)) 10 (omega (arith, ltb-false c (code "a") b))) (λ _. refl)))))
