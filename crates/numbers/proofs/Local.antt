-- A newline blocks look-ahead: the number at near places is the same. No test passes a newline, so none looks behind it.
-- Assumes nothing.
use Prim.Native.Nat.{ℕ, ◌≤◌}
use Prim.Native.Char.{code}
use mathlib.Core.Path.{◌≡◌, refl}
use mathlib.Core.List.{List}
use native.Mathlib.Omega.{arith}
use borrow.Author.Tests.{le-ltb}
use lib.Dec.{eqb}
use lib.ListN.{get_or}
use Rattle.choice.proofs.Laws.{choose_both}
use Rattle.utf8.specs.Chars.{no_char}
use Rattle.window.specs.Place.{Place, nth, slid, slid_by, window}
use Rattle.window.proofs.Near.{Near, Beside, same_at, same_first, same_second}
use Rattle.window.proofs.Near.Near.{lf, cr, more}
use Rattle.window.proofs.Near.Beside.{beside}
use Rattle.token.specs.declared.Item.{Item}
use Rattle.numbers.specs.Numbers.{digit_value, is_digit, in_run, digits_from, digits, is_letter, is_sign, at_exponent, float_end, exponent_digits, exponent_sign, exponent, after_fraction, fraction, integer, after_digits, normal_number, radix_number, radix_of, number_at}
use Rattle.numbers.proofs.Laws.{radix_small}

abbrev Same : Item → Item → Type 0
Same x x' = x' ≡ x

-- ---- digits end beside their like
module _ (radix : ℕ) (small : radix ≤ 16) {end : ℕ} where
  run_near : {at : ℕ} {l l' : List ℕ} → Near end at l l' → Beside end (digits_from radix at l) (digits_from radix at l')
  unfolding digits_from in_run is_digit digit_value
  run_near (lf e) = rw (le-ltb 16 radix small) (beside (lf e))
  run_near (cr e f g) = rw (le-ltb 16 radix small) (beside (cr e f g))
  run_near (more {l} c h) =
      rw (same_first (beside h))
      (choose_both (Beside end) (in_run radix c (get_or l 0 no_char)) (λ _. run_near h) (λ _. beside (more c h)))

  digits_near : {p p' : Place} → Beside end p p' → Beside end (digits radix p) (digits radix p')
  unfolding digits
  digits_near (beside h) = run_near h

-- ---- floats: at their end, at an exponent's digits, at its sign
float_near : {end : ℕ} {p p' : Place} → Beside end p p' → float_end p' ≡ float_end p
unfolding float_end is_letter slid slid_by
float_near (beside (lf e)) = refl
float_near (beside (cr e f g)) = refl
float_near (beside (more c h)) = refl

power_near : {end : ℕ} {p p' : Place} → Beside end p p' → exponent_digits p' ≡ exponent_digits p
unfolding exponent_digits
power_near b = let d = digits_near 10 (omega arith) b in rw (float_near d, same_at d, same_at b)

sign_near : {end : ℕ} {p p' : Place} → Beside end p p' → exponent_sign p' ≡ exponent_sign p
unfolding exponent_sign is_sign slid slid_by
sign_near (beside (lf e)) = power_near (beside (lf e))
sign_near (beside (cr e f g)) = power_near (beside (cr e f g))
sign_near {p} (beside (more c h)) =
    rw (same_first (beside h))
    (choose_both Same (is_sign c) (λ _. choose_both Same (eqb (nth p 1) (code "_")) (λ _. refl) (λ _. power_near (beside h))) (λ _. power_near (beside (more c h))))

-- at a letter or a dot, behind which the texts are near
exponent_near : {end : ℕ} {p p' : Place} → Beside end p p' → Beside end (slid p) (slid p') → exponent p' ≡ exponent p
unfolding exponent
exponent_near b n = rw (sign_near n, same_second b n, same_at b)

-- behind a fraction's digits
after_near : {end : ℕ} {p p' : Place} → Beside end p p' → after_fraction p' ≡ after_fraction p
unfolding after_fraction is_letter slid slid_by
after_near (beside (lf e)) = float_near (beside (lf e))
after_near (beside (cr e f g)) = float_near (beside (cr e f g))
after_near (beside (more c h)) =
    let b = beside (more c h) in choose_both Same (is_letter (code "e") c) (λ _. exponent_near b (beside h)) (λ _. float_near b)

fraction_near : {end : ℕ} {p p' : Place} → Beside end p p' → Beside end (slid p) (slid p') → fraction p' ≡ fraction p
unfolding fraction
fraction_near b n = rw (after_near (digits_near 10 (omega arith) n), same_second b n, same_at b)

-- with no dot, an exponent is looked for up to its first digit
exponent_seen : {end : ℕ} {p p' : Place} → Beside end p p' → at_exponent (window p') ≡ at_exponent (window p)
unfolding at_exponent is_letter is_sign is_digit digit_value
exponent_seen (beside (lf e)) = refl
exponent_seen (beside (cr e f g)) = refl
exponent_seen (beside (more c (lf e))) = refl
exponent_seen (beside (more c (cr e f g))) = refl
exponent_seen (beside (more c (more d h))) = rw (same_first (beside h))

-- ---- behind the first digits
integer_near : {end : ℕ} {p p' e e' : Place} → Beside end p p' → Beside end e e' → integer p' e' ≡ integer p e
unfolding integer
integer_near b d = rw (same_first b, same_at (digits_near 1 (omega arith) b), same_at d)

after_digits_near : {end : ℕ} {p p' e e' : Place} → Beside end p p' → Beside end e e' → after_digits p' e' ≡ after_digits p e
unfolding after_digits is_letter at_exponent slid slid_by
after_digits_near b (beside (lf e)) = integer_near b (beside (lf e))
after_digits_near b (beside (cr e f g)) = integer_near b (beside (cr e f g))
after_digits_near {e} b (beside (more c h)) =
    let d = beside (more c h) in
    rw (exponent_seen d)
    (choose_both Same (eqb c (code ".")) (λ _. fraction_near d (beside h))
    (λ _. choose_both Same (at_exponent (window e)) (λ _. exponent_near d (beside h))
    (λ _. choose_both Same (is_letter (code "j") c) (λ _. refl) (λ _. integer_near b d))))

-- ---- the literal
normal_near : {end : ℕ} {p p' : Place} → Beside end p p' → normal_number p' ≡ normal_number p
unfolding normal_number
normal_near b = after_digits_near b (digits_near 10 (omega arith) b)

radix_near : {end : ℕ} {p p' : Place} → Beside end p p' → (radix start : ℕ) → radix ≤ 16 → radix_number radix start p' ≡ radix_number radix start p
unfolding radix_number
radix_near b radix start small = rw (same_at (digits_near radix small b), same_at b)

-- the number at near places
pub number_near : {end : ℕ} {p p' : Place} → Beside end p p' → number_at p' ≡ number_at p
unfolding number_at radix_of is_letter slid slid_by
number_near (beside (lf e)) = normal_near (beside (lf e))
number_near (beside (cr e f g)) = normal_near (beside (cr e f g))
number_near (beside (more c (lf e))) = choose_both Same (eqb c (code "0")) (λ _. normal_near (beside (more c (lf e)))) (λ _. normal_near (beside (more c (lf e))))
number_near (beside (more c (cr e f g))) = choose_both Same (eqb c (code "0")) (λ _. normal_near (beside (more c (cr e f g)))) (λ _. normal_near (beside (more c (cr e f g))))
number_near (beside (more c (more d h))) =
    choose_both Same (eqb c (code "0"))
    (λ _. choose_both Same (eqb (radix_of d) 0) (λ _. normal_near (beside (more c (more d h)))) (λ _. radix_near (beside h) (radix_of d) _ (radix_small d _ refl)))
    (λ _. normal_near (beside (more c (more d h))))
