-- No leaf of the reader looks at the number of its byte: from a place so many bytes further on, with the same characters ahead, it gives
-- the same, so many bytes further on.
-- Assumes nothing.
use Prim.Native.Nat.{ℕ, zero, suc, ◌+◌}
use Prim.Native.Char.{code}
use mathlib.Core.Path.{◌≡◌, refl, ◌∙◌, ap}
use mathlib.Core.List.{List, [], ◌∷◌}
use mathlib.Core.Bool.{Bool, true, false}
use native.Mathlib.Omega.{arith}
use native.Mathlib.Nat.{add_assoc}
use borrow.Author.Tests.{eqb-true, eqb-false, eq-eqb, ne_eqb}
use lib.Dec.{eqb}
use Rattle.choice.proofs.Laws.{choose_both}
use Rattle.utf8.specs.Chars.{width}
use Rattle.window.specs.Place.{Place, nth, slid, slid_by, next_char}
use Rattle.token.specs.declared.Item.{Item}
use Rattle.token.specs.declared.Item.TheVariants.{Tok, Gap, End, Error}
use Rattle.token.specs.declared.Token.TheVariants as N
use Rattle.token.specs.declared.StringKind.{StringKind}
use Rattle.token.specs.declared.Ending.TheVariants.{EolInString}
use Rattle.names.specs.Runs.{skip_from, skip_while, taken}
use Rattle.names.specs.Names.{name_token, name_at}
use Rattle.classes.specs.Classes.{is_identifier_continuation}
use Rattle.strings.specs.Strings.{ahead, length_of_next, triple_at, breaks, closes, quotes, body_from, body, string_at}
use Rattle.numbers.specs.Numbers.{in_run, digits_from, digits, is_letter, is_sign, at_exponent, float_end, exponent_digits, exponent_sign, exponent, after_fraction, fraction, integer, after_digits, normal_number, radix_number, radix_of, number_at}

-- tests of places do not change
eqb_further : (d a b : ℕ) → eqb (d + a) (d + b) ≡ eqb a b
eqb_further d a b = go (eqb a b) refl
  where
    go : (x : Bool) → eqb a b ≡ x → eqb (d + a) (d + b) ≡ x
    go true e = eq-eqb (d + a) (d + b) (ap (λ (n : ℕ). d + n) (eqb-true a b e))
    go false e = ne_eqb (d + a) (d + b) (λ z. eqb-false a b e (omega arith))

module _ (d : ℕ) where
  -- a place so many bytes further on
  abbrev pub further : Place → Place
  further p = record { at = d + p.at; rest = p.rest }

  abbrev Places : Place → Place → Type 0
  Places x y = x ≡ further y

  -- what stands there
  abbrev pub moved_item : Item → Item
  moved_item (Tok k e) = Tok k (d + e)
  moved_item (Gap e) = Gap (d + e)
  moved_item End = End
  moved_item (Error w p) = Error w (d + p)

  abbrev pub Items : Item → Item → Type 0
  Items x y = x ≡ moved_item y

  -- ---- one character on
  slid_by_lem : (at : ℕ) (l : List ℕ) → slid_by (d + at) l ≡ further (slid_by at l)
  unfolding slid_by
  slid_by_lem at [] = refl
  slid_by_lem at (c ∷ l) = rw (add_assoc d at (width c))

  pub slid_further : (p : Place) → slid (further p) ≡ further (slid p)
  unfolding slid
  slid_further p = slid_by_lem p.at p.rest

  pub next_further : (p : Place) → next_char (further p) ≡ further (next_char p)
  unfolding next_char
  next_further p =
      choose_both Places (eqb (nth p 0) (code "\r"))
      (λ _. choose_both Places (eqb (nth p 1) (code "\n")) (λ _. ap slid (slid_further p) ∙ slid_further (slid p)) (λ _. slid_further p))
      (λ _. slid_further p)

  -- ---- runs and names
  skip_by : (f : ℕ → Bool) (at : ℕ) (l : List ℕ) → skip_from f (d + at) l ≡ further (skip_from f at l)
  unfolding skip_from
  skip_by f at [] = refl
  skip_by f at (c ∷ r) = choose_both Places (f c) (λ _. ap (λ (i : ℕ). skip_from f i r) (add_assoc d at (width c)) ∙ skip_by f (at + width c) r) (λ _. refl)

  pub skip_further : (f : ℕ → Bool) (p : Place) → skip_while f (further p) ≡ further (skip_while f p)
  unfolding skip_while
  skip_further f p = skip_by f p.at p.rest

  pub name_further : (p : Place) → name_at (further p) ≡ moved_item (name_at p)
  unfolding name_at
  name_further p = ap (λ (q : Place). Tok (name_token (taken is_identifier_continuation p.rest)) q.at) (skip_further is_identifier_continuation p)

  -- ---- strings
  pub ahead_further : (n : ℕ) (p : Place) → ahead n (further p) ≡ further (ahead n p)
  unfolding ahead
  ahead_further zero p = refl
  ahead_further (suc n) p = ap (ahead n) (slid_further p) ∙ ahead_further n (slid p)

  body_by : (k : StringKind) (three : Bool) (q skip at : ℕ) (l : List ℕ) → body_from k three q skip (d + at) l ≡ moved_item (body_from k three q skip at l)
  unfolding body_from
  body_by k three q skip at [] = refl
  body_by k three q (suc skip) at (c ∷ r) = ap (λ (i : ℕ). body_from k three q skip i r) (add_assoc d at (width c)) ∙ body_by k three q skip (at + width c) r
  body_by k three q zero at (c ∷ r) =
      choose_both Items (eqb c (code "\\")) (λ _. ap (λ (i : ℕ). body_from k three q (length_of_next r) i r) (add_assoc d at (width c)) ∙ body_by k three q (length_of_next r) (at + width c) r)
      (λ _. choose_both Items (breaks three c) (λ _. ap (Error EolInString) (add_assoc d at (length_of_next (c ∷ r))))
      (λ _. choose_both Items (closes three q (c ∷ r)) (λ _. ap (Tok (N.Str k three)) (add_assoc d at (quotes three)))
      (λ _. ap (λ (i : ℕ). body_from k three q 0 i r) (add_assoc d at (width c)) ∙ body_by k three q 0 (at + width c) r)))

  body_further : (k : StringKind) (three : Bool) (q : ℕ) (p : Place) → body k three q (further p) ≡ moved_item (body k three q p)
  unfolding body
  body_further k three q p = body_by k three q 0 p.at p.rest

  pub string_further : (k : StringKind) (p : Place) → string_at k (further p) ≡ moved_item (string_at k p)
  unfolding string_at
  string_further k p =
      let q = nth p 0 in
      choose_both Items (triple_at q p.rest) (λ _. ap (body k true q) (ahead_further 3 p) ∙ body_further k true q (ahead 3 p))
      (λ _. ap (body k false q) (ahead_further 1 p) ∙ body_further k false q (ahead 1 p))

  -- ---- numbers
  digits_by : (radix at : ℕ) (l : List ℕ) → digits_from radix (d + at) l ≡ further (digits_from radix at l)
  unfolding digits_from
  digits_by radix at [] = refl
  digits_by radix at (c ∷ r) = choose_both Places (in_run radix c _) (λ _. ap (λ (i : ℕ). digits_from radix i r) (add_assoc d at (width c)) ∙ digits_by radix (at + width c) r) (λ _. refl)

  digits_further : (radix : ℕ) (p : Place) → digits radix (further p) ≡ further (digits radix p)
  unfolding digits
  digits_further radix p = digits_by radix p.at p.rest

  -- whether digits end at a place
  same_end : (radix : ℕ) (p e : Place) → eqb (digits radix (further p)).at (d + e.at) ≡ eqb (digits radix p).at e.at
  same_end radix p e = ap (λ (q : Place). eqb q.at (d + e.at)) (digits_further radix p) ∙ eqb_further d (digits radix p).at e.at

  float_further : (p : Place) → float_end (further p) ≡ moved_item (float_end p)
  unfolding float_end
  float_further p = choose_both Items (is_letter (code "j") (nth p 0)) (λ _. ap (λ (q : Place). Tok N.Complex q.at) (slid_further p)) (λ _. refl)

  exponent_digits_further : (p : Place) → exponent_digits (further p) ≡ moved_item (exponent_digits p)
  unfolding exponent_digits
  exponent_digits_further p =
      rw (same_end 10 p p)
      (choose_both Items (eqb (digits 10 p).at p.at) (λ _. refl) (λ _. ap float_end (digits_further 10 p) ∙ float_further (digits 10 p)))

  exponent_sign_further : (p : Place) → exponent_sign (further p) ≡ moved_item (exponent_sign p)
  unfolding exponent_sign
  exponent_sign_further p =
      choose_both Items (is_sign (nth p 0))
      (λ _. choose_both Items (eqb (nth p 1) (code "_")) (λ _. refl) (λ _. ap exponent_digits (slid_further p) ∙ exponent_digits_further (slid p)))
      (λ _. exponent_digits_further p)

  exponent_further : (p : Place) → exponent (further p) ≡ moved_item (exponent p)
  unfolding exponent
  exponent_further p = choose_both Items (eqb (nth p 1) (code "_")) (λ _. refl) (λ _. ap exponent_sign (slid_further p) ∙ exponent_sign_further (slid p))

  after_fraction_further : (p : Place) → after_fraction (further p) ≡ moved_item (after_fraction p)
  unfolding after_fraction
  after_fraction_further p = choose_both Items (is_letter (code "e") (nth p 0)) (λ _. exponent_further p) (λ _. float_further p)

  fraction_further : (p : Place) → fraction (further p) ≡ moved_item (fraction p)
  unfolding fraction
  fraction_further p =
      choose_both Items (eqb (nth p 1) (code "_")) (λ _. refl)
      (λ _. ap (λ (q : Place). after_fraction (digits 10 q)) (slid_further p) ∙ ap after_fraction (digits_further 10 (slid p)) ∙ after_fraction_further (digits 10 (slid p)))

  integer_further : (p e : Place) → integer (further p) (further e) ≡ moved_item (integer p e)
  unfolding integer
  integer_further p e =
      rw (same_end 1 p e)
      (choose_both Items (eqb (nth p 0) (code "0")) (λ _. choose_both Items (eqb (digits 1 p).at e.at) (λ _. refl) (λ _. refl)) (λ _. refl))

  after_digits_further : (p e : Place) → after_digits (further p) (further e) ≡ moved_item (after_digits p e)
  unfolding after_digits
  after_digits_further p e =
      choose_both Items (eqb (nth e 0) (code ".")) (λ _. fraction_further e)
      (λ _. choose_both Items (at_exponent _) (λ _. exponent_further e)
      (λ _. choose_both Items (is_letter (code "j") (nth e 0)) (λ _. ap (λ (q : Place). Tok N.Complex q.at) (slid_further e)) (λ _. integer_further p e)))

  normal_number_further : (p : Place) → normal_number (further p) ≡ moved_item (normal_number p)
  unfolding normal_number
  normal_number_further p = ap (after_digits (further p)) (digits_further 10 p) ∙ after_digits_further p (digits 10 p)

  radix_number_further : (radix start : ℕ) (p : Place) → radix_number radix (d + start) (further p) ≡ moved_item (radix_number radix start p)
  unfolding radix_number
  radix_number_further radix start p =
      rw (same_end radix p p)
      (choose_both Items (eqb (digits radix p).at p.at) (λ _. refl) (λ _. ap (λ (q : Place). Tok N.Int q.at) (digits_further radix p)))

  pub number_further : (p : Place) → number_at (further p) ≡ moved_item (number_at p)
  unfolding number_at
  number_further p =
      choose_both Items (eqb (nth p 0) (code "0"))
      (λ _. choose_both Items (eqb (radix_of (nth p 1)) 0) (λ _. normal_number_further p)
      (λ _. ap (λ (q : Place). radix_number (radix_of (nth p 1)) (d + p.at) (slid q)) (slid_further p)
      ∙ ap (radix_number (radix_of (nth p 1)) (d + p.at)) (slid_further (slid p))
      ∙ radix_number_further (radix_of (nth p 1)) p.at (slid (slid p))))
      (λ _. normal_number_further p)
