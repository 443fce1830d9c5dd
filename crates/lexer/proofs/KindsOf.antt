-- Which tokens an item can be: never an Indent or a Dedent, and an operator or a keyword has one of document 01's numbers. Names, strings,
-- numbers and operators are no Newline either.
-- Assumes nothing.
use Prim.Native.Nat.{ℕ, zero, suc, ◌+◌, ◌<◌, ◌≤◌}
use Prim.Native.Char.{code}
use mathlib.Core.Path.{◌≡◌, refl}
use mathlib.Core.List.{List, [], ◌∷◌}
use mathlib.Core.Bool.{Bool, true, false}
use Rattle.std.specs.Prelude.{Option, Some, None}
use Rattle.classes.specs.Classes.{is_identifier_start, is_identifier_continuation}
use Rattle.names.specs.Runs.{taken, skip_while, is_blank}
use native.Mathlib.Omega.{arith}
use borrow.Author.Tests.{eqb-false}
use lib.Dec.{eqb}
use lib.ListN.{length}
use Rattle.choice.proofs.Laws.{choose_keeps}
use Rattle.utf8.specs.Chars.{width, no_char}
use Rattle.window.specs.Place.{Place, nth, slid, window}
use Rattle.token.specs.Kinds as K
use Rattle.token.specs.declared.StringKind.{StringKind}
use Rattle.token.specs.declared.Token.{Token}
use Rattle.token.specs.declared.Token.TheVariants as N
use Rattle.token.specs.declared.Item.{Item}
use Rattle.token.specs.declared.Item.TheVariants.{Tok, Gap, End, Error}
use Rattle.token.specs.Codes.{string_kind, kind_of}
use Rattle.token.proofs.Laws.{string_between}
use Rattle.names.specs.Names.{keywords, soft_keywords, spells, number_in, kind_of_name, name_token, name_at}
use Rattle.strings.specs.Strings.{ahead, length_of_next, breaks, closes, triple_at, body_from, body, string_at}
use Rattle.numbers.specs.Numbers.{is_letter, is_sign, at_exponent, digits, float_end, exponent_digits, exponent_sign, exponent, after_fraction, fraction, integer, after_digits, normal_number, radix_number, radix_of, number_at}
use Rattle.operators.proofs.Bounds.{Reach, operator_reach}
use Rattle.lexer.specs.Items.{starts_number, other_at, operator_at, normal_at, open_at, item_at}

abbrev pub Proper : Token → Type 0
Proper N.Newline = ⊥
Proper N.Indent = ⊥
Proper N.Dedent = ⊥
Proper N.Name = Unit
Proper N.Int = Unit
Proper N.Float = Unit
Proper N.Complex = Unit
Proper N.Comment = ⊥
Proper N.NonLogicalNewline = ⊥
Proper (N.Str k b) = Unit
Proper (N.Operator n) = (K.equal ≤ n) × (n ≤ K.ellipsis)
Proper (N.Keyword n) = (K.first_keyword ≤ n) × (n ≤ K.type)

abbrev pub Kind : Item → Type 0
Kind (Tok k e) = Proper k
Kind (Gap e) = ⊥
Kind End = Unit
Kind (Error w e) = Unit

-- the kind of such a token: above an Indent's and a Dedent's, at most that of `type`, and no note's
pub record Numbered (n : ℕ) : Type 0 where
  pub high : K.dedent < n
  pub low : n ≤ K.type
  pub apart : (n ≡ K.comment → ⊥) × (n ≡ K.non_logical_newline → ⊥)

below : (n : ℕ) → K.dedent < n → n < K.comment → Numbered n
below n h l = record { high = h; low = omega arith; apart = (λ z. omega arith, λ z. omega arith) }

above : (n : ℕ) → K.non_logical_newline < n → n ≤ K.type → Numbered n
above n h l = record { high = omega arith; low = l; apart = (λ z. omega arith, λ z. omega arith) }

pub numbered : (k : Token) → Proper k → Numbered (kind_of k)
numbered N.Newline p = absurd p
numbered N.Indent p = absurd p
numbered N.Dedent p = absurd p
numbered N.Name p = below K.name (omega arith) (omega arith)
numbered N.Int p = below K.int (omega arith) (omega arith)
numbered N.Float p = below K.float (omega arith) (omega arith)
numbered N.Complex p = below K.complex (omega arith) (omega arith)
numbered N.Comment p = absurd p
numbered N.NonLogicalNewline p = absurd p
numbered (N.Str k true) p = above (string_kind k + K.tripled) (omega (arith, string_between k)) (omega (arith, string_between k))
numbered (N.Str k false) p = above (string_kind k) (omega (arith, string_between k)) (omega (arith, string_between k))
numbered (N.Operator n) p = above n (omega arith) (omega arith)
numbered (N.Keyword n) p = above n (omega arith) (omega arith)

-- ---- names
number_in_lem : (P : ℕ → Type 0) {A : Type 0} (f : A → Bool) (xs : List A) (k other : ℕ) → K.first_keyword ≤ k → k + length xs ≤ suc K.type → ((n : ℕ) → K.first_keyword ≤ n → n ≤ K.type → P n) → P other → P (number_in f xs k other)
unfolding number_in
number_in_lem P f [] k other h l all g = g
number_in_lem P f (x ∷ xs) k other h l all g = choose_keeps P (f x) (λ _. all k h (omega arith)) (λ _. number_in_lem P f xs (suc k) other (omega arith) (omega arith) all g)

abbrev pub Named : ℕ → Type 0
Named n = (n ≡ K.name → ⊥) → (K.first_keyword ≤ n) × (n ≤ K.type)

pub kind_high : (w : List ℕ) → Named (kind_of_name w)
unfolding kind_of_name keywords soft_keywords
kind_high w =
    number_in_lem Named (spells w) keywords K.first_keyword _ (omega arith) (omega arith) (λ n h l _. (h, l))
    (number_in_lem Named (spells w) soft_keywords K.first_soft K.name (omega arith) (omega arith) (λ n h l _. (h, l)) (λ z. absurd (z refl)))

pub name_kind : (p : Place) → Kind (name_at p)
unfolding name_at name_token
name_kind p = word (taken is_identifier_continuation p.rest)
  where
    word : (w : List ℕ) → Proper (name_token w)
    word w = choose_keeps Proper (eqb (kind_of_name w) K.name) (λ _. tt) (λ e. kind_high w (eqb-false (kind_of_name w) K.name e))

-- ---- strings
body_kind : (k : StringKind) (three : Bool) (q : ℕ) (l : List ℕ) (skip at : ℕ) → Kind (body_from k three q skip at l)
unfolding body_from
body_kind k three q [] skip at = tt
body_kind k three q (c ∷ r) (suc skip) at = body_kind k three q r skip (at + width c)
body_kind k three q (c ∷ r) zero at =
    choose_keeps Kind (eqb c (code "\\")) (λ _. body_kind k three q r (length_of_next r) (at + width c))
    (λ _. choose_keeps Kind (breaks three c) (λ _. tt)
    (λ _. choose_keeps Kind (closes three q (c ∷ r)) (λ _. tt) (λ _. body_kind k three q r 0 (at + width c))))

pub string_kind_lem : (k : StringKind) (p : Place) → Kind (string_at k p)
unfolding string_at body
string_kind_lem k p =
    choose_keeps Kind (triple_at (nth p 0) p.rest) (λ _. body_kind k true (nth p 0) _ 0 _) (λ _. body_kind k false (nth p 0) _ 0 _)

-- ---- numbers
float_kind : (p : Place) → Kind (float_end p)
unfolding float_end
float_kind p = choose_keeps Kind (is_letter (code "j") (nth p 0)) (λ _. tt) (λ _. tt)

power_kind : (p : Place) → Kind (exponent_digits p)
unfolding exponent_digits
power_kind p = choose_keeps Kind (eqb (digits 10 p).at p.at) (λ _. tt) (λ _. float_kind (digits 10 p))

sign_kind : (p : Place) → Kind (exponent_sign p)
unfolding exponent_sign
sign_kind p = choose_keeps Kind (is_sign (nth p 0)) (λ _. choose_keeps Kind (eqb (nth p 1) (code "_")) (λ _. tt) (λ _. power_kind (slid p))) (λ _. power_kind p)

exponent_kind : (p : Place) → Kind (exponent p)
unfolding exponent
exponent_kind p = choose_keeps Kind (eqb (nth p 1) (code "_")) (λ _. tt) (λ _. sign_kind (slid p))

after_kind : (p : Place) → Kind (after_fraction p)
unfolding after_fraction
after_kind p = choose_keeps Kind (is_letter (code "e") (nth p 0)) (λ _. exponent_kind p) (λ _. float_kind p)

fraction_kind : (p : Place) → Kind (fraction p)
unfolding fraction
fraction_kind p = choose_keeps Kind (eqb (nth p 1) (code "_")) (λ _. tt) (λ _. after_kind (digits 10 (slid p)))

integer_kind : (p e : Place) → Kind (integer p e)
unfolding integer
integer_kind p e = choose_keeps Kind (eqb (nth p 0) (code "0")) (λ _. choose_keeps Kind (eqb (digits 1 p).at e.at) (λ _. tt) (λ _. tt)) (λ _. tt)

normal_kind : (p : Place) → Kind (normal_number p)
unfolding normal_number after_digits
normal_kind p =
    let e = digits 10 p in
    choose_keeps Kind (eqb (nth e 0) (code ".")) (λ _. fraction_kind e)
    (λ _. choose_keeps Kind (at_exponent (window e)) (λ _. exponent_kind e)
    (λ _. choose_keeps Kind (is_letter (code "j") (nth e 0)) (λ _. tt) (λ _. integer_kind p e)))

radix_kind : (r start : ℕ) (p : Place) → Kind (radix_number r start p)
unfolding radix_number
radix_kind r start p = choose_keeps Kind (eqb (digits r p).at p.at) (λ _. tt) (λ _. tt)

pub number_kind : (p : Place) → Kind (number_at p)
unfolding number_at
number_kind p =
    choose_keeps Kind (eqb (nth p 0) (code "0"))
    (λ _. choose_keeps Kind (eqb (radix_of (nth p 1)) 0) (λ _. normal_kind p) (λ _. radix_kind (radix_of (nth p 1)) p.at (slid (slid p))))
    (λ _. normal_kind p)

-- ---- items
-- what the end, blanks, names, strings, numbers, operators and all others have, an item has
module _ (P : Item → Type 0) (p : Place) (last : P End) (blank : P (Gap (skip_while is_blank p).at)) (kind : (i : Item) → Kind i → P i) (other : P (other_at p)) where
  by_operator : (s : Option (ℕ × ℕ)) → Reach (nth p 0) (nth p 1) (nth p 2) s → P (operator_at p s)
  unfolding operator_at
  by_operator (Some (k, m)) r = kind (Tok (N.Operator k) (p.at + m)) (r.low, r.high)
  by_operator None r = other

  by_word : P (normal_at p)
  unfolding normal_at
  by_word =
      choose_keeps P (is_identifier_start (nth p 0)) (λ _. kind (name_at p) (name_kind p))
      (λ _. choose_keeps P (starts_number (nth p 0) (nth p 1)) (λ _. kind (number_at p) (number_kind p))
      (λ _. by_operator _ (operator_reach (nth p 0) (nth p 1) (nth p 2))))

  by_opening : (o : Option (StringKind × ℕ)) → P (open_at p o)
  unfolding open_at
  by_opening (Some (k, n)) = kind (string_at k (ahead n p)) (string_kind_lem k (ahead n p))
  by_opening None = by_word

  pub item_by : P (item_at p)
  unfolding item_at
  item_by = choose_keeps P (eqb (nth p 0) no_char) (λ _. last) (λ _. choose_keeps P (is_blank (nth p 0)) (λ _. blank) (λ _. by_opening _))
