-- Laws of numeric literals, for a cursor whose window is slid: what the window shows decides as the characters at the place do.
-- Assumes nothing.
use Prim.Native.Nat.{ℕ, ◌<◌, ◌≤◌}
use Prim.Native.Char.{code}
use mathlib.Core.Path.{◌≡◌, refl, sym, ◌∙◌, ap, subst}
use mathlib.Core.List.{List, [], ◌∷◌}
use mathlib.Core.Bool.{Bool, true, false}
use native.Mathlib.Omega.{arith}
use borrow.Author.Tests.{eq-eqb, ne_eqb, le-ltb}
use lib.Dec.{eqb}
use lib.ListN.{length, get_or}
use Rattle.choice.proofs.Laws.{true_is_not_false, choose_keeps}
use Rattle.utf8.specs.Chars.{no_char}
use Rattle.window.specs.Place.{Place, nth, slid, slid_by}
use Rattle.window.specs.Promises.{place}
use Rattle.window.specs.declared.cursor.Cursor.{Cursor}
use Rattle.window.proofs.Laws.{sees}
use Rattle.numbers.specs.Numbers.{digit_value, is_digit, in_run, digits_from, digits, is_letter, is_sign, at_exponent, float_end, exponent_digits, exponent_sign, exponent, after_fraction, fraction, integer, after_digits, normal_number, radix_number, radix_of, number_at}
use Rattle.token.specs.declared.Token.TheVariants.{Int, Float, Complex}
use Rattle.token.specs.declared.Ending.TheVariants.{InvalidSyntax, InvalidDecimal, InvalidToken, NoDigits}
use Rattle.token.specs.declared.Item.{Item}
use Rattle.token.specs.declared.Item.TheVariants.{Tok, Error}

-- ---- a run goes on over the characters that are in it, and stops at the first other
module _ (radix : ℕ) (k : radix ≤ 16) where
  -- the end of the text is in no run
  run_none : in_run radix no_char no_char ≡ false
  unfolding in_run is_digit digit_value
  run_none = simp (le-ltb 16 radix k)

  on_by : (at : ℕ) (l : List ℕ) → in_run radix (get_or l 0 no_char) (get_or l 1 no_char) ≡ true
      → (digits radix (slid_by at l) ≡ digits_from radix at l) × (length (slid_by at l).rest < length l)
  unfolding digits digits_from slid_by
  on_by at [] e = absurd (true_is_not_false (sym e ∙ run_none))
  on_by at (c ∷ r) e = (simp e, omega arith)

stop_by : (radix at : ℕ) (l : List ℕ) → in_run radix (get_or l 0 no_char) (get_or l 1 no_char) ≡ false → digits_from radix at l ≡ record { at = at; rest = l }
unfolding digits_from
stop_by radix at [] e = refl
stop_by radix at (c ∷ r) e = simp e

pub run_on : (radix : ℕ) → radix ≤ 16 → (p : Place) → in_run radix (nth p 0) (nth p 1) ≡ true → (digits radix (slid p) ≡ digits radix p) × (length (slid p).rest < length p.rest)
unfolding digits slid
run_on radix k p e = on_by radix k p.at p.rest e

pub run_stop : (radix : ℕ) (p : Place) → in_run radix (nth p 0) (nth p 1) ≡ false → digits radix p ≡ p
unfolding digits
run_stop radix p e = stop_by radix p.at p.rest e

module _ (cur : Cursor) where
  abbrev p : Place
  p = place cur

  -- ---- what a window shows
  at_0 : (f : ℕ → Bool) (x y : Bool) → f (get_or cur.window 0 0) ≡ x → x ≡ y → f (nth p 0) ≡ y
  at_0 f x y u v = ap f (sym (sees cur 0)) ∙ u ∙ v

  under : get_or cur.window 1 0 ≡ code "_" → eqb (nth p 1) (code "_") ≡ true
  under e = eq-eqb _ _ (sym (sees cur 1) ∙ e)

  no_under : (get_or cur.window 1 0 ≡ code "_" → ⊥) → eqb (nth p 1) (code "_") ≡ false
  no_under f = ne_eqb _ _ (λ z. f (sees cur 1 ∙ z))

  -- ---- radix_run: the turns of its loop
  module _ (radix : ℕ) (q : Place) (w : digits radix p ≡ q) (x : Bool) (f : in_run radix (get_or cur.window 0 0) (get_or cur.window 1 0) ≡ x) where
    both_see : (y : Bool) → x ≡ y → in_run radix (nth p 0) (nth p 1) ≡ y
    both_see y v = cc (sees cur 0, sees cur 1)

    pub run_ends : x ≡ false → p ≡ q
    run_ends u = sym (run_stop radix p (both_see false u)) ∙ w

    module _ (r : Cursor) (m : place r ≡ slid p) (k : radix ≤ 16) (u : x ≡ true) where
      pub run_goes : digits radix (place r) ≡ q
      run_goes = ap (digits radix) m ∙ (run_on radix k p (both_see true u)).0 ∙ w

      pub run_less : length (place r).rest < length p.rest
      run_less = let next = ap (λ (x : Place). length x.rest) m in omega (arith, (run_on radix k p (both_see true u)).1)

  -- ---- the parts of a float
  pub float_complex : (r : Cursor) → place r ≡ slid p → (b : Bool) → is_letter (code "j") (get_or cur.window 0 0) ≡ b → b ≡ true → Tok Complex r.at ≡ float_end p
  unfolding float_end
  float_complex r m b f u = simp (at_0 (is_letter (code "j")) b true f u) (ap (λ (x : Place). Tok Complex x.at) m)

  pub float_plain : (b : Bool) → is_letter (code "j") (get_or cur.window 0 0) ≡ b → b ≡ false → Tok Float cur.at ≡ float_end p
  unfolding float_end
  float_plain b f u = simp (at_0 (is_letter (code "j")) b false f u)

  pub exponent_under : get_or cur.window 1 0 ≡ code "_" → Error InvalidSyntax cur.at ≡ exponent p
  unfolding exponent
  exponent_under e = simp (under e)

  pub fraction_under : get_or cur.window 1 0 ≡ code "_" → Error InvalidSyntax cur.at ≡ fraction p
  unfolding fraction
  fraction_under e = simp (under e)

  module _ (b : Bool) (f : is_sign (get_or cur.window 0 0) ≡ b) where
    pub sign_under : get_or cur.window 1 0 ≡ code "_" → b ≡ true → Error InvalidSyntax cur.at ≡ exponent_sign p
    unfolding exponent_sign
    sign_under e u = simp (at_0 is_sign b true f u, under e)

    pub sign_on : (x : Cursor) → place x ≡ slid p → (r : Item) → r ≡ exponent_digits (place x) → b ≡ true → (get_or cur.window 1 0 ≡ code "_" → ⊥) → r ≡ exponent_sign p
    unfolding exponent_sign
    sign_on x m r e u g = simp (at_0 is_sign b true f u, no_under g) (e ∙ ap exponent_digits m)

    pub sign_none : (r : Item) → r ≡ exponent_digits p → b ≡ false → r ≡ exponent_sign p
    unfolding exponent_sign
    sign_none r e u = simp (at_0 is_sign b false f u) e

  module _ (x : Cursor) (m : place x ≡ slid p) (r : Item) where
    pub exponent_on : r ≡ exponent_sign (place x) → (get_or cur.window 1 0 ≡ code "_" → ⊥) → r ≡ exponent p
    unfolding exponent
    exponent_on e f = simp (no_under f) (e ∙ ap exponent_sign m)

    pub fraction_on : (y : Cursor) → r ≡ after_fraction (place y) → place y ≡ digits 10 (place x) → (get_or cur.window 1 0 ≡ code "_" → ⊥) → r ≡ fraction p
    unfolding fraction
    fraction_on y e q f = simp (no_under f) (e ∙ ap after_fraction (q ∙ ap (digits 10) m))

  module _ (b : Bool) (f : is_letter (code "e") (get_or cur.window 0 0) ≡ b) (r : Item) where
    pub after_e : r ≡ exponent p → b ≡ true → r ≡ after_fraction p
    unfolding after_fraction
    after_e e u = simp (at_0 (is_letter (code "e")) b true f u) e

    pub after_plain : r ≡ float_end p → b ≡ false → r ≡ after_fraction p
    unfolding after_fraction
    after_plain e u = simp (at_0 (is_letter (code "e")) b false f u) e

-- ---- where a run ends
module _ (cur e : Cursor) (radix : ℕ) (m : place e ≡ digits radix (place cur)) where
  ends : e.at ≡ (digits radix (place cur)).at
  ends = ap (λ (x : Place). x.at) m

  some : (j : ℕ) → (e.at ≡ j → ⊥) → eqb (digits radix (place cur)).at j ≡ false
  some j f = ne_eqb _ _ (λ z. f (ends ∙ z))

  empty : (j : ℕ) → e.at ≡ j → eqb (digits radix (place cur)).at j ≡ true
  empty j f = eq-eqb _ _ (sym ends ∙ f)

  pub radix_none : (start : ℕ) → e.at ≡ cur.at → Error NoDigits start ≡ radix_number radix start (place cur)
  unfolding radix_number
  radix_none start z = simp (empty cur.at z)

  pub radix_some : (start : ℕ) → (e.at ≡ cur.at → ⊥) → Tok Int e.at ≡ radix_number radix start (place cur)
  unfolding radix_number
  radix_some start f = simp (some cur.at f) (ap (Tok Int) ends)

module _ (cur e : Cursor) (m : place e ≡ digits 10 (place cur)) where
  pub exponent_none : e.at ≡ cur.at → Error InvalidDecimal cur.at ≡ exponent_digits (place cur)
  unfolding exponent_digits
  exponent_none z = simp (empty cur e 10 m cur.at z)

  pub exponent_some : (r : Item) → r ≡ float_end (place e) → (e.at ≡ cur.at → ⊥) → r ≡ exponent_digits (place cur)
  unfolding exponent_digits
  exponent_some r q f = simp (some cur e 10 m cur.at f) (q ∙ ap float_end m)

  -- ---- after a literal's first digits
  module _ (r : Item) where
    pub normal_dot : r ≡ fraction (place e) → get_or e.window 0 0 ≡ code "." → r ≡ normal_number (place cur)
    unfolding normal_number after_digits
    normal_dot u f = simp (← m, eq-eqb (nth (place e) 0) (code ".") (sym (sees e 0) ∙ f)) u

    module _ (n : get_or e.window 0 0 ≡ code "." → ⊥) (x : Bool) (f : at_exponent e.window ≡ x) where
      no_dot : eqb (nth (place e) 0) (code ".") ≡ false
      no_dot = ne_eqb _ _ (λ z. n (sees e 0 ∙ z))

      pub normal_e : r ≡ exponent (place e) → x ≡ true → r ≡ normal_number (place cur)
      unfolding normal_number after_digits
      normal_e u v = simp (← m, no_dot, ap at_exponent (sym e.shows) ∙ f ∙ v) u

      module _ (v : x ≡ false) (y : Bool) (g : is_letter (code "j") (get_or e.window 0 0) ≡ y) where
        pub normal_integer : r ≡ integer (place cur) (place e) → y ≡ false → r ≡ normal_number (place cur)
        unfolding normal_number after_digits
        normal_integer u w = simp (← m, no_dot, ap at_exponent (sym e.shows) ∙ f ∙ v, at_0 e (is_letter (code "j")) y false g w) u

  pub normal_complex : (d : Cursor) → place d ≡ slid (place e) → (get_or e.window 0 0 ≡ code "." → ⊥) → (x : Bool) → at_exponent e.window ≡ x → x ≡ false
      → (y : Bool) → is_letter (code "j") (get_or e.window 0 0) ≡ y → y ≡ true → Tok Complex d.at ≡ normal_number (place cur)
  unfolding normal_number after_digits
  normal_complex d o n x f v y g w =
      simp (← m, no_dot (Tok Complex d.at) n x f, ap at_exponent (sym e.shows) ∙ f ∙ v, at_0 e (is_letter (code "j")) y true g w)
      (ap (λ (x : Place). Tok Complex x.at) o)

pub ruleset normals = (normal_dot, normal_e, normal_complex, normal_integer)

-- ---- an integer that starts with 0
module _ (cur end : Cursor) where
  pub integer_plain : (get_or cur.window 0 0 ≡ code "0" → ⊥) → Tok Int end.at ≡ integer (place cur) (place end)
  unfolding integer
  integer_plain f = simp (ne_eqb (nth (place cur) 0) (code "0") (λ z. f (sees cur 0 ∙ z)))

  module _ (z : Cursor) (m : place z ≡ digits 1 (place cur)) (f : get_or cur.window 0 0 ≡ code "0") where
    zero_first : eqb (nth (place cur) 0) (code "0") ≡ true
    zero_first = eq-eqb _ _ (sym (sees cur 0) ∙ f)

    pub integer_zero : z.at ≡ end.at → Tok Int end.at ≡ integer (place cur) (place end)
    unfolding integer
    integer_zero u = simp (zero_first, empty cur z 1 m end.at u)

    pub integer_wrong : (z.at ≡ end.at → ⊥) → Error InvalidToken end.at ≡ integer (place cur) (place end)
    unfolding integer
    integer_wrong u = simp (zero_first, some cur z 1 m end.at u)

-- ---- the literal
pub radix_small : (c r : ℕ) → radix_of c ≡ r → r ≤ 16
unfolding radix_of
radix_small c r e =
    subst (λ n. n ≤ 16) e
    (choose_keeps (λ n. n ≤ 16) (is_letter (code "x") c) (λ _. omega arith)
    (λ _. choose_keeps (λ n. n ≤ 16) (is_letter (code "o") c) (λ _. omega arith)
    (λ _. choose_keeps (λ n. n ≤ 16) (is_letter (code "b") c) (λ _. omega arith) (λ _. omega arith))))

module _ (cur : Cursor) (r : Item) where
  pub number_plain : r ≡ normal_number (place cur) → (get_or cur.window 0 0 ≡ code "0" → ⊥) → r ≡ number_at (place cur)
  unfolding number_at
  number_plain u f = simp (ne_eqb (nth (place cur) 0) (code "0") (λ z. f (sees cur 0 ∙ z))) u

  module _ (f : get_or cur.window 0 0 ≡ code "0") (radix : ℕ) (g : radix_of (get_or cur.window 1 0) ≡ radix) where
    first_zero : eqb (nth (place cur) 0) (code "0") ≡ true
    first_zero = eq-eqb _ _ (sym (sees cur 0) ∙ f)

    named : radix_of (nth (place cur) 1) ≡ radix
    named = ap radix_of (sym (sees cur 1)) ∙ g

    pub number_zero : r ≡ normal_number (place cur) → radix ≡ 0 → r ≡ number_at (place cur)
    unfolding number_at
    number_zero u z = simp (first_zero, named, eq-eqb radix 0 z) u

    pub number_radix : (d : Cursor) → place d ≡ slid (place cur) → (x : Cursor) → place x ≡ slid (place d)
        → r ≡ radix_number radix cur.at (place x) → (radix ≡ 0 → ⊥) → r ≡ number_at (place cur)
    unfolding number_at
    number_radix d m x n u z = simp (first_zero, named, ne_eqb radix 0 z) (u ∙ ap (radix_number radix cur.at) (n ∙ ap slid m))

pub ruleset numbers = (radix_small, number_radix, number_zero, number_plain)
