-- How a literal opens, by its first three characters; and the place of its quote.
-- Assumes nothing.
use Prim.Native.Nat.{ℕ, ◌+◌, ◌<◌, ◌≤◌}
use Prim.Native.Char.{code}
use mathlib.Core.Path.{◌≡◌, refl, sym, ◌∙◌, ap, subst}
use mathlib.Core.List.{List}
use mathlib.Core.Bool.{Bool, true, false}
use native.Mathlib.Omega.{arith}
use borrow.Author.Tests.{eqb-true}
use lib.Dec.{eqb, ltb, leb}
use Rattle.choice.proofs.Laws.{choose_keeps}
use Rattle.window.specs.Place.{place_at, nth, slid}
use Rattle.window.specs.declared.cursor.Cursor.{Cursor}
use Rattle.window.specs.Promises.{place}
use Rattle.window.proofs.Laws.{low_on, nth_slid}
use Rattle.token.specs.declared.StringKind.{StringKind}
use Rattle.token.specs.declared.StringKind.TheVariants.{String}
use Rattle.std.specs.Prelude.{Option, Some, None}
use Rattle.strings.specs.Strings.{is_quote, lower, one_letter, beside_r, two_letters, opening_of, ahead}

-- ---- the quote is the first character, the second, the third, or none of them
module _ (a b c : ℕ) (x : Bool) (p : is_quote a ≡ x) where
  pub opens_plain : x ≡ true → Some (String, 0) ≡ opening_of a b c
  unfolding opening_of
  opens_plain t = sym (simp (p ∙ t))

  module _ (f : x ≡ false) (y : Bool) (q : is_quote b ≡ y) where
    pub opens_one : (o : Option (StringKind × ℕ)) (l : ℕ) → o ≡ one_letter l → l ≡ lower a → y ≡ true → o ≡ opening_of a b c
    unfolding opening_of
    opens_one o l u v t = u ∙ ap one_letter v ∙ sym (simp (p ∙ f, q ∙ t))

    module _ (g : y ≡ false) (z : Bool) (r : is_quote c ≡ z) where
      pub opens_two : (o : Option (StringKind × ℕ)) (l m : ℕ) → o ≡ two_letters l m → l ≡ lower a → m ≡ lower b → z ≡ true → o ≡ opening_of a b c
      unfolding opening_of
      opens_two o l m u v w t = u ∙ rw (v, w) (sym (simp (p ∙ f, q ∙ g, r ∙ t)))

      pub opens_none : z ≡ false → None ≡ opening_of a b c
      unfolding opening_of
      opens_none t = sym (simp (p ∙ f, q ∙ g, r ∙ t))

pub ruleset opens = (opens_plain, opens_one, opens_two, opens_none)

-- ---- the letters before a quote are of ASCII, so the quote stands as many bytes on as there are letters
abbrev pub Opens : ℕ → Type 0 → Option (StringKind × ℕ) → Type 0
Opens m P (Some (k, n)) = (n ≡ m) × P
Opens m P None = Unit

-- a letter of ASCII
ascii : (a c : ℕ) → c < 0x80 → eqb a c ≡ true → a < 0x80
ascii a c h e = omega (arith, eqb-true a c e)

-- how many letters each prefix has, and that they are of ASCII
pub one_opens : (a : ℕ) → Opens 1 (a < 0x80) (one_letter a)
unfolding one_letter
one_opens a =
    choose_keeps (Opens 1 (a < 0x80)) (eqb a (code "r")) (λ e. (refl, ascii a (code "r") (omega arith) e))
    (λ _. choose_keeps (Opens 1 (a < 0x80)) (eqb a (code "f")) (λ e. (refl, ascii a (code "f") (omega arith) e))
    (λ _. choose_keeps (Opens 1 (a < 0x80)) (eqb a (code "u")) (λ e. (refl, ascii a (code "u") (omega arith) e))
    (λ _. choose_keeps (Opens 1 (a < 0x80)) (eqb a (code "b")) (λ e. (refl, ascii a (code "b") (omega arith) e)) (λ _. tt))))

beside_opens : (P : Type 0) (a : ℕ) → (a < 0x80 → P) → Opens 2 P (beside_r a)
unfolding beside_r
beside_opens P a f =
    choose_keeps (Opens 2 P) (eqb a (code "f")) (λ e. (refl, f (ascii a (code "f") (omega arith) e)))
    (λ _. choose_keeps (Opens 2 P) (eqb a (code "b")) (λ e. (refl, f (ascii a (code "b") (omega arith) e))) (λ _. tt))

pub two_opens : (a b : ℕ) → Opens 2 ((a < 0x80) × (b < 0x80)) (two_letters a b)
unfolding two_letters
two_opens a b =
    choose_keeps (Opens 2 ((a < 0x80) × (b < 0x80))) (eqb a (code "r")) (λ e. beside_opens _ b (λ h. (ascii a (code "r") (omega arith) e, h)))
    (λ _. choose_keeps (Opens 2 ((a < 0x80) × (b < 0x80))) (eqb b (code "r")) (λ e. beside_opens _ a (λ h. (h, ascii b (code "r") (omega arith) e))) (λ _. tt))

-- lower case is above upper case
lower_le : (c : ℕ) → c ≤ lower c
unfolding lower
lower_le c =
    choose_keeps (λ x. c ≤ x) (ltb c (code "A")) (λ _. omega arith) (λ _. choose_keeps (λ x. c ≤ x) (leb c (code "Z")) (λ _. omega arith) (λ _. omega arith))

-- where the quote of a literal stands that opens at a place: its prefix has two letters at most
pub record Opened (t : List ℕ) (at n : ℕ) : Type 0 where
  pub place : place_at t (at + n) ≡ ahead n (place_at t at)
  pub quote : is_quote (nth (place_at t (at + n)) 0) ≡ true
  pub few : n ≤ 2

module _ (t : List ℕ) (at : ℕ) where
  abbrev letter : ℕ → ℕ
  letter j = nth (place_at t at) j

  opened_none : is_quote (letter 0) ≡ true → Opened t at 0
  unfolding ahead
  opened_none e =
      let z : at + 0 ≡ at = omega arith in
      record {
        place = ap (place_at t) z;
        quote = ap (λ n. is_quote (nth (place_at t n) 0)) z ∙ e;
        few = omega arith;
      }

  opened_one : letter 0 < 0x80 → is_quote (letter 1) ≡ true → Opened t at 1
  unfolding ahead
  opened_one k e =
      let p = (low_on t at (letter 0) refl k).1 in
      let q : is_quote (nth (place_at t (at + 1)) 0) ≡ true = ap (λ x. is_quote (nth x 0)) p ∙ ap is_quote (nth_slid (place_at t at) 0) ∙ e in
      record { place = p; quote = q; few = omega arith }

  opened_two : letter 0 < 0x80 → letter 1 < 0x80 → is_quote (letter 2) ≡ true → Opened t at 2
  unfolding ahead
  opened_two k l e =
      let p = (low_on t at (letter 0) refl k).1 in
      let d : nth (place_at t (at + 1)) 0 ≡ letter 1 = ap (λ x. nth x 0) p ∙ nth_slid (place_at t at) 0 in
      let j : at + 2 ≡ at + 1 + 1 = omega arith in
      let r : place_at t (at + 2) ≡ slid (slid (place_at t at)) = ap (place_at t) j ∙ (low_on t (at + 1) (letter 1) d l).1 ∙ ap slid p in
      let q : is_quote (nth (place_at t (at + 2)) 0) ≡ true = ap (λ x. is_quote (nth x 0)) r ∙ ap is_quote (nth_slid (slid (place_at t at)) 0 ∙ nth_slid (place_at t at) 1) ∙ e in
      record { place = r; quote = q; few = omega arith }

  abbrev Found : Option (StringKind × ℕ) → Type 0
  Found (Some (k, n)) = Opened t at n
  Found None = Unit

  find : (m : ℕ) (P : Type 0) → (P → Opened t at m) → (o : Option (StringKind × ℕ)) → Opens m P o → Found o
  find m P f (Some (k, n)) h = subst (Opened t at) (sym h.0) (f h.1)
  find m P f None h = tt

  found : Found (opening_of (letter 0) (letter 1) (letter 2))
  unfolding opening_of
  found =
      choose_keeps Found (is_quote (letter 0)) (λ e. opened_none e)
      (λ _. choose_keeps Found (is_quote (letter 1)) (λ e. find 1 _ (λ (h : lower (letter 0) < 0x80). opened_one (omega (arith, lower_le (letter 0))) e) (one_letter (lower (letter 0))) (one_opens (lower (letter 0))))
      (λ _. choose_keeps Found (is_quote (letter 2)) (λ e. find 2 _ (λ (h : (lower (letter 0) < 0x80) × (lower (letter 1) < 0x80)). opened_two (omega (arith, lower_le (letter 0))) (omega (arith, lower_le (letter 1))) e) (two_letters (lower (letter 0)) (lower (letter 1))) (two_opens (lower (letter 0)) (lower (letter 1))))
      (λ _. tt)))

  -- THE LAW: where a literal opens, its quote stands behind the prefix
  pub opened : (k : StringKind) (n : ℕ) → opening_of (nth (place_at t at) 0) (nth (place_at t at) 1) (nth (place_at t at) 2) ≡ Some (k, n) → Opened t at n
  opened k n e = subst Found e found

-- ---- the cursor, slid over a prefix of n letters
module _ (cur : Cursor) (n : ℕ) where
  pub past_none : n ≡ 0 → place cur ≡ ahead n (place cur)
  unfolding ahead
  past_none e = rw e

  module _ (d : Cursor) (m : place d ≡ slid (place cur)) where
    pub past_one : n ≡ 1 → place d ≡ ahead n (place cur)
    unfolding ahead
    past_one e = rw e m

    pub past_two : (r : Cursor) → place r ≡ slid (place d) → n ≤ 2 → (n ≡ 0 → ⊥) → (n ≡ 1 → ⊥) → place r ≡ ahead n (place cur)
    unfolding ahead
    past_two r q h f g = let e : n ≡ 2 = omega arith in rw e (q ∙ ap slid m)
