-- What a first byte says: a letter that no string's prefix has starts a name, and a space starts blanks.
-- Assumes nothing.
use Prim.Native.Nat.{ℕ, ◌+◌, ◌<◌, ◌≤◌}
use Prim.Native.Char.{code}
use mathlib.Core.Path.{◌≡◌, refl, sym, ◌∙◌, ap, subst}
use mathlib.Core.List.{List}
use mathlib.Core.Bool.{Bool, true, false}
use native.Mathlib.Omega.{arith}
use borrow.Author.Tests.{eqb-false, ltb-false, leb-true, leb-false, ne_eqb}
use lib.ListN.{length, get_or}
use lib.Dec.{eqb, ltb, leb}
use Rattle.std.specs.Prelude.{Option, None}
use Rattle.choice.proofs.Laws.{choose_keeps, true_is_not_false}
use Rattle.utf8.specs.Chars.{no_char, case_distance}
use Rattle.window.specs.Place.{Place, place_at, nth}
use Rattle.window.proofs.Laws.{this_nth}
use Rattle.classes.specs.Classes.{is_identifier_start}
use Rattle.classes.specs.Promises.{is_ascii_start}
use Rattle.classes.proofs.Laws.{ascii_start}
use Rattle.token.specs.declared.StringKind.{StringKind}
use Rattle.token.specs.declared.Item.{Item}
use Rattle.token.specs.declared.Item.TheVariants.{Gap}
use Rattle.names.specs.Runs.{skip_while, is_blank}
use Rattle.names.specs.Names.{name_at}
use Rattle.strings.specs.Strings.{is_quote, lower, one_letter, beside_r, two_letters, opening_of}
use Rattle.lexer.specs.Items.{normal_at, open_at, item_at}
use Rattle.lexer.specs.Promises.{starts_name}

-- no quote, and none of b, f, r, u
pub record Plain (c : ℕ) : Type 0 where
  pub quote : is_quote c ≡ false
  pub other : lower c ≡ code "b" → ⊥
  pub other_f : lower c ≡ code "f" → ⊥
  pub other_r : lower c ≡ code "r" → ⊥
  pub other_u : lower c ≡ code "u" → ⊥

-- a letter or the underscore, none of b, f, r, u
pub record Letter (c : ℕ) : Type 0 where
  pub low : code "A" ≤ c
  pub high : c ≤ code "z"
  pub start : is_ascii_start c ≡ true
  pub plain : Plain c

pub lower_is : (c n : ℕ) → code "a" ≤ n → lower c ≡ n → (c ≡ n → ⊥) → (c + case_distance ≡ n → ⊥) → ⊥
unfolding lower
lower_is c n h e f g =
    choose_keeps (λ x. x ≡ n → ⊥) (ltb c (code "A")) (λ _. f) (λ _. choose_keeps (λ x. x ≡ n → ⊥) (leb c (code "Z")) (λ _. g) (λ _. f)) e

pub start_range : (c : ℕ) → is_ascii_start c ≡ true → (code "A" ≤ c) × (c ≤ code "z")
unfolding is_ascii_start
start_range c =
    let Q : Bool → Type 0 = λ b. b ≡ true → (code "A" ≤ c) × (c ≤ code "z") in
    choose_keeps Q (leb (code "a") c) (λ e f. (omega (arith, leb-true (code "a") c e), omega (arith, leb-true c (code "z") f)))
    (λ a. let h = leb-false (code "a") c a in
    choose_keeps Q (ltb c (code "A")) (λ _ f. absurd (true_is_not_false (sym f)))
    (λ b. let k = ltb-false c (code "A") b in
    choose_keeps Q (leb c (code "Z")) (λ _ _. (omega arith, omega arith)) (λ _ _. (omega arith, omega arith))))

-- quotes stand below the letters
pub no_quote : (c : ℕ) → code "A" ≤ c → is_quote c ≡ false
unfolding is_quote
no_quote c h = simp (ne_eqb c (code "\"") (λ e. omega arith), ne_eqb c (code "'") (λ e. omega arith))

letter : (c : ℕ) → starts_name c ≡ true → Letter c
unfolding starts_name
letter c =
    let Q : Bool → Type 0 = λ b. b ≡ true → Letter c in
    let no : Q false = λ e. absurd (true_is_not_false (sym e)) in
    choose_keeps Q (eqb c (code "B")) (λ _. no)
    (λ a. choose_keeps Q (eqb c (code "F")) (λ _. no)
    (λ b. choose_keeps Q (eqb c (code "R")) (λ _. no)
    (λ d. choose_keeps Q (eqb c (code "U")) (λ _. no)
    (λ e. choose_keeps Q (eqb c (code "b")) (λ _. no)
    (λ f. choose_keeps Q (eqb c (code "f")) (λ _. no)
    (λ g. choose_keeps Q (eqb c (code "r")) (λ _. no)
    (λ h. choose_keeps Q (eqb c (code "u")) (λ _. no)
    (λ i s.
    let r = start_range c s in
    record {
      low = r.0;
      high = r.1;
      start = s;
      plain = record {
        quote = no_quote c r.0;
        other = λ z. lower_is c (code "b") (omega arith) z (eqb-false c (code "b") f) (λ y. eqb-false c (code "B") a (omega arith));
        other_f = λ z. lower_is c (code "f") (omega arith) z (eqb-false c (code "f") g) (λ y. eqb-false c (code "F") b (omega arith));
        other_r = λ z. lower_is c (code "r") (omega arith) z (eqb-false c (code "r") h) (λ y. eqb-false c (code "R") d (omega arith));
        other_u = λ z. lower_is c (code "u") (omega arith) z (eqb-false c (code "u") i) (λ y. eqb-false c (code "U") e (omega arith));
      };
    }))))))))

-- it opens no string, whatever follows
pub plain_opens : (a b c : ℕ) → Plain a → opening_of a b c ≡ None
unfolding opening_of one_letter two_letters beside_r
plain_opens a b c l =
    let P : Option (StringKind × ℕ) → Type 0 = λ o. o ≡ None in
    let r = ne_eqb (lower a) (code "r") l.other_r in
    let f = ne_eqb (lower a) (code "f") l.other_f in
    let u = ne_eqb (lower a) (code "u") l.other_u in
    let x = ne_eqb (lower a) (code "b") l.other in
    simp (l.quote, r, f, u, x)
    (choose_keeps P (is_quote b) (λ _. refl)
    (λ _. choose_keeps P (is_quote c) (λ _. choose_keeps P (eqb (lower b) (code "r")) (λ _. refl) (λ _. refl)) (λ _. refl)))

module _ (t : List ℕ) (at : ℕ) (h : at < length t) where
  module _ (x : Bool) (q : starts_name (get_or t at 0) ≡ x) (f : x ≡ true) where
    first_letter : Letter (nth (place_at t at) 0)
    first_letter =
        let l = letter (get_or t at 0) (q ∙ f) in
        subst Letter (sym (this_nth t at h (omega (arith, l.high)))) l

    pub first_name : (i : Item) → i ≡ name_at (place_at t at) → i ≡ item_at (place_at t at)
    unfolding item_at open_at normal_at is_blank
    first_name i z =
        let c = nth (place_at t at) 0 in
        let l = first_letter in
        let s : is_identifier_start c ≡ true = ascii_start c (omega (arith, l.high)) ∙ l.start in
        z ∙ rw (ne_eqb c no_char (λ e. omega (arith, l.high)), ne_eqb c (code " ") (λ e. omega (arith, l.low)), ne_eqb c (code "\t") (λ e. omega (arith, l.low)), ne_eqb c (code "\u{c}") (λ e. omega (arith, l.low)), plain_opens c _ _ l.plain, s)

  pub first_blank : (e : ℕ) → place_at t e ≡ skip_while is_blank (place_at t at) → get_or t at 0 ≡ code " " → Gap e ≡ item_at (place_at t at)
  unfolding item_at is_blank
  first_blank e z k =
      let c : nth (place_at t at) 0 ≡ code " " = this_nth t at h (omega arith) ∙ k in
      rw c (ap (λ (p : Place). Gap p.at) z)
