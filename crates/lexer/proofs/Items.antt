-- Each way through an item, from the tests that lead there and from what the callees say.
-- Assumes nothing.
use Prim.Native.Nat.{ℕ, zero, suc, ◌+◌, ◌<◌, ◌≤◌}
use Prim.Native.Char.{code}
use mathlib.Core.Path.{◌≡◌, refl, sym, ◌∙◌, ap, subst}
use mathlib.Core.List.{List}
use mathlib.Core.Bool.{Bool, true, false}
use native.Mathlib.Omega.{arith}
use borrow.Author.Tests.{eq-eqb, ne_eqb}
use lib.ListN.{length, get_or}
use Rattle.std.specs.Prelude.{Option, Some, None}
use Rattle.utf8.specs.Chars.{no_char}
use Rattle.window.specs.Place.{Place, place_at, nth, slid, next_char, window}
use Rattle.window.specs.Promises.{place}
use Rattle.window.specs.declared.cursor.Cursor.{Cursor}
use Rattle.window.proofs.Laws.{low_on, nth_slid, sees}
use Rattle.classes.specs.Classes.{is_identifier_start, is_emoji}
use Rattle.token.specs.declared.StringKind.{StringKind}
use Rattle.token.specs.declared.Item.{Item}
use Rattle.token.specs.declared.Item.TheVariants.{Tok, Gap, End, Error}
use Rattle.token.specs.declared.Token.TheVariants as N
use Rattle.token.specs.declared.Ending.TheVariants.{Eof, UnrecognizedToken, LineContinuationError}
use Rattle.names.specs.Runs.{skip_while, not_newline, is_blank, is_newline}
use Rattle.names.specs.Names.{name_at}
use Rattle.strings.specs.Strings.{opening_of, ahead, string_at, is_quote}
use Rattle.strings.proofs.Openings.{Opened, opened}
use Rattle.numbers.specs.Numbers.{is_digit, number_at}
use Rattle.operators.specs.Operators.{longest_operator}
use Rattle.operators.proofs.Bounds.{Spans, Reach, operator_reach}
use Rattle.lexer.specs.Items.{starts_number, joined_line, continuation, other_at, operator_at, operator_or_other, normal_at, open_at, item_at}

-- ---- a digit, or a dot before a digit
module _ (a b : ℕ) (x : Bool) (p : is_digit 10 a ≡ x) where
  pub number_digit : x ≡ true → starts_number a b ≡ true
  unfolding starts_number
  number_digit t = rw (p ∙ t)

  pub number_dot : (y : Bool) → is_digit 10 b ≡ y → x ≡ false → a ≡ code "." → starts_number a b ≡ y
  unfolding starts_number
  number_dot y q f e = rw (p ∙ f, eq-eqb a (code ".") e) q

  pub number_none : x ≡ false → (a ≡ code "." → ⊥) → starts_number a b ≡ false
  unfolding starts_number
  number_none f n = rw (p ∙ f, ne_eqb a (code ".") n)

-- ---- a backslash: `d` is the cursor behind it
module _ (cur d : Cursor) (m : place d ≡ slid (place cur)) (x : Bool) (q : is_newline (get_or d.window 0 0) ≡ x) where
  second : is_newline (nth (place cur) 1) ≡ x
  second = ap is_newline (sym (nth_slid (place cur) 0) ∙ ap (λ p. nth p 0) (sym m) ∙ sym (sees d 0)) ∙ q

  pub back_wrong : x ≡ false → Error LineContinuationError d.at ≡ continuation (place cur)
  unfolding continuation
  back_wrong f = rw (second ∙ f) (ap (λ (p : Place). Error LineContinuationError p.at) m)

  module _ (e : Cursor) (z : place e ≡ next_char (place d)) (f : x ≡ true) where
    joined : place e ≡ next_char (slid (place cur))
    joined = z ∙ ap next_char m

    pub back_end : get_or e.window 0 0 ≡ no_char → Error Eof e.at ≡ continuation (place cur)
    unfolding continuation joined_line
    back_end l = rw (second ∙ f, ← joined, eq-eqb _ _ (sym (sees e 0) ∙ l))

    pub back_on : (get_or e.window 0 0 ≡ no_char → ⊥) → Gap e.at ≡ continuation (place cur)
    unfolding continuation joined_line
    back_on l = rw (second ∙ f, ← joined, ne_eqb _ _ (λ g. l (sees e 0 ∙ g)))

-- ---- what the window of a cursor shows decides
module _ (cur : Cursor) where
  abbrev p : Place
  p = place cur

  abbrev seen : ℕ → ℕ
  seen k = get_or cur.window k 0

  look0 : seen 0 ≡ nth p 0
  look0 = sees cur 0

  -- comments, newlines, continuations, emoji, and what no token starts with
  pub other_comment : (e : ℕ) → place_at cur.text.now e ≡ skip_while not_newline p → seen 0 ≡ code "#" → Tok N.Comment e ≡ other_at p
  unfolding other_at
  other_comment e z k = rw (← look0, eq-eqb _ _ k) (ap (λ (p : Place). Tok N.Comment p.at) z)

  module _ (n₁ : seen 0 ≡ code "#" → ⊥) (x : Bool) (q : is_newline (seen 0) ≡ x) where
    pub other_newline : (d : Cursor) → place d ≡ next_char p → x ≡ true → Tok N.Newline d.at ≡ other_at p
    unfolding other_at
    other_newline d m f = rw (← look0, ne_eqb _ (code "#") n₁, q ∙ f) (ap (λ (p : Place). Tok N.Newline p.at) m)

    module _ (g : x ≡ false) where
      pub other_back : (r : Item) → r ≡ continuation p → seen 0 ≡ code "\\" → r ≡ other_at p
      unfolding other_at
      other_back r z k = z ∙ rw (← look0, ne_eqb _ (code "#") n₁, q ∙ g, eq-eqb _ _ k)

      module _ (n₂ : seen 0 ≡ code "\\" → ⊥) where
        pub other_bang : seen 0 ≡ code "!" → Error (UnrecognizedToken (code "!")) cur.at ≡ other_at p
        unfolding other_at
        other_bang k = rw (← look0, ne_eqb _ (code "#") n₁, q ∙ g, ne_eqb _ (code "\\") n₂, eq-eqb _ _ k)

        module _ (n₃ : seen 0 ≡ code "!" → ⊥) (y : Bool) (w : is_emoji (seen 0) ≡ y) (d : Cursor) (m : place d ≡ slid p) where
          pub other_emoji : y ≡ true → Tok N.Name d.at ≡ other_at p
          unfolding other_at
          other_emoji f =
              rw (← look0, ne_eqb _ (code "#") n₁, q ∙ g, ne_eqb _ (code "\\") n₂, ne_eqb _ (code "!") n₃, w ∙ f) (ap (λ (p : Place). Tok N.Name p.at) m)

          pub other_wrong : y ≡ false → Error (UnrecognizedToken (seen 0)) d.at ≡ other_at p
          unfolding other_at
          other_wrong f =
              rw (← look0, ne_eqb _ (code "#") n₁, q ∙ g, ne_eqb _ (code "\\") n₂, ne_eqb _ (code "!") n₃, w ∙ f)
              (ap (λ (p : Place). Error (UnrecognizedToken (seen 0)) p.at) m)

  -- operators
  module _ (r : Option (ℕ × ℕ)) (q : r ≡ longest_operator (seen 0) (seen 1) (seen 2)) where
    here_sign : r ≡ longest_operator (nth p 0) (nth p 1) (nth p 2)
    here_sign = q ∙ rw (look0, sees cur 1, sees cur 2)

    pub operator_tok : (k n : ℕ) → r ≡ Some (k, n) → Tok (N.Operator k) (cur.at + n) ≡ operator_or_other p
    unfolding operator_at
    operator_tok k n e = rw (← here_sign, e)

    pub operator_none : (i : Item) → i ≡ other_at p → r ≡ None → i ≡ operator_or_other p
    unfolding operator_at
    operator_none i z e = z ∙ rw (← here_sign, e)

  -- names and numbers before operators
  module _ (x : Bool) (q : is_identifier_start (seen 0) ≡ x) where
    pub starts_name_lem : x ≡ true → is_identifier_start (nth p 0) ≡ true
    starts_name_lem f = ap is_identifier_start (sym look0) ∙ q ∙ f

    pub word_name : (i : Item) → i ≡ name_at p → x ≡ true → i ≡ normal_at p
    unfolding normal_at
    word_name i z f = z ∙ rw (← look0, q ∙ f)

    module _ (g : x ≡ false) (y : Bool) (m : starts_number (seen 0) (seen 1) ≡ y) where
      pub word_number : (i : Item) → i ≡ number_at p → y ≡ true → i ≡ normal_at p
      unfolding normal_at
      word_number i z f = z ∙ rw (← look0, ← sees cur 1, q ∙ g, m ∙ f)

      pub word_operator : (i : Item) → i ≡ operator_or_other p → y ≡ false → i ≡ normal_at p
      unfolding normal_at
      word_operator i z f = z ∙ sym (rw (← look0, q ∙ g, ← sees cur 1, m ∙ f))

-- an operator's characters are bytes of the text
module _ (t : List ℕ) (at : ℕ) where
  abbrev char : ℕ → ℕ
  char k = nth (place_at t at) k

  next_first : (i c : ℕ) → nth (place_at t i) 0 ≡ c → c < 0x80 → nth (place_at t (i + 1)) 0 ≡ nth (place_at t i) 1
  next_first i c e h = ap (λ (p : Place). nth p 0) (low_on t i c e h).1 ∙ nth_slid (place_at t i) 0

  next_second : (i c : ℕ) → nth (place_at t i) 0 ≡ c → c < 0x80 → nth (place_at t (i + 1)) 1 ≡ nth (place_at t i) 2
  next_second i c e h = ap (λ (p : Place). nth p 1) (low_on t i c e h).1 ∙ nth_slid (place_at t i) 1

  pub spans_fit : (k n : ℕ) → Spans (char 0) (char 1) (char 2) k n → at + n ≤ length t
  spans_fit k zero s = absurd (omega (arith, s.some))
  spans_fit k (suc zero) s = omega (arith, (low_on t at (char 0) refl s.first).0)
  spans_fit k (suc (suc zero)) s =
      omega (arith, (low_on t (at + 1) (char 1) (next_first at (char 0) refl s.first) (s.second (omega arith))).0)
  spans_fit k (suc (suc (suc zero))) s =
      let e = next_first at (char 0) refl s.first in
      let f = next_first (at + 1) (char 1) e (s.second (omega arith)) ∙ next_second at (char 0) refl s.first in
      omega (arith, (low_on t (at + 1 + 1) (char 2) f (s.third (omega arith))).0)
  spans_fit k (suc (suc (suc (suc n)))) s = absurd (omega (arith, s.most))

pub operator_fits : (cur : Cursor) (r : Option (ℕ × ℕ)) → r ≡ longest_operator (get_or cur.window 0 0) (get_or cur.window 1 0) (get_or cur.window 2 0) → (k n : ℕ) → r ≡ Some (k, n) → cur.at + n ≤ length cur.text.now
operator_fits cur r q k n e =
    let p = place cur in
    spans_fit cur.text.now cur.at k n (subst (Reach (nth p 0) (nth p 1) (nth p 2)) (sym (here_sign cur r q) ∙ e) (operator_reach (nth p 0) (nth p 1) (nth p 2)))

-- ---- the end, blanks, strings, and the others
module _ (t : List ℕ) (at : ℕ) (cur : Cursor) (s : place cur ≡ place_at t at) where
  abbrev at_start : Place
  at_start = place_at t at

  abbrev shown : ℕ → ℕ
  shown k = get_or cur.window k 0

  seen_at : (k : ℕ) → shown k ≡ get_or (window at_start) k 0
  seen_at k = sees cur k ∙ ap (λ p. get_or (window p) k 0) s

  first_shown : shown 0 ≡ nth at_start 0
  first_shown = seen_at 0

  pub item_last : shown 0 ≡ no_char → End ≡ item_at (place_at t at)
  unfolding item_at
  item_last k = rw (← first_shown, eq-eqb _ _ k)

  module _ (n : shown 0 ≡ no_char → ⊥) (x : Bool) (q : is_blank (shown 0) ≡ x) where
    pub item_blank : (b : ℕ) → place_at t b ≡ skip_while is_blank (place_at t at) → x ≡ true → Gap b ≡ item_at (place_at t at)
    unfolding item_at
    item_blank b z f = rw (← first_shown, ne_eqb _ _ n, q ∙ f) (ap (λ (p : Place). Gap p.at) z)

    module _ (g : x ≡ false) (o : Option (StringKind × ℕ)) (m : o ≡ opening_of (shown 0) (shown 1) (shown 2)) where
      here_opening : o ≡ opening_of (nth at_start 0) (nth at_start 1) (nth at_start 2)
      here_opening = m ∙ rw (first_shown, seen_at 1, seen_at 2)

      by_opening : item_at (place_at t at) ≡ open_at (place_at t at) o
      unfolding item_at
      by_opening = rw (← first_shown, ne_eqb _ _ n, q ∙ g, first_shown, ← here_opening)

      pub item_word : (i : Item) → i ≡ normal_at (place cur) → o ≡ None → i ≡ item_at (place_at t at)
      unfolding open_at
      item_word i z u = z ∙ ap normal_at s ∙ sym (by_opening ∙ rw u)

      module _ (k : StringKind) (c : ℕ) (u : o ≡ Some (k, c)) where
        here_open : Opened t at c
        here_open = opened t at k c (sym here_opening ∙ u)

        pub prefix_few : c ≤ 2
        prefix_few = here_open.few

        -- `d` is the cursor at the quote
        module _ (d : Cursor) (l : place d ≡ ahead c (place cur)) where
          at_quote : place d ≡ ahead c (place_at t at)
          at_quote = l ∙ ap (ahead c) s

          pub open_quote : is_quote (nth (place d) 0) ≡ true
          open_quote = ap (λ (p : Place). is_quote (nth p 0)) (at_quote ∙ sym here_open.place) ∙ here_open.quote

          pub item_string : (i : Item) → i ≡ string_at k (place d) → i ≡ item_at (place_at t at)
          unfolding open_at
          item_string i z = z ∙ ap (string_at k) at_quote ∙ sym (by_opening ∙ rw u)
