-- The body of a literal, byte by byte: a backslash takes the next character along, every character from 0x80 up is passed, and a
-- byte below 0x80 is a character. In a loop, what the literal is from `i` on is what it was at the start: each turn keeps that.
-- Assumes nothing.
use Prim.Native.Nat.{ℕ, ◌+◌, ◌<◌, ◌≤◌}
use Prim.Native.Char.{code}
use mathlib.Core.Path.{◌≡◌, refl, sym, ◌∙◌, ap}
use mathlib.Core.List.{List, [], ◌∷◌}
use mathlib.Core.Bool.{Bool, true, false}
use mathlib.Core.Logic.{◌⊎◌, inl, inr, ⊎_elim}
use native.Mathlib.Omega.{arith}
use native.Mathlib.Decide.{dec_lt}
use native.Mathlib.Numerals.{add-one}
use borrow.Author.Tests.{eq-eqb, ne_eqb, eqb-true}
use lib.Dec.{eqb}
use lib.ListN.{length, get_or, drop}
use Rattle.choice.specs.Choice.{both, either}
use Rattle.choice.proofs.Laws.{both_left, both_right, true_is_not_false}
use Rattle.utf8.specs.Chars.{chars, width, no_char}
use Rattle.utf8.proofs.Bytes.{get_or_any}
use Rattle.utf8.proofs.Laws.{width_ascii, in_list_lem}
use Rattle.utf8.proofs.Pass.{high_on, plain, none}
use Rattle.window.specs.Place.{Place, place_at, nth, slid, slid_by, next_char}
use Rattle.window.specs.declared.cursor.Cursor.{Cursor}
use Rattle.window.specs.Promises.{place}
use Rattle.window.proofs.Laws.{look, high_first, next_nth, step_le, low_on, nth_slid, sees}
use Rattle.token.specs.declared.StringKind.{StringKind}
use Rattle.token.specs.declared.Token.TheVariants as T
use Rattle.token.specs.declared.Ending.TheVariants.{StringError, Eof, EolInString}
use Rattle.token.specs.declared.Item.{Item}
use Rattle.token.specs.declared.Item.TheVariants.{Tok, Error}
use Rattle.names.specs.Runs.{is_newline}
use Rattle.names.proofs.Laws.{newline_is, no_newline}
use Rattle.strings.specs.Strings.{is_quote, length_of_next, triple_at, breaks, closes, unclosed, body_from, body, ahead, string_at}

-- a character from 0x80 up is no quote
no_quote : (c q : ℕ) → 0x80 ≤ c → q < 128 → eqb c q ≡ false
no_quote c q h k = ne_eqb c q (λ e. omega arith)

module _ (k : StringKind) where
  -- ---- a backslash takes the next character along
  along_by : (m : Bool) (q at : ℕ) (l : List ℕ) → body_from k m q (length_of_next l) at l ≡ body k m q (next_char (record { at = at; rest = l }))
  unfolding length_of_next body_from body next_char slid slid_by
  along_by m q at [] = refl
  along_by m q at (c ∷ []) = go (eqb c (code "\r")) refl
    where
      go : (b : Bool) → eqb c (code "\r") ≡ b → body_from k m q (length_of_next (c ∷ [])) at (c ∷ []) ≡ body k m q (next_char (record { at = at; rest = c ∷ [] }))
      go true e = simp e
      go false e = simp e
  along_by m q at (c ∷ (d ∷ r)) = go (eqb c (code "\r")) (eqb d (code "\n")) refl refl
    where
      go : (b b2 : Bool) → eqb c (code "\r") ≡ b → eqb d (code "\n") ≡ b2 → body_from k m q (length_of_next (c ∷ (d ∷ r))) at (c ∷ (d ∷ r)) ≡ body k m q (next_char (record { at = at; rest = c ∷ (d ∷ r) }))
      go true true e f = simp (e, f)
      go true false e f = simp (e, f)
      go false b2 e f = simp e

  -- ---- every character from 0x80 up is passed
  high_over : (m : Bool) (q : ℕ) → q < 128 → (at c : ℕ) (r : List ℕ) → 0x80 ≤ c → body_from k m q 0 (at + width c) r ≡ body_from k m q 0 at (c ∷ r)
  unfolding body_from breaks closes triple_at
  high_over true q n at c r h = simp (no_quote c (code "\\") h (omega arith), no_quote c q h n)
  high_over false q n at c r h = simp (no_quote c (code "\\") h (omega arith), no_newline c (λ e. omega arith) (λ e. omega arith), no_quote c q h n)

  high_more : (m : Bool) (q : ℕ) → q < 128 → (t : List ℕ) (i : ℕ) → i < length t → 0x80 ≤ get_or t i 0 → body k m q (place_at t (i + 1)) ≡ body k m q (place_at t i)
  unfolding body
  high_more m q n t i h l =
      let d = get_or_any t i 256 0 h in
      ap (λ x. body_from k m q 0 x (chars (drop x t))) (add-one i) ∙ high_on (body_from k m q 0) (high_over m q n) t i h (omega arith)

  -- ---- the body at a byte below 0x80
  body_cons : (m : Bool) (q : ℕ) (t : List ℕ) (i b : ℕ) → i < length t → b < 0x80 → get_or t i 0 ≡ b → body k m q (place_at t i) ≡ body_from k m q 0 i (b ∷ chars (drop (i + 1) t))
  unfolding body
  body_cons m q t i b h n e = ap (body_from k m q 0 i) (plain t i h (omega arith) ∙ ap (λ x. x ∷ chars (drop (i + 1) t)) e)

  on_escape : (m : Bool) (q at : ℕ) (r : List ℕ) → body_from k m q 0 at (code "\\" ∷ r) ≡ body_from k m q (length_of_next r) (at + 1) r
  unfolding body_from width
  on_escape m q at r = refl

  on_newline : (q at c : ℕ) (r : List ℕ) → (c ≡ code "\n") ⊎ (c ≡ code "\r") → body_from k false q 0 at (c ∷ r) ≡ Error EolInString (next_char (record { at = at; rest = c ∷ r })).at
  unfolding body_from breaks is_newline length_of_next next_char slid slid_by width
  on_newline q at c r (inl e) = rw e
  on_newline q at c [] (inr e) = rw e
  on_newline q at c (d ∷ r) (inr e) = rw e (go (eqb d (code "\n")) refl)
    where
      go : (b : Bool) → eqb d (code "\n") ≡ b → body_from k false q 0 at (code "\r" ∷ (d ∷ r)) ≡ Error EolInString (next_char (record { at = at; rest = code "\r" ∷ (d ∷ r) })).at
      go true e = simp e (simp (eqb-true d (code "\n") e) (ap (Error EolInString) (omega arith)))
      go false e = simp e

  on_quote : (q at : ℕ) (r : List ℕ) → (q ≡ code "\\" → ⊥) → is_newline q ≡ false → body_from k false q 0 at (q ∷ r) ≡ Tok (T.Str k false) (at + 1)
  unfolding body_from breaks closes
  on_quote q at r a b = simp (ne_eqb q (code "\\") a, b, eq-eqb q q refl)

  on_plain : (q at b : ℕ) (r : List ℕ) → b < 0x80 → (b ≡ code "\\" → ⊥) → is_newline b ≡ false → (b ≡ q → ⊥) → body_from k false q 0 at (b ∷ r) ≡ body_from k false q 0 (at + 1) r
  unfolding body_from breaks closes
  on_plain q at b r n x y w = simp (ne_eqb b (code "\\") x, y, ne_eqb b q w, width_ascii b n)

  on_triple : (q at b : ℕ) (r : List ℕ) → (b ≡ code "\\" → ⊥) → triple_at q (b ∷ r) ≡ true → body_from k true q 0 at (b ∷ r) ≡ Tok (T.Str k true) (at + 3)
  unfolding body_from breaks closes
  on_triple q at b r x e = simp (ne_eqb b (code "\\") x, e)

  on_alone : (q at b : ℕ) (r : List ℕ) → b < 0x80 → (b ≡ code "\\" → ⊥) → triple_at q (b ∷ r) ≡ false → body_from k true q 0 at (b ∷ r) ≡ body_from k true q 0 (at + 1) r
  unfolding body_from breaks closes
  on_alone q at b r n x e = simp (ne_eqb b (code "\\") x, e, width_ascii b n)

  -- ---- the turns of both loops
  module _ (m : Bool) (q : ℕ) (t : List ℕ) (i : ℕ) (z : Item) (w : body k m q (place_at t i) ≡ z) where
    -- the end of the text
    body_over : length t ≤ i → Error (unclosed m) i ≡ z
    unfolding body body_from
    body_over h = sym (ap (body_from k m q 0 i) (none t i h)) ∙ w

    -- a backslash
    pub body_escape : (n : ℕ) → place_at t n ≡ next_char (place_at t (i + 1)) → i < length t → get_or t i 0 ≡ code "\\" → body k m q (place_at t n) ≡ z
    body_escape n p h e = ap (body k m q) p ∙ sym (along_by m q (i + 1) (chars (drop (i + 1) t))) ∙ sym (on_escape m q i (chars (drop (i + 1) t))) ∙ sym (body_cons m q t i (code "\\") h (omega arith) e) ∙ w

  -- ---- single quotes
  module _ (q : ℕ) (t : List ℕ) (i : ℕ) (z : Item) (w : body k false q (place_at t i) ≡ z) where
    pub single_over : length t ≤ i → Error StringError i ≡ z
    unfolding unclosed
    single_over h = body_over false q t i z w h

    module _ (h : i < length t) where
      module _ (x : Bool) (v : is_newline (get_or t i 0) ≡ x) where
        pub single_newline : (n : ℕ) → place_at t n ≡ next_char (place_at t i) → x ≡ true → Error EolInString n ≡ z
        single_newline n p f =
            let e = newline_is (get_or t i 0) (v ∙ f) in
            let low : get_or t i 0 < 0x80 = ⊎_elim (λ y. omega arith) (λ y. omega arith) e in
            ap (λ (y : Place). Error EolInString y.at) (p ∙ ap (λ l. next_char (record { at = i; rest = l })) (plain t i h low))
            ∙ sym (on_newline q i (get_or t i 0) (chars (drop (i + 1) t)) e) ∙ sym (body_cons false q t i _ h low refl) ∙ w

        module _ (n : q < 128) (a : get_or t i 0 ≡ code "\\" → ⊥) (f : x ≡ false) where
          pub single_close : get_or t i 0 ≡ q → Tok (T.Str k false) (i + 1) ≡ z
          single_close e = sym (on_quote q i (chars (drop (i + 1) t)) (λ x. a (e ∙ x)) (ap is_newline (sym e) ∙ v ∙ f)) ∙ sym (body_cons false q t i q h n e) ∙ w

          pub single_more : (get_or t i 0 ≡ q → ⊥) → body k false q (place_at t (i + 1)) ≡ z
          unfolding body
          single_more d = go (dec_lt (get_or t i 0) 0x80)
            where
              go : Dec (get_or t i 0 < 0x80) → body k false q (place_at t (i + 1)) ≡ z
              go (yes l) = sym (on_plain q i (get_or t i 0) (chars (drop (i + 1) t)) l a (v ∙ f) d) ∙ sym (body_cons false q t i _ h l refl) ∙ w
              go (no l) = high_more false q n t i h (omega arith) ∙ w

  -- ---- three quotes
  module _ (q : ℕ) (t : List ℕ) (i : ℕ) (z : Item) (w : body k true q (place_at t i) ≡ z) where
    pub triple_over : length t ≤ i → Error Eof i ≡ z
    unfolding unclosed
    triple_over h = body_over true q t i z w h

    module _ (b : Bool) (e : triple_at q (place_at t i).rest ≡ b) (h : i < length t) (n : q < 128) (a : get_or t i 0 ≡ code "\\" → ⊥) where
      pub triple_close : b ≡ true → Tok (T.Str k true) (i + 3) ≡ z
      unfolding triple_at
      triple_close f = go (dec_lt (get_or t i 0) 0x80)
        where
          go : Dec (get_or t i 0 < 0x80) → Tok (T.Str k true) (i + 3) ≡ z
          go (yes l) = sym (on_triple q i (get_or t i 0) (chars (drop (i + 1) t)) a (ap (triple_at q) (sym (plain t i h l)) ∙ e ∙ f)) ∙ sym (body_cons true q t i _ h l refl) ∙ w
          go (no l) =
              let d = get_or_any t i 256 0 h in
              absurd (true_is_not_false (sym (both_left _ _ (e ∙ f)) ∙ no_quote (nth (place_at t i) 0) q (high_first t i (omega arith)) n))

      pub triple_more : b ≡ false → body k true q (place_at t (i + 1)) ≡ z
      unfolding body
      triple_more f = go (dec_lt (get_or t i 0) 0x80)
        where
          go : Dec (get_or t i 0 < 0x80) → body k true q (place_at t (i + 1)) ≡ z
          go (yes l) = sym (on_alone q i (get_or t i 0) (chars (drop (i + 1) t)) l a (ap (triple_at q) (sym (plain t i h l)) ∙ e ∙ f)) ∙ sym (body_cons true q t i _ h l refl) ∙ w
          go (no l) = high_more true q n t i h (omega arith) ∙ w

-- what a backslash takes along lies ahead
pub escape_less : (t : List ℕ) (i n : ℕ) → place_at t n ≡ next_char (place_at t (i + 1)) → i < n
escape_less t i n p = let e = ap (λ (x : Place). x.at) p in omega (arith, step_le (place_at t (i + 1)))

-- ---- three quotes, by bytes
module _ (t : List ℕ) (i q : ℕ) (n : q < 128) where
  eq_look : (j : ℕ) → eqb (nth (place_at t j) 0) q ≡ eqb (get_or t j 256) q
  eq_look j = look (λ c. eqb c q) false (λ c h. no_quote c q h n) t j

  pub quote_low : (j : ℕ) → get_or t j 256 ≡ q → (j < length t) × (get_or t j 0 < 0x80)
  quote_low j e = let h = in_list_lem t j (omega arith) in let d = get_or_any t j 256 0 h in (h, omega arith)

  module _ (a : ℕ) (e : a ≡ get_or t i 256) where
    pub tripled_none : (a ≡ q → ⊥) → triple_at q (place_at t i).rest ≡ false
    unfolding triple_at
    tripled_none f = simp (eq_look i ∙ ne_eqb _ _ (λ x. f (e ∙ x)))

    module _ (f : a ≡ q) where
      here : (i < length t) × (get_or t i 0 < 0x80)
      here = quote_low i (sym e ∙ f)

      pub first_in : i < length t
      first_in = here.0

      module _ (b : ℕ) (u : b ≡ get_or t (i + 1) 256) where
        both_look : (eqb (nth (place_at t i) 0) q ≡ true) × (eqb (nth (place_at t i) 1) q ≡ eqb b q)
        both_look = (
          eq_look i ∙ eq-eqb _ _ (sym e ∙ f),
          ap (λ x. eqb x q) (next_nth t i here.0 here.1 0) ∙ eq_look (i + 1) ∙ ap (λ x. eqb x q) (sym u),
        )

        pub tripled_one : (b ≡ q → ⊥) → triple_at q (place_at t i).rest ≡ false
        unfolding triple_at
        tripled_one g = simp (both_look.0, both_look.1 ∙ ne_eqb b q g)

        module _ (g : b ≡ q) where
          pub tripled_two : (c : ℕ) → c ≡ get_or t (i + 2) 256 → triple_at q (place_at t i).rest ≡ eqb c q
          unfolding triple_at
          tripled_two c v =
              let p = quote_low (i + 1) (sym u ∙ g) in
              let s : nth (place_at t i) 2 ≡ nth (place_at t (i + 1 + 1)) 0 = next_nth t i here.0 here.1 1 ∙ next_nth t (i + 1) p.0 p.1 0 in
              let j : i + 1 + 1 ≡ i + 2 = omega arith in
              simp (both_look.0, both_look.1 ∙ eq-eqb b q g) (ap (λ x. eqb x q) s ∙ eq_look (i + 1 + 1) ∙ ap (λ x. eqb (get_or t x 256) q) j ∙ ap (λ x. eqb x q) (sym v))

-- ---- the whole literal
either_cases : (a b : Bool) → either a b ≡ true → (a ≡ true) ⊎ (b ≡ true)
either_cases true b e = inl refl
either_cases false b e = inr e

-- a quote is above the newlines, and below 0x80, so it is a byte of the text
pub quote_small : (c : ℕ) → is_quote c ≡ true → (13 < c) × (c < 40)
unfolding is_quote
quote_small c e = ⊎_elim (λ p. omega (arith, eqb-true c (code "\"") p)) (λ p. omega (arith, eqb-true c (code "'") p)) (either_cases (eqb c (code "\"")) (eqb c (code "'")) e)

-- the second and the third of three quotes
pub tripled_all : (q : ℕ) (l : List ℕ) → triple_at q l ≡ true → (get_or l 1 no_char ≡ q) × (get_or l 2 no_char ≡ q)
unfolding triple_at
tripled_all q l e =
    let p = both_right (eqb (get_or l 0 no_char) q) _ e in
    (eqb-true _ _ (both_left (eqb (get_or l 1 no_char) q) _ p), eqb-true _ _ (both_right (eqb (get_or l 1 no_char) q) _ p))

module _ (t : List ℕ) (i : ℕ) (e : is_quote (nth (place_at t i) 0) ≡ true) where
  low : nth (place_at t i) 0 < 0x80
  low = omega (arith, quote_small _ e)

  pub quote_in : i < length t
  quote_in = (low_on t i _ refl low).0

  -- behind the quote, and behind three
  pub one_on : place_at t (i + 1) ≡ ahead 1 (place_at t i)
  unfolding ahead
  one_on = (low_on t i _ refl low).1

  pub three_on : triple_at (nth (place_at t i) 0) (place_at t i).rest ≡ true → place_at t (i + 3) ≡ ahead 3 (place_at t i)
  unfolding ahead
  three_on g =
      let p = place_at t i in
      let q = nth p 0 in
      let n = tripled_all q p.rest g in
      let p1 : place_at t (i + 1) ≡ slid p = (low_on t i q refl low).1 in
      let e1 : nth (place_at t (i + 1)) 0 ≡ q = ap (λ x. nth x 0) p1 ∙ nth_slid p 0 ∙ n.0 in
      let p2 : place_at t (i + 1 + 1) ≡ slid (slid p) = (low_on t (i + 1) q e1 low).1 ∙ ap slid p1 in
      let e2 : nth (place_at t (i + 1 + 1)) 0 ≡ q = ap (λ x. nth x 0) p2 ∙ nth_slid (slid p) 0 ∙ nth_slid p 1 ∙ n.1 in
      let j : i + 3 ≡ i + 1 + 1 + 1 = omega arith in
      ap (place_at t) j ∙ (low_on t (i + 1 + 1) q e2 low).1 ∙ ap slid p2

-- by the window of a cursor at the quote
module _ (cur : Cursor) (e : is_quote (nth (place cur) 0) ≡ true) where
  abbrev p : Place
  p = place cur

  abbrev seen : ℕ → ℕ
  seen j = get_or cur.window j 0

  pub quote_fits : seen 0 < 128
  quote_fits = omega (arith, sees cur 0, quote_small (nth p 0) e)

  module _ (k : StringKind) (r : Item) (b : Bool) (f : both (eqb (seen 1) (seen 0)) (eqb (seen 2) (seen 0)) ≡ b) where
    told : triple_at (nth p 0) p.rest ≡ b
    unfolding triple_at
    told = rw (← sees cur 0, ← sees cur 1, ← sees cur 2, eq-eqb (seen 0) (seen 0) refl) f

    pub string_one : r ≡ body k false (seen 0) (place_at cur.text.now (cur.at + 1)) → b ≡ false → r ≡ string_at k p
    unfolding string_at
    string_one u g = u ∙ rw (sees cur 0, one_on cur.text.now cur.at e) (sym (simp (told ∙ g)))

    pub string_three : r ≡ body k true (seen 0) (place_at cur.text.now cur.ahead) → b ≡ true → r ≡ string_at k p
    unfolding string_at ahead
    string_three u g = u ∙ rw (sees cur 0, cur.reaches) (sym (simp (told ∙ g)))
