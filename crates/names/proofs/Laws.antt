-- Laws of runs. In a loop, what is left to skip from `i` is what was left at the start: each turn keeps that.
-- Assumes nothing.
use Prim.Native.Nat.{ℕ, ◌+◌, ◌<◌, ◌≤◌}
use Prim.Native.Char.{code}
use mathlib.Core.Path.{◌≡◌, refl, sym, ◌∙◌, ap, subst}
use mathlib.Core.List.{List, [], ◌∷◌}
use mathlib.Core.Bool.{Bool, true, false, not}
use mathlib.Core.Logic.{◌⊎◌, inl, inr, ⊎_elim}
use native.Mathlib.Omega.{arith}
use native.Mathlib.Decide.{dec_lt}
use mir.Syntax.{w8}
use mir.Val.{Fits}
use borrow.Author.Tests.{eqb-true, ne_eqb}
use lib.Dec.{eqb}
use lib.ListN.{length, get_or, drop}
use Rattle.utf8.specs.Chars.{chars, width, no_char}
use Rattle.utf8.proofs.Bytes.{get_or_any}
use Rattle.utf8.proofs.Laws.{width_ascii}
use Rattle.utf8.proofs.Pass.{pass, plain, none}
use Rattle.window.specs.Place.{Place, place_at, nth, slid, slid_by}
use Rattle.window.specs.Promises.{CharAt, place}
use Rattle.window.specs.declared.cursor.Cursor.{Cursor}
use Rattle.window.proofs.Laws.{look, this_nth, nth_slid, char_on, sees}
use Rattle.choice.proofs.Laws.{choose_keeps, true_is_not_false}
use Rattle.classes.specs.Classes.{is_identifier_start, is_identifier_continuation}
use Rattle.classes.specs.Promises.{is_ascii_continuation}
use Rattle.classes.proofs.Laws.{ascii_continue, no_continue_beyond, start_continues}
use Rattle.classes.proofs.ContinuationBits.{name_high}
use Rattle.names.specs.Runs.{skip_from, skip_while, is_newline, not_newline, is_blank}
use Rattle.names.specs.Promises.{Tells}

-- ---- a run goes on over a character of the class, and stops at any other
run_on : (f : ℕ → Bool) (at c : ℕ) (r : List ℕ) → f c ≡ true → skip_from f (at + width c) r ≡ skip_from f at (c ∷ r)
unfolding skip_from
run_on f at c r e = simp e

stop_from : (f : ℕ → Bool) (at : ℕ) (l : List ℕ) → f (get_or l 0 no_char) ≡ false → skip_from f at l ≡ record { at = at; rest = l }
unfolding skip_from
stop_from f at [] e = refl
stop_from f at (c ∷ r) e = simp e

-- a run is over where no character of the class stands
pub stop_at : (f : ℕ → Bool) (p : Place) → f (nth p 0) ≡ false → skip_while f p ≡ p
unfolding skip_while
stop_at f p e = stop_from f p.at p.rest e

-- ---- the turns of a loop over bytes
module _ (f : ℕ → Bool) (t : List ℕ) (i : ℕ) (q : Place) (w : skip_while f (place_at t i) ≡ q) where
  -- the end of the text
  pub run_over : length t ≤ i → place_at t i ≡ q
  unfolding skip_while skip_from
  run_over h = let e : skip_while f (place_at t i) ≡ place_at t i = rw (none t i h) in sym e ∙ w

  -- a byte of a class that all characters from 0x80 up are in
  pub run_full : ((c : ℕ) → 0x80 ≤ c → f c ≡ true) → i < length t → f (get_or t i 0) ≡ true → skip_while f (place_at t (i + 1)) ≡ q
  unfolding skip_while
  run_full full h e = pass (skip_from f) f full (run_on f) t i h e ∙ w

  -- a byte below 0x80 that is not of the class
  pub run_stop : i < length t → get_or t i 0 < 0x80 → f (get_or t i 0) ≡ false → place_at t i ≡ q
  run_stop h k e = sym (stop_at f (place_at t i) (ap f (this_nth t i h k) ∙ e)) ∙ w

  -- a class that no character from 0x80 up is in
  module _ (low : (c : ℕ) → 0x80 ≤ c → f c ≡ false) (b : Bool) (e : f (get_or t i 0) ≡ b) (h : i < length t) where
    -- a byte of it goes on, any other byte ends the run
    pub low_more : b ≡ true → skip_while f (place_at t (i + 1)) ≡ q
    unfolding skip_while
    low_more g = go (dec_lt (get_or t i 0) 0x80)
      where
        go : Dec (get_or t i 0 < 0x80) → skip_while f (place_at t (i + 1)) ≡ q
        go (yes k) = ap (λ n. skip_from f (i + n) (chars (drop (i + 1) t))) (sym (width_ascii (get_or t i 0) k)) ∙ run_on f i _ _ (e ∙ g) ∙ ap (skip_from f i) (sym (plain t i h k)) ∙ w
        go (no k) = let z : ◌≡◌ {A = ℕ} 0 1 = cc (low (get_or t i 0) (omega arith)) in absurd (omega arith)

    pub low_stop : b ≡ false → place_at t i ≡ q
    low_stop g = sym (stop_at f (place_at t i) (look f false low t i ∙ ap f (get_or_any t i 256 0 h) ∙ e ∙ g)) ∙ w

-- ---- the turns of a loop over the bytes that pass a test, which tells the class
module _ (test : ℕ → Bool → Type 0) (f : ℕ → Bool) (k : Tells test f) (t : List ℕ) (i : ℕ) (q : Place) (w : skip_while f (place_at t i) ≡ q)
    (h : i < length t) (u : Fits w8 (get_or t i 0)) (r : Bool) (p : test (get_or t i 0) r) where
  -- a byte that passes goes on, any other byte ends the run
  pub test_more : r ≡ true → skip_while f (place_at t (i + 1)) ≡ q
  test_more y = go (f 0x80) refl
    where
      e : f (get_or t i 0) ≡ true
      e = k.0 _ r (omega (arith, u)) p ∙ y

      go : (b : Bool) → f 0x80 ≡ b → skip_while f (place_at t (i + 1)) ≡ q
      go true z = run_full f t i q w (λ c l. k.1 c l ∙ z) h e
      go false z = low_more f t i q w (λ c l. k.1 c l ∙ z) true e h refl

  pub test_stop : r ≡ false → place_at t i ≡ q
  test_stop y = go (f 0x80) refl
    where
      e : f (get_or t i 0) ≡ false
      e = k.0 _ r (omega (arith, u)) p ∙ y

      low : f 0x80 ≡ true → Dec (get_or t i 0 < 0x80) → place_at t i ≡ q
      low z (yes l) = run_stop f t i q w h l e
      low z (no l) = absurd (true_is_not_false (sym (k.1 (get_or t i 0) (omega arith) ∙ z) ∙ e))

      go : (b : Bool) → f 0x80 ≡ b → place_at t i ≡ q
      go true z = low z (dec_lt (get_or t i 0) 0x80)
      go false z = low_stop f t i q w (λ c l. k.1 c l ∙ z) false e h refl

-- all characters from 0x80 up have one answer of the class
pub one_high : (f : ℕ → Bool) (b : Bool) → ((c : ℕ) → 0x80 ≤ c → f c ≡ b) → (c : ℕ) → 0x80 ≤ c → f c ≡ f 0x80
one_high f b e c h = e c h ∙ sym (e 0x80 (omega arith))

-- ---- the turns of a loop over characters
module _ (f : ℕ → Bool) (n : f no_char ≡ false) where
  step_by : (at : ℕ) (l : List ℕ) → f (get_or l 0 no_char) ≡ true → (skip_while f (slid_by at l) ≡ skip_from f at l) × (length (slid_by at l).rest < length l)
  unfolding skip_while skip_from slid_by
  step_by at [] e = let z : ◌≡◌ {A = ℕ} 0 1 = cc in absurd (omega arith)
  step_by at (c ∷ r) e = (simp e, omega arith)

  step_on : (p : Place) → f (nth p 0) ≡ true → (skip_while f (slid p) ≡ skip_while f p) × (length (slid p).rest < length p.rest)
  unfolding skip_while slid
  step_on p e = step_by p.at p.rest e

  module _ (t : List ℕ) (i c m : ℕ) (a : CharAt t i c m) (b : Bool) (e : f c ≡ b) where
    -- a character of the class is passed, and less is left
    pub char_less : b ≡ true → length (place_at t m).rest < length (place_at t i).rest
    char_less g = subst (λ (x : Place). length x.rest < length (place_at t i).rest) (sym a.place) (step_on (place_at t i) (ap f (sym a.first) ∙ e ∙ g)).1

    pub char_again : (q : Place) → skip_while f (place_at t i) ≡ q → b ≡ true → skip_while f (place_at t m) ≡ q
    char_again q w g = ap (skip_while f) a.place ∙ (step_on (place_at t i) (ap f (sym a.first) ∙ e ∙ g)).0 ∙ w

-- any other character ends the run
pub char_stop : (f : ℕ → Bool) (t : List ℕ) (i c m : ℕ) → CharAt t i c m → (b : Bool) → f c ≡ b → (q : Place) → skip_while f (place_at t i) ≡ q → b ≡ false → place_at t i ≡ q
char_stop f t i c m a b e q w g = sym (stop_at f (place_at t i) (ap f (sym a.first) ∙ e ∙ g)) ∙ w

-- ---- a run of one class after that of a smaller one
stops_from : (f : ℕ → Bool) → f no_char ≡ false → (at : ℕ) (l : List ℕ) → f (nth (skip_from f at l) 0) ≡ false
unfolding skip_from
stops_from f n at [] = n
stops_from f n at (c ∷ r) = choose_keeps (λ x. f (nth x 0) ≡ false) (f c) (λ e. stops_from f n (at + width c) r) (λ e. e)

-- what stands behind a run is not of its class
pub stops : (f : ℕ → Bool) → f no_char ≡ false → (p : Place) → f (nth (skip_while f p) 0) ≡ false
unfolding skip_while
stops f n p = stops_from f n p.at p.rest

module _ (f g : ℕ → Bool) (sub : (c : ℕ) → g c ≡ true → f c ≡ true) where
  more_from : (at : ℕ) (l : List ℕ) → skip_while f (skip_from g at l) ≡ skip_from f at l
  unfolding skip_while skip_from
  more_from at [] = refl
  more_from at (c ∷ r) =
      choose_keeps (λ x. skip_while f x ≡ skip_from f at (c ∷ r)) (g c)
      (λ e. more_from (at + width c) r ∙ run_on f at c r (sub c e)) (λ e. refl)

  -- after the run of a smaller class, the run of the class goes on to the same end
  pub skip_more : (p : Place) → skip_while f (skip_while g p) ≡ skip_while f p
  unfolding skip_while
  skip_more p = more_from p.at p.rest

-- ---- newlines
pub newline_is : (c : ℕ) → is_newline c ≡ true → (c ≡ code "\n") ⊎ (c ≡ code "\r")
unfolding is_newline
newline_is c = choose_keeps (λ b. b ≡ true → (c ≡ code "\n") ⊎ (c ≡ code "\r")) (eqb c (code "\n")) (λ e _. inl (eqb-true c (code "\n") e)) (λ _ e. inr (eqb-true c (code "\r") e))

pub no_newline : (c : ℕ) → (c ≡ code "\n" → ⊥) → (c ≡ code "\r" → ⊥) → is_newline c ≡ false
unfolding is_newline
no_newline c m n = simp (ne_eqb c (code "\n") m, ne_eqb c (code "\r") n)

-- what is neither LF nor CR is no newline, and the other way round
pub in_line : (c : ℕ) → (c ≡ code "\n" → ⊥) → (c ≡ code "\r" → ⊥) → not_newline c ≡ true
unfolding not_newline
in_line c m n = simp (no_newline c m n)

pub no_break : (c : ℕ) → not_newline c ≡ true → (c ≡ code "\n" → ⊥) × (c ≡ code "\r" → ⊥)
unfolding not_newline is_newline
no_break c e = (λ z. true_is_not_false (sym e ∙ ap not_newline z), λ z. true_is_not_false (sym e ∙ ap not_newline z))

pub breaks : (c : ℕ) → not_newline c ≡ false → (c ≡ code "\n") ⊎ (c ≡ code "\r")
unfolding not_newline
breaks c e = go (is_newline c) refl e
  where
    go : (b : Bool) → is_newline c ≡ b → not b ≡ false → (c ≡ code "\n") ⊎ (c ≡ code "\r")
    go true q e = newline_is c q
    go false q e = absurd (true_is_not_false e)

-- ---- comments
pub line_full : (c : ℕ) → 0x80 ≤ c → not_newline c ≡ true
line_full c h = in_line c (λ e. omega arith) (λ e. omega arith)

module _ (t : List ℕ) (i : ℕ) (q : Place) (w : skip_while not_newline (place_at t i) ≡ q) (h : i < length t) (b : Bool) (n : is_newline (get_or t i 0) ≡ b) where
  -- a byte that is no newline is passed, a newline ends the comment
  pub line_more : b ≡ false → skip_while not_newline (place_at t (i + 1)) ≡ q
  unfolding not_newline
  line_more f = run_full not_newline t i q w line_full h (simp (n ∙ f))

  pub line_stop : b ≡ true → place_at t i ≡ q
  unfolding not_newline
  line_stop f = run_stop not_newline t i q w h (⊎_elim (λ e. omega arith) (λ e. omega arith) (newline_is (get_or t i 0) (n ∙ f))) (simp (n ∙ f))

-- ---- blanks and the ASCII part of names
-- no character from 0x80 up is a blank; nothing goes on with a name at the end of the text
pub blank_low : (c : ℕ) → 0x80 ≤ c → is_blank c ≡ false
unfolding is_blank
blank_low c h = simp (ne_eqb c (code " ") (λ e. omega arith), ne_eqb c (code "\t") (λ e. omega arith), ne_eqb c (code "\u{c}") (λ e. omega arith))

pub name_none : is_identifier_continuation no_char ≡ false
name_none = no_continue_beyond no_char (omega arith)

-- ---- a name, from the end of its ASCII part on
-- an ASCII letter or digit goes on with a name
pub name_continues : (c : ℕ) → is_ascii_continuation c ≡ true → is_identifier_continuation c ≡ true
name_continues c e = go (dec_lt c 0x80)
  where
    go : Dec (c < 0x80) → is_identifier_continuation c ≡ true
    go (yes k) = ascii_continue c k ∙ e
    go (no k) = let z : ◌≡◌ {A = ℕ} 0 1 = cc (name_high c (omega arith)) in absurd (omega arith)

-- the end of the text, or a byte below 0x80 that is no letter or digit, ends the name
pub rest_over : (t : List ℕ) (i : ℕ) → length t ≤ i → place_at t i ≡ skip_while is_identifier_continuation (place_at t i)
rest_over t i h = run_over is_identifier_continuation t i _ refl h

pub rest_stop : (t : List ℕ) (i : ℕ) → is_ascii_continuation (nth (place_at t i) 0) ≡ false → i < length t → get_or t i 0 < 0x80 → place_at t i ≡ skip_while is_identifier_continuation (place_at t i)
rest_stop t i a h k = run_stop is_identifier_continuation t i _ refl h k (ascii_continue _ k ∙ ap is_ascii_continuation (sym (this_nth t i h k)) ∙ a)

-- the ASCII part ends at i
module _ (t : List ℕ) (at i : ℕ) (w : place_at t i ≡ skip_while is_ascii_continuation (place_at t at)) where
  -- no letter or digit stands there
  pub next_not : is_ascii_continuation (nth (place_at t i) 0) ≡ false
  next_not = ap (λ p. is_ascii_continuation (nth p 0)) w ∙ stops is_ascii_continuation (name_high no_char (omega arith)) (place_at t at)

  -- the name goes on from there
  pub name_rest : (r : ℕ) → place_at t r ≡ skip_while is_identifier_continuation (place_at t i) → place_at t r ≡ skip_while is_identifier_continuation (place_at t at)
  name_rest r e = e ∙ ap (skip_while is_identifier_continuation) w ∙ skip_more is_identifier_continuation is_ascii_continuation name_continues (place_at t at)

-- ---- a name by the window of a cursor at its start
module _ (cur : Cursor) (start : is_identifier_start (nth (place cur) 0) ≡ true) where
  abbrev seen : ℕ → ℕ
  seen k = get_or cur.window k 0

  abbrev p : Place
  p = place cur

  abbrev t : List ℕ
  t = cur.text.now

  -- a character that goes on with a name is one
  some : (c : ℕ) → is_identifier_continuation c ≡ true → c ≡ no_char → ⊥
  some c e z = true_is_not_false (sym e ∙ ap is_identifier_continuation z ∙ name_none)

  pub start_in : is_identifier_continuation (nth p 0) ≡ true
  start_in = start_continues (nth p 0) start

  over_first : skip_while is_identifier_continuation (slid p) ≡ skip_while is_identifier_continuation p
  over_first = (step_on is_identifier_continuation name_none p start_in).0

  module _ (n : ℕ) (z : n ≡ width (seen 0)) where
    at_second : (cur.at + n ≤ length t) × (place_at t (cur.at + n) ≡ slid p)
    at_second = rw (z, sees cur 0) (char_on t cur.at (nth p 0) refl (some (nth p 0) start_in))

    pub second_fits : cur.at + n ≤ length t
    second_fits = at_second.0

    module _ (x : Bool) (q : is_identifier_continuation (seen 1) ≡ x) where
      second_seen : is_identifier_continuation (nth (slid p) 0) ≡ x
      second_seen = ap is_identifier_continuation (nth_slid p 0 ∙ sym (sees cur 1)) ∙ q

      pub wide_one : x ≡ false → place_at t (cur.at + n) ≡ skip_while is_identifier_continuation p
      wide_one f = at_second.1 ∙ sym (stop_at is_identifier_continuation (slid p) (second_seen ∙ f)) ∙ over_first

      module _ (g : x ≡ true) where
        over_second : skip_while is_identifier_continuation (slid (slid p)) ≡ skip_while is_identifier_continuation p
        over_second = (step_on is_identifier_continuation name_none (slid p) (second_seen ∙ g)).0 ∙ over_first

        at_third : (m : ℕ) → m ≡ width (seen 1) → (cur.at + n + m ≤ length t) × (place_at t (cur.at + n + m) ≡ slid (slid p))
        at_third m u =
            let e : nth (place_at t (cur.at + n)) 0 ≡ seen 1 = ap (λ (x : Place). nth x 0) at_second.1 ∙ nth_slid p 0 ∙ sym (sees cur 1) in
            let h = char_on t (cur.at + n) (seen 1) e (some (seen 1) (q ∙ g)) in
            rw u (h.0, h.1 ∙ ap slid at_second.1)

        pub third_fits : (m : ℕ) → m ≡ width (seen 1) → cur.at + n + m ≤ length t
        third_fits m u = (at_third m u).0

        module _ (y : Bool) (v : is_identifier_continuation (seen 2) ≡ y) where
          third_seen : is_identifier_continuation (nth (slid (slid p)) 0) ≡ y
          third_seen = ap is_identifier_continuation (nth_slid (slid p) 0 ∙ nth_slid p 1 ∙ sym (sees cur 2)) ∙ v

          pub wide_two : (m : ℕ) → m ≡ width (seen 1) → y ≡ false → place_at t (cur.at + n + m) ≡ skip_while is_identifier_continuation p
          wide_two m u f = (at_third m u).1 ∙ sym (stop_at is_identifier_continuation (slid (slid p)) (third_seen ∙ f)) ∙ over_second

          pub wide_more : (r : ℕ) → place_at t r ≡ skip_while is_identifier_continuation (place_at t cur.ahead) → y ≡ true → place_at t r ≡ skip_while is_identifier_continuation p
          wide_more r w f = w ∙ ap (skip_while is_identifier_continuation) cur.reaches ∙ (step_on is_identifier_continuation name_none (slid (slid p)) (third_seen ∙ f)).0 ∙ over_second
