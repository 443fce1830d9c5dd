-- Laws of places: what stands at a place, how a place goes on, and how the program's characters, window and bytes show it.
-- Assumes nothing.
use Prim.Native.Nat.{ℕ, suc, ◌+◌, ◌<◌, ◌≤◌}
use Prim.Native.Char.{code}
use mathlib.Core.Path.{◌≡◌, refl, sym, ◌∙◌, ap, subst}
use mathlib.Core.List.{List, [], ◌∷◌}
use mathlib.Core.Bool.{false}
use native.Mathlib.Omega.{arith}
use native.Mathlib.Decide.{dec_lt}
use native.Mathlib.Nat.{add-zero}
use borrow.Author.Tests.{eq-eqb, ne_eqb, eqb-true}
use lib.Dec.{eqb}
use lib.ListN.{length, get_or, drop}
use lib.Seq.{get_or-drop}
use Rattle.choice.proofs.Laws.{choose_keeps}
use Rattle.utf8.specs.declared.Fault.{Fault}
use Rattle.utf8.specs.declared.Decoded.TheVariants.{Char, IllFormed, End}
use Rattle.utf8.specs.Utf8.{decode_at}
use Rattle.utf8.specs.Chars.{chars, width, no_char}
use Rattle.utf8.proofs.Laws.{Here, here_char, at_char_all, fine_at, width_ascii, width_bad, in_list_lem}
use Rattle.utf8.proofs.Bytes.{get_or_any}
use Rattle.utf8.proofs.Pass.{here_bad, found, plain, none}
use Rattle.window.specs.Place.{Place, place_at, slid, slid_by, nth, next_char, text_start, bom, window}
use Rattle.window.specs.Promises.{CharAt, place, CursorAt, IsCursor}
use Rattle.window.specs.declared.cursor.Cursor.{Cursor}

-- ---- a place goes on
-- what was ahead of the next character is ahead of this one, one further
nth_slid_by : (i : ℕ) (l : List ℕ) (k : ℕ) → nth (slid_by i l) k ≡ get_or l (suc k) no_char
unfolding slid_by
nth_slid_by i [] k = refl
nth_slid_by i (x ∷ l) k = refl

pub nth_slid : (p : Place) (k : ℕ) → nth (slid p) k ≡ nth p (suc k)
unfolding slid
nth_slid p k = nth_slid_by p.at p.rest k

-- never back
slid_le_by : (at : ℕ) (l : List ℕ) → at ≤ (slid_by at l).at
unfolding slid_by
slid_le_by at [] = omega arith
slid_le_by at (c ∷ l) = omega arith

pub slid_le : (p : Place) → p.at ≤ (slid p).at
unfolding slid
slid_le p = slid_le_by p.at p.rest

pub slid_le_step : (p : Place) → (slid p).at ≤ (next_char p).at
unfolding next_char
slid_le_step p =
    choose_keeps (λ (x : Place). (slid p).at ≤ x.at) (eqb (nth p 0) (code "\r"))
    (λ e. choose_keeps (λ (x : Place). (slid p).at ≤ x.at) (eqb (nth p 1) (code "\n")) (λ f. slid_le (slid p)) (λ f. omega arith))
    (λ e. omega arith)

pub step_le : (p : Place) → p.at ≤ (next_char p).at
step_le p = omega (arith, slid_le p, slid_le_step p)

-- the three ways of a step: any other character, a lone CR, CR LF
pub step_other : (p : Place) → (nth p 0 ≡ code "\r" → ⊥) → slid p ≡ next_char p
unfolding next_char
step_other p f = simp (ne_eqb (nth p 0) (code "\r") f)

pub step_lone : (p : Place) → nth p 0 ≡ code "\r" → (nth p 1 ≡ code "\n" → ⊥) → slid p ≡ next_char p
unfolding next_char
step_lone p e f = simp (eq-eqb (nth p 0) (code "\r") e, ne_eqb (nth p 1) (code "\n") f)

pub step_pair : (p : Place) → nth p 0 ≡ code "\r" → nth p 1 ≡ code "\n" → slid (slid p) ≡ next_char p
unfolding next_char
step_pair p e f = simp (eq-eqb (nth p 0) (code "\r") e, eq-eqb (nth p 1) (code "\n") f)

-- ---- a character, or the end, stands at each place
pub slid_here : (t : List ℕ) (i c : ℕ) → Here t i c → place_at t (i + width c) ≡ slid (place_at t i)
unfolding slid slid_by
slid_here t i c h = rw h.list

pub taken : (t : List ℕ) (i c w : ℕ) → Here t i c → width c ≡ w → CharAt t i c (i + w)
taken t i c w h e = record { first = sym (ap (λ l. get_or l 0 no_char) h.list); place = ap (λ n. place_at t (i + n)) (sym e) ∙ slid_here t i c h }

pub taken_char : (t : List ℕ) (i c w : ℕ) → decode_at t i ≡ Char c w → CharAt t i c (i + w)
taken_char t i c w e = taken t i c w (here_char t i c w e) (at_char_all t i c w e).wide

pub taken_ascii : (t : List ℕ) (i : ℕ) → i < length t → get_or t i 0 < 0x80 → CharAt t i (get_or t i 0) (i + 1)
unfolding slid slid_by
taken_ascii t i h k = let n = plain t i h k in record { first = sym (ap (λ l. get_or l 0 no_char) n); place = rw (n, width_ascii (get_or t i 0) k) }

pub taken_over : (t : List ℕ) (i : ℕ) → length t ≤ i → CharAt t i no_char i
unfolding slid slid_by
taken_over t i h = let n = none t i h in record { first = rw n; place = rw n }

-- a text's bytes are below 256, so only its end decodes to the end
pub taken_end : (t : List ℕ) (i : ℕ) → decode_at t i ≡ End → get_or t i 0 < 256 → CharAt t i no_char i
taken_end t i e k = go (dec_lt i (length t))
  where
    go : Dec (i < length t) → CharAt t i no_char i
    go (yes h) =
        let f = fine_at t i End e in
        let g = get_or-drop i t 0 256 ∙ ap (λ n. get_or t n 256) (add-zero i) in
        let d = get_or_any t i 256 0 h in
        absurd (omega arith)
    go (no h) = taken_over t i (omega arith)

pub taken_stray : (t : List ℕ) (i b : ℕ) (r : Fault) → decode_at t i ≡ IllFormed r → b ≡ get_or t i 256 → CharAt t i (no_char + b) (i + 1)
taken_stray t i b r e f =
    let h = here_bad t i r e in
    taken t i (no_char + b) 1 (subst (λ n. Here t i (no_char + n)) (sym f) h) (width_bad (no_char + b) (omega arith))

-- a stray byte is one, and stands in the text
pub stray_small : (t : List ℕ) (i : ℕ) (r : Fault) → decode_at t i ≡ IllFormed r → (get_or t i 256 < 256) × (i < length t)
stray_small t i r e = let f = fine_at t i (IllFormed r) e in let g = get_or-drop i t 0 256 ∙ ap (λ n. get_or t n 256) (add-zero i) in (omega arith, in_list_lem t i (omega arith))

-- ---- what a place's first character says
first_of : (t : List ℕ) (i c : ℕ) → Here t i c → nth (place_at t i) 0 ≡ c
first_of t i c h = ap (λ l. get_or l 0 no_char) h.list

-- a character stands there
pub here : (t : List ℕ) (i c : ℕ) → nth (place_at t i) 0 ≡ c → (c ≡ no_char → ⊥) → Here t i c
here t i c e n = go (dec_lt i (length t))
  where
    go : Dec (i < length t) → Here t i c
    go (yes h) = let f = found t i h in subst (Here t i) (sym (first_of t i _ f.here) ∙ e) f.here
    go (no h) = absurd (n (sym e ∙ sym (taken_over t i (omega arith)).first))

-- nothing does
pub gone : (t : List ℕ) (i : ℕ) → nth (place_at t i) 0 ≡ no_char → chars (drop i t) ≡ []
gone t i e = go (dec_lt i (length t))
  where
    go : Dec (i < length t) → chars (drop i t) ≡ []
    go (yes h) = let f = found t i h in absurd (f.some (sym (first_of t i _ f.here) ∙ e))
    go (no h) = none t i (omega arith)

-- ---- one character after another
module _ (t : List ℕ) (i a n : ℕ) (p : CharAt t i a n) where
  pub step_one : (a ≡ code "\r" → ⊥) → place_at t n ≡ next_char (place_at t i)
  step_one f = p.place ∙ step_other (place_at t i) (λ e. f (p.first ∙ e))

  module _ (b m : ℕ) (q : CharAt t n b m) where
    pub second : b ≡ nth (place_at t i) 1
    second = q.first ∙ ap (λ x. nth x 0) p.place ∙ nth_slid (place_at t i) 0

    pub two_on : place_at t m ≡ slid (slid (place_at t i))
    two_on = q.place ∙ ap slid p.place

    pub step_two : a ≡ code "\r" → b ≡ code "\n" → place_at t m ≡ next_char (place_at t i)
    step_two e f = two_on ∙ step_pair (place_at t i) (sym p.first ∙ e) (sym second ∙ f)

    pub step_cr : a ≡ code "\r" → (b ≡ code "\n" → ⊥) → place_at t n ≡ next_char (place_at t i)
    step_cr e f = p.place ∙ step_lone (place_at t i) (sym p.first ∙ e) (λ z. f (second ∙ z))

    module _ (c k : ℕ) (r : CharAt t m c k) where
      third : c ≡ nth (place_at t i) 2
      third = r.first ∙ ap (λ x. nth x 0) two_on ∙ nth_slid (slid (place_at t i)) 0 ∙ nth_slid (place_at t i) 1

      pub window_three : a ∷ (b ∷ (c ∷ [])) ≡ window (place_at t i)
      window_three = cc (p.first, second, third)

      pub three_on : place_at t k ≡ slid (slid (slid (place_at t i)))
      three_on = r.place ∙ ap slid two_on

-- ---- the text's start, with a BOM and without
pub begin_bom : (t : List ℕ) (a n : ℕ) → CharAt t 0 a n → a ≡ bom → place_at t n ≡ text_start t
unfolding text_start
begin_bom t a n p e = p.place ∙ sym (simp (eq-eqb (nth (place_at t 0) 0) bom (sym p.first ∙ e)))

pub begin_plain : (t : List ℕ) (a n : ℕ) → CharAt t 0 a n → (a ≡ bom → ⊥) → place_at t 0 ≡ text_start t
unfolding text_start
begin_plain t a n p f = sym (simp (ne_eqb (nth (place_at t 0) 0) bom (λ e. f (p.first ∙ e))))

-- ---- a cursor stands at its own byte: one that stands at a place of a text does, and each does of its own text
pub is_cursor : (t : List ℕ) (cur : Cursor) (p : Place) → CursorAt t cur p → IsCursor t cur
is_cursor t cur p s = subst (CursorAt t cur) (sym s.place) s

pub own_cursor : (cur : Cursor) → IsCursor cur.text.now cur
own_cursor cur = record { place = refl; window = cur.shows; ahead = cur.reaches }

-- ---- a cursor's window shows the characters at its place
module _ (cur : Cursor) where
  pub sees : (k : ℕ) → get_or cur.window k 0 ≡ get_or (window (place cur)) k 0
  sees k = ap (λ l. get_or l k 0) cur.shows

  -- ---- it goes on, unless it is at the end
  pub slide_end : get_or cur.window 0 0 ≡ no_char → place cur ≡ slid (place cur)
  unfolding slid slid_by
  slide_end e = let l = gone cur.text.now cur.at (sym (sees 0) ∙ e) in rw l

  module _ (n : get_or cur.window 0 0 ≡ no_char → ⊥) where
    ahead_of : Here cur.text.now cur.at (get_or cur.window 0 0)
    ahead_of = here cur.text.now cur.at _ (sym (sees 0)) n

    pub slide_fits : cur.at + width (get_or cur.window 0 0) ≤ length cur.text.now
    slide_fits = ahead_of.fits

    module _ (w : ℕ) (e : w ≡ width (get_or cur.window 0 0)) where
      pub slide_place : place_at cur.text.now (cur.at + w) ≡ slid (place cur)
      slide_place = ap (λ x. place_at cur.text.now (cur.at + x)) e ∙ slid_here cur.text.now cur.at (get_or cur.window 0 0) ahead_of

      module _ (d k : ℕ) (q : CharAt cur.text.now cur.ahead d k) where
        pub slide_shows : get_or cur.window 1 0 ∷ (get_or cur.window 2 0 ∷ (d ∷ [])) ≡ window (place_at cur.text.now (cur.at + w))
        slide_shows =
            let p = place cur in
            let l : get_or cur.window 1 0 ∷ (get_or cur.window 2 0 ∷ (d ∷ [])) ≡ window (slid p) =
            cc (sees 1 ∙ sym (nth_slid p 0), sees 2 ∙ sym (nth_slid p 1), q.first ∙ ap (λ x. nth x 0) cur.reaches ∙ nth_slid (slid (slid p)) 0 ∙ nth_slid (slid p) 1) in
            l ∙ ap window (sym slide_place)

        pub slide_reaches : place_at cur.text.now k ≡ slid (slid (slid (place_at cur.text.now (cur.at + w))))
        slide_reaches = q.place ∙ ap slid cur.reaches ∙ ap (λ x. slid (slid (slid x))) (sym slide_place)

  -- a newline of two bytes is one character: `d` is the cursor after the first
  module _ (d : Cursor) (n : place d ≡ slid (place cur)) where
    pub next_other : (get_or cur.window 0 0 ≡ code "\r" → ⊥) → place d ≡ next_char (place cur)
    next_other f = n ∙ step_other (place cur) (λ e. f (sees 0 ∙ e))

    after : get_or d.window 0 0 ≡ nth (place cur) 1
    after = ap (λ l. get_or l 0 0) d.shows ∙ ap (λ x. nth x 0) n ∙ nth_slid (place cur) 0

    pub next_lone : get_or cur.window 0 0 ≡ code "\r" → (get_or d.window 0 0 ≡ code "\n" → ⊥) → place d ≡ next_char (place cur)
    next_lone e f = n ∙ step_lone (place cur) (sym (sees 0) ∙ e) (λ z. f (after ∙ z))

    pub next_pair : get_or cur.window 0 0 ≡ code "\r" → get_or d.window 0 0 ≡ code "\n" → (r : Cursor) → place r ≡ slid (place d) → place r ≡ next_char (place cur)
    next_pair e f r m = m ∙ ap slid n ∙ step_pair (place cur) (sym (sees 0) ∙ e) (sym after ∙ f)

  -- where a character stands, a step goes forward from within the text
  pub next_on : (get_or cur.window 0 0 ≡ no_char → ⊥) → (d : Cursor) → place d ≡ next_char (place cur) → (cur.at < d.at) × (cur.at < length cur.text.now)
  next_on n d m =
      let h = ahead_of n in
      let a = ap (λ (x : Place). x.at) (slid_here cur.text.now cur.at _ h) in
      let b = ap (λ (x : Place). x.at) m in
      let k = slid_le_step (place cur) in
      (omega arith, omega arith)

-- ---- bytes and the characters at a place
pub high_first : (t : List ℕ) (i : ℕ) → 0x80 ≤ get_or t i 256 → 0x80 ≤ nth (place_at t i) 0
high_first t i k = go (dec_lt i (length t))
  where
    go : Dec (i < length t) → 0x80 ≤ nth (place_at t i) 0
    go (yes h) = let f = found t i h in omega (arith, first_of t i _ f.here, f.high k)
    go (no h) = omega (arith, (taken_over t i (omega arith)).first)

-- a test that all characters from 0x80 up answer alike is made on the byte
pub look : {A : Type 0} (f : ℕ → A) (z : A) → ((c : ℕ) → 0x80 ≤ c → f c ≡ z) → (t : List ℕ) (i : ℕ) → f (nth (place_at t i) 0) ≡ f (get_or t i 256)
look f z same t i = go (dec_lt (get_or t i 256) 0x80)
  where
    go : Dec (get_or t i 256 < 0x80) → f (nth (place_at t i) 0) ≡ f (get_or t i 256)
    go (yes l) =
        let h = in_list_lem t i (omega arith) in
        let d = get_or_any t i 256 0 h in
        ap f (ap (λ l. get_or l 0 no_char) (plain t i h (omega arith)) ∙ sym d)
    go (no l) = same _ (high_first t i (omega arith)) ∙ sym (same _ (omega arith))

-- after a byte below 0x80
module _ (t : List ℕ) (i : ℕ) (h : i < length t) (k : get_or t i 0 < 0x80) where
  pub next_place : place_at t (i + 1) ≡ slid (place_at t i)
  unfolding slid slid_by
  next_place = rw (plain t i h k, width_ascii (get_or t i 0) k)

  pub next_nth : (j : ℕ) → nth (place_at t i) (suc j) ≡ nth (place_at t (i + 1)) j
  next_nth j = ap (λ l. get_or l (suc j) no_char) (plain t i h k)

  pub this_nth : nth (place_at t i) 0 ≡ get_or t i 0
  this_nth = ap (λ l. get_or l 0 no_char) (plain t i h k)

-- after a character, and after one below 0x80
pub char_on : (t : List ℕ) (i c : ℕ) → nth (place_at t i) 0 ≡ c → (c ≡ no_char → ⊥) → (i + width c ≤ length t) × (place_at t (i + width c) ≡ slid (place_at t i))
char_on t i c e n = let h = here t i c e n in (h.fits, slid_here t i c h)

pub low_on : (t : List ℕ) (i c : ℕ) → nth (place_at t i) 0 ≡ c → c < 0x80 → (i < length t) × (place_at t (i + 1) ≡ slid (place_at t i))
low_on t i c e k =
    let h = char_on t i c e (λ z. omega arith) in
    let w = width_ascii c k in
    (omega arith, ap (λ n. place_at t (i + n)) (sym w) ∙ h.1)

-- ---- below 0x80 the byte at a place and its character are one
pub byte_of : (t : List ℕ) (i k : ℕ) → k < 0x80 → nth (place_at t i) 0 ≡ k → get_or t i 256 ≡ k
byte_of t i k h e = eqb-true _ _ (sym (look (λ c. eqb c k) false (λ c l. ne_eqb c k (omega arith)) t i) ∙ eq-eqb _ _ e)

pub char_of : (t : List ℕ) (i k : ℕ) → k < 0x80 → get_or t i 256 ≡ k → nth (place_at t i) 0 ≡ k
char_of t i k h e = eqb-true _ _ (look (λ c. eqb c k) false (λ c l. ne_eqb c k (omega arith)) t i ∙ eq-eqb _ _ e)

-- such a byte is within the text, and is the same with any default
pub byte_in : (t : List ℕ) (i k : ℕ) → k < 0x80 → get_or t i 256 ≡ k → (i < length t) × (get_or t i 0 ≡ k)
byte_in t i k h e = let l = in_list_lem t i (omega arith) in (l, get_or_any t i 0 256 l ∙ e)

pub byte_is : (t : List ℕ) (i k : ℕ) → k < 0x80 → nth (place_at t i) 0 ≡ k → (i < length t) × (get_or t i 0 ≡ k)
byte_is t i k h e = byte_in t i k h (byte_of t i k h e)
