-- Names: the characters of an ASCII run are its bytes, so a name that ends with its ASCII part is looked up by its bytes, and a
-- name that goes on behind it is no keyword.
-- Assumes nothing.
use Prim.Native.Nat.{ℕ, suc, ◌+◌, ◌-◌, ◌<◌, ◌≤◌}
use mathlib.Core.Path.{◌≡◌, refl, sym, ◌∙◌, ap, ap₂}
use mathlib.Core.List.{List, [], ◌∷◌, ◌++◌, append-nil}
use mathlib.Core.Bool.{Bool, true, false}
use native.Mathlib.Omega.{arith}
use native.Mathlib.Decide.{dec_lt}
use native.Mathlib.Numerals.{add-one}
use borrow.Author.Tests.{eq-eqb, ne_eqb}
use lib.ListN.{length, get_or, drop, take}
use lib.Seq.{drop-cons}
use Rattle.choice.proofs.Laws.{true_is_not_false}
use Rattle.utf8.specs.Chars.{chars, width, no_char}
use Rattle.utf8.proofs.Laws.{width_ascii}
use Rattle.window.specs.Place.{Place, place_at, nth}
use Rattle.window.specs.declared.cursor.Cursor.{Cursor}
use Rattle.window.specs.Promises.{place}
use Rattle.window.proofs.Laws.{byte_is, sees}
use Rattle.window.proofs.Within.{first}
use Rattle.token.specs.Kinds as K
use Rattle.token.specs.declared.Token.TheVariants.{Name, Keyword}
use Rattle.token.specs.declared.Item.TheVariants.{Tok}
use Rattle.classes.specs.Classes.{is_identifier_start, is_identifier_continuation}
use Rattle.classes.specs.Promises.{is_ascii_continuation}
use Rattle.classes.proofs.Laws.{ascii_continue}
use Rattle.names.specs.declared.Lexed.{Lexed}
use Rattle.names.specs.Runs.{skip_from, skip_while, taken}
use Rattle.names.specs.Names.{kind_of_name, name_token, name_at}
use Rattle.names.specs.Promises.{lexed_name}
use Rattle.classes.proofs.ContinuationBits.{name_high}
use Rattle.names.proofs.Laws.{stop_at, run_over, name_continues, name_none, next_not, name_rest, start_in}
use Rattle.names.proofs.Bounds.{within_from, skip_within, skip_forward}
use Rattle.names.proofs.Shapes.{kind_short, kind_high}

-- ---- the characters of a run, and those of a run of a smaller class at its head
module _ (f : ℕ → Bool) where
  -- none of the class stands at the head, or one does
  taken_none : (l : List ℕ) → f (get_or l 0 no_char) ≡ false → taken f l ≡ []
  unfolding taken
  taken_none [] e = refl
  taken_none (c ∷ r) e = simp e

  taken_some : f no_char ≡ false → (l : List ℕ) → f (get_or l 0 no_char) ≡ true → taken f l ≡ get_or l 0 no_char ∷ taken f (drop 1 l)
  unfolding taken
  taken_some n [] e = absurd (true_is_not_false (sym e ∙ n))
  taken_some n (c ∷ r) e = simp e

-- a run of a class begins with its run of a smaller class
taken_more : (f g : ℕ → Bool) → ((c : ℕ) → g c ≡ true → f c ≡ true) → (at : ℕ) (l : List ℕ) → taken f l ≡ taken g l ++ taken f (skip_from g at l).rest
unfolding taken skip_from
taken_more f g sub at [] = refl
taken_more f g sub at (c ∷ r) = go (g c) refl (taken_more f g sub (at + width c) r)
  where
    go : (b : Bool) → g c ≡ b → taken f r ≡ taken g r ++ taken f (skip_from g (at + width c) r).rest → taken f (c ∷ r) ≡ taken g (c ∷ r) ++ taken f (skip_from g at (c ∷ r)).rest
    go true e h = simp (e, sub c e) (ap (λ x. c ∷ x) h)
    go false e h = simp e

-- ---- the characters of an ASCII run are its bytes
-- a character below 0x80 is its byte
byte_first : (t : List ℕ) (i c : ℕ) (r : List ℕ) → chars (drop i t) ≡ c ∷ r → c < 0x80 → (drop i t ≡ c ∷ drop (i + 1) t) × (chars (drop (i + 1) t) ≡ r) × (i + 1 ≤ length t)
byte_first t i c r e k =
    let n = first t i c r e in
    let w = width_ascii c k in
    let b = byte_is t i c k (ap (λ l. get_or l 0 no_char) e) in
    (drop-cons t i 0 b.0 ∙ ap₂ (λ x y. x ∷ drop y t) b.1 (sym (add-one i)), ap (λ x. chars (drop (i + x) t)) (sym w) ∙ n.rest, omega arith)

-- so are those of a run, character by character
bytes_from : (t : List ℕ) (l : List ℕ) (at i : ℕ) → chars (drop at t) ≡ l → (skip_from is_ascii_continuation at l).at ≡ i → taken is_ascii_continuation l ≡ take (i - at) (drop at t)
unfolding taken skip_from
bytes_from t [] at i e h = let z : i - at ≡ 0 = omega arith in rw z
bytes_from t (c ∷ r) at i e h = go (is_ascii_continuation c) refl (λ p q. bytes_from t r (at + 1) i p q)
  where
    go : (b : Bool) → is_ascii_continuation c ≡ b → (chars (drop (at + 1) t) ≡ r → (skip_from is_ascii_continuation (at + 1) r).at ≡ i → taken is_ascii_continuation r ≡ take (i - (at + 1)) (drop (at + 1) t))
        → taken is_ascii_continuation (c ∷ r) ≡ take (i - at) (drop at t)
    go true a more = on (dec_lt c 0x80)
      where
        on : Dec (c < 0x80) → taken is_ascii_continuation (c ∷ r) ≡ take (i - at) (drop at t)
        on (yes k) =
            let b = byte_first t at c r e k in
            let q : (skip_from is_ascii_continuation (at + 1) r).at ≡ i = ap (λ x. (skip_from is_ascii_continuation (at + x) r).at) (sym (width_ascii c k)) ∙ (simp a at h) in
            let w = within_from is_ascii_continuation t r (at + 1) b.1 b.2 in
            let n : i - at ≡ suc (i - (at + 1)) = omega arith in
            simp a (rw (n, b.0) (ap (λ x. c ∷ x) (more b.1 q)))
        on (no k) = absurd (true_is_not_false (sym a ∙ name_high c (omega arith)))
    go false a more = let q : at ≡ i = simp a at h in let z : i - at ≡ 0 = omega arith in simp a (rw z)

-- ---- a name, by the end i of its ASCII part and its end e
module _ (t : List ℕ) (at i : ℕ) (w : place_at t i ≡ skip_while is_ascii_continuation (place_at t at)) where
  -- the characters of the ASCII part are its bytes
  pub ascii_bytes : taken is_ascii_continuation (chars (drop at t)) ≡ take (i - at) (drop at t)
  unfolding skip_while
  ascii_bytes = bytes_from t (chars (drop at t)) at i refl (ap (λ (x : Place). x.at) (sym w))

  -- the bytes of the ASCII part, and the characters behind it
  name_parts : taken is_identifier_continuation (chars (drop at t)) ≡ take (i - at) (drop at t) ++ taken is_identifier_continuation (chars (drop i t))
  unfolding skip_while
  name_parts =
      taken_more is_identifier_continuation is_ascii_continuation name_continues at (chars (drop at t))
      ∙ ap₂ ◌++◌ ascii_bytes (ap (λ (x : Place). taken is_identifier_continuation x.rest) (sym w))

  -- the ASCII part lies within the text
  pub part_ends : at < i → i ≤ length t
  unfolding skip_while
  part_ends h = go (dec_lt (length t) at)
    where
      go : Dec (length t < at) → i ≤ length t
      go (yes k) = let q = ap (λ (x : Place). x.at) (run_over is_ascii_continuation t at (place_at t i) (sym w) (omega arith)) in omega arith
      go (no k) = let s = skip_within is_ascii_continuation t at (omega arith) in let q = ap (λ (x : Place). x.at) w in omega arith

  module _ (e : ℕ) (v : place_at t e ≡ skip_while is_identifier_continuation (place_at t i)) where
    -- the name ends at e
    ends : (skip_while is_identifier_continuation (place_at t at)).at ≡ e
    ends = ap (λ (x : Place). x.at) (sym (name_rest t at i w e v))

    -- a name that is no keyword
    name_plain : K.name ≡ kind_of_name (taken is_identifier_continuation (chars (drop at t))) → ◌≡◌ {A = Lexed} (record { kind = K.name; end = e }) (lexed_name (place_at t at))
    unfolding lexed_name
    name_plain n = sym (rw (← n, ends))

    -- a character from 0x80 up goes on with the name
    pub word_long : i < e → ◌≡◌ {A = Lexed} (record { kind = K.name; end = e }) (lexed_name (place_at t at))
    word_long h = go (is_identifier_continuation (nth (place_at t i) 0)) refl (dec_lt (nth (place_at t i) 0) 0x80)
      where
        go : (b : Bool) → is_identifier_continuation (nth (place_at t i) 0) ≡ b → Dec (nth (place_at t i) 0 < 0x80) → ◌≡◌ {A = Lexed} (record { kind = K.name; end = e }) (lexed_name (place_at t at))
        go true a (yes k) = absurd (true_is_not_false (sym a ∙ ascii_continue _ k ∙ next_not t at i w))
        go true a (no k) = name_plain (rw (name_parts, taken_some is_identifier_continuation name_none (chars (drop i t)) a) (kind_high (take (i - at) (drop at t)) (taken is_identifier_continuation (drop 1 (chars (drop i t)))) (nth (place_at t i) 0) (omega arith)))
        go false a d = let z = ap (λ (x : Place). x.at) (v ∙ stop_at is_identifier_continuation (place_at t i) a) in absurd (omega arith)

    -- the name is its ASCII part
    module _ (h : e ≤ i) where
      name_bytes : taken is_identifier_continuation (chars (drop at t)) ≡ take (i - at) (drop at t)
      name_bytes = go (is_identifier_continuation (nth (place_at t i) 0)) refl
        where
          go : (b : Bool) → is_identifier_continuation (nth (place_at t i) 0) ≡ b → taken is_identifier_continuation (chars (drop at t)) ≡ take (i - at) (drop at t)
          go true a = let s = skip_forward is_identifier_continuation t i name_none a in let z = ap (λ (x : Place). x.at) v in absurd (omega arith)
          go false a = name_parts ∙ rw (taken_none is_identifier_continuation (chars (drop i t)) a) (append-nil (take (i - at) (drop at t)))

      -- no name at all
      pub word_empty : i ≤ at → ◌≡◌ {A = Lexed} (record { kind = K.name; end = e }) (lexed_name (place_at t at))
      word_empty k = let z : i - at ≡ 0 = omega arith in name_plain (rw (name_bytes, z) (kind_short [] (omega arith)))

      -- by its bytes
      pub word_bytes : (k : ℕ) → k ≡ kind_of_name (take (i - at) (drop at t)) → ◌≡◌ {A = Lexed} (record { kind = k; end = e }) (lexed_name (place_at t at))
      unfolding lexed_name
      word_bytes k c = sym (rw (name_bytes, ← c, ends))

-- ---- a name as a token
module _ (p : Place) (r : Lexed) (q : r ≡ lexed_name p) where
  pub name_name : r.kind ≡ K.name → Tok Name r.end ≡ name_at p
  unfolding name_at name_token lexed_name
  name_name z = let k = sym (ap (λ (x : Lexed). x.kind) q) ∙ z in ap₂ Tok (sym (rw (eq-eqb _ K.name k))) (ap (λ (x : Lexed). x.end) q)

  pub name_keyword : (r.kind ≡ K.name → ⊥) → Tok (Keyword r.kind) r.end ≡ name_at p
  unfolding name_at name_token lexed_name
  name_keyword z =
      let k = ap (λ (x : Lexed). x.kind) q in
      ap₂ Tok (sym (rw (ne_eqb _ K.name (λ y. z (k ∙ y))) (ap Keyword (sym k)))) (ap (λ (x : Lexed). x.end) q)

-- a name that starts beyond ASCII is no keyword
pub name_wide : (cur : Cursor) → is_identifier_start (nth (place cur) 0) ≡ true → (e : ℕ) → place_at cur.text.now e ≡ skip_while is_identifier_continuation (place cur)
    → 0x80 ≤ get_or cur.window 0 0 → Tok Name e ≡ name_at (place cur)
unfolding name_at name_token
name_wide cur start e w h =
    let p = place cur in
    let n : kind_of_name (taken is_identifier_continuation p.rest) ≡ K.name =
    ap kind_of_name (taken_some is_identifier_continuation name_none p.rest (start_in cur start))
    ∙ sym (kind_high [] (taken is_identifier_continuation (drop 1 p.rest)) (nth p 0) (omega (arith, sees cur 0))) in
    rw n (ap (λ (x : Place). Tok Name x.at) w)
