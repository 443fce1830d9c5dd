-- The fault that `checked` tells is the one that the text has, and it has no other: up to the byte that shows it some bytes could still make
-- the text well formed, and with it none could.
-- Assumes nothing.
use Prim.Native.Nat.{ℕ, zero, suc, ◌+◌, ◌-◌, ◌<◌, ◌≤◌}
use mathlib.Core.Path.{◌≡◌, refl, sym, ◌∙◌, ap, subst}
use mathlib.Core.List.{List, [], ◌∷◌, ◌++◌, append_assoc}
use Rattle.std.specs.Prelude.{Ok, Err}
use mathlib.Core.Logic.{◌⊎◌, inl, inr}
use mathlib.Core.Bool.{Bool, true, false}
use native.Mathlib.Omega.{arith}
use native.Mathlib.Nat.{add-zero}
use native.Mathlib.Decide.{dec_lt}
use borrow.Author.Tests.{lt-ltb, le-ltb, eq-eqb, ne_eqb, lt-leb}
use lib.Dec.{ltb, eqb, lit≤}
use lib.ListN.{length, get_or, take, drop, length-append, length-drop, take-append-drop, get_or-append, get_or-eq_default}
use lib.Seq.{get_or-take, get_or-drop, length-take-le, take-add, take-take, drop-length}
use Rattle.choice.specs.Choice.{choose, either}
use Rattle.choice.proofs.Laws.{choose_keeps, true_is_not_false}
use Rattle.utf8.specs.declared.Fault.{Fault}
use Rattle.utf8.specs.declared.Fault.TheVariants.{Stray, Unused, CutByEnd, CutByByte, Overlong, Surrogate, TooLarge}
use Rattle.utf8.specs.declared.Decoded.{Decoded}
use Rattle.utf8.specs.declared.Decoded.TheVariants.{Char, IllFormed, End}
use Rattle.utf8.specs.Utf8.{decode_four, decode_at, within, is_tail}
use Rattle.utf8.specs.Chars.{no_char, decode_head, ill_formed_from, first_ill_formed, Checked, well_formed, fault_at, checked_at, checked}
use Rattle.utf8.specs.Faults.{Bytes, IsWellFormed, Begins, Shows, byte_at, bits, least_of, Second, Has, FaultIn, Faulty}
use Rattle.utf8.proofs.Laws.{fine_at, at_head, in_list_lem, bad_cons, bad_stop, within_high}
use Rattle.utf8.proofs.Bytes.{past_end}
use Rattle.utf8.proofs.Told.{Told, told}
use Rattle.utf8.proofs.Pass.{get_d_head}
use Rattle.utf8.proofs.Whole.{bad_bounds, whole_from}
use Rattle.utf8.proofs.Sequences.{four, Of, Sequence, sequence, least_three_lem, bits_four}

-- ---- behind whole characters
-- what comes behind the whole characters before the first ill-formed sequence is searched from there
behind : (t : List ℕ) (p : ℕ) (v : List ℕ) → first_ill_formed t ≡ p → first_ill_formed (take p t ++ v) ≡ ill_formed_from p 0 v
behind t p v e =
    let m : first_ill_formed t - 0 ≡ first_ill_formed t = omega arith in
    subst (λ n. first_ill_formed (take n t ++ v) ≡ ill_formed_from n 0 v) e (rw m at (whole_from 0 0 t v (omega arith)))

-- the first four bytes of a list, and those that it has
abbrev first_four : List ℕ → List ℕ
first_four u = four (get_or u 0 256) (get_or u 1 256) (get_or u 2 256) (get_or u 3 256)

firsts : (u : List ℕ) (n : ℕ) → n < 4 → n ≤ length u → take n u ≡ take n (first_four u)
firsts u zero h k = refl
firsts [] (suc n) h k = absurd (omega arith)
firsts (x ∷ u) (suc zero) h k = refl
firsts (x ∷ []) (suc (suc n)) h k = absurd (omega arith)
firsts (x ∷ (y ∷ u)) (suc (suc zero)) h k = refl
firsts (x ∷ (y ∷ [])) (suc (suc (suc n))) h k = absurd (omega arith)
firsts (x ∷ (y ∷ (z ∷ u))) (suc (suc (suc zero))) h k = refl
firsts (x ∷ (y ∷ (z ∷ u))) (suc (suc (suc (suc n)))) h k = absurd (omega arith)

-- the n-th of four bytes at a place
nth : (u : List ℕ) (n : ℕ) → n < 4 → get_or (first_four u) n 256 ≡ get_or u n 256
nth u zero h = refl
nth u (suc zero) h = refl
nth u (suc (suc zero)) h = refl
nth u (suc (suc (suc zero))) h = refl
nth u (suc (suc (suc (suc n)))) h = absurd (omega arith)

head_four : (l : List ℕ) → decode_head l ≡ decode_four (get_or l 0 256) (get_or l 1 256) (get_or l 2 256) (get_or l 3 256)
unfolding decode_head
head_four l = refl

at_end_lem : (at : ℕ) → ill_formed_from at 0 [] ≡ at
unfolding ill_formed_from
at_end_lem at = refl

module _ (t : List ℕ) (p : ℕ) (f : Fault) (k : Told t p f) (bytes : Bytes t) where
  abbrev u : List ℕ
  u = drop p t

  s : Sequence (get_or u 0 256) (get_or u 1 256) (get_or u 2 256) (get_or u 3 256) f
  s = sequence (get_or u 0 256) (get_or u 1 256) (get_or u 2 256) (get_or u 3 256) f (sym (head_four u) ∙ sym (at_head t p) ∙ k.here)

  -- the byte n behind the place
  at_place : (n : ℕ) → get_or u n 256 ≡ byte_at t (p + n)
  at_place n = get_or-drop p t n 256

  enough : s.n ≤ length u
  enough = go s.n refl
    where
      go : (n : ℕ) → s.n ≡ n → n ≤ length u
      go zero e = omega arith
      go (suc n) e =
          let l = s.last (omega arith) in
          let m : s.n - 1 ≡ n = omega arith in
          in_list_lem u n (subst (λ x. x < 256) (ap (λ x. get_or (first_four u) x 256) m ∙ nth u n (omega (arith, s.few))) l)

  fits : p + s.n ≤ length t
  fits = omega (arith, enough, length-drop p t, k.inside)

  -- a character in place of the sequence
  before : Begins (take (p + s.n) t)
  before = record { rest = s.rest; well = ap (λ l. first_ill_formed l) same ∙ behind t p x k.first ∙ bad_cons p x s.char wide s.could ∙ over ∙ sym sum ∙ ap length (sym same) }
    where
      x : List ℕ
      x = take s.n (first_four u) ++ s.rest

      same : take (p + s.n) t ++ s.rest ≡ take p t ++ x
      same = ap (λ l. l ++ s.rest) (take-add p s.n t) ∙ append_assoc (take p t) (take s.n u) s.rest ∙ ap (λ l. take p t ++ (l ++ s.rest)) (firsts u s.n s.few enough)

      wide : ℕ
      wide = s.n + length s.rest

      long : length x ≡ wide
      long = length-append (take s.n (first_four u)) s.rest ∙ ap (λ m. m + length s.rest) (length-take-le s.n (first_four u) (omega (arith, s.few)))

      over : ill_formed_from (p + wide) 0 (drop wide x) ≡ p + wide
      over = ap (λ m. ill_formed_from (p + wide) 0 (drop m x)) (sym long) ∙ ap (ill_formed_from (p + wide) 0) (drop-length x) ∙ at_end_lem (p + wide)

      sum : length (take p t ++ x) ≡ p + wide
      sum = length-append (take p t) x ∙ omega (arith, length-take-le p t (omega (arith, k.inside)), long)

  -- the byte that shows it, and anything behind it
  after : p + s.n < length t → Begins (take (suc (p + s.n)) t) → ⊥
  after h r = omega (arith, well, ill, sum, length-append (take (suc s.n) u) r.rest, long)
    where
      x : List ℕ
      x = take (suc s.n) u ++ r.rest

      long : length (take (suc s.n) u) ≡ suc s.n
      long = length-take-le (suc s.n) u (omega (arith, length-drop p t))

      count : suc (p + s.n) ≡ p + suc s.n
      count = omega arith

      same : take (suc (p + s.n)) t ++ r.rest ≡ take p t ++ x
      same = ap (λ m. take m t ++ r.rest) count ∙ ap (λ l. l ++ r.rest) (take-add p (suc s.n) t) ∙ append_assoc (take p t) (take (suc s.n) u) r.rest

      byte : (j : ℕ) → j ≤ s.n → get_or x j 256 ≡ get_or u j 256
      byte j l = get_or-append (take (suc s.n) u) r.rest 256 j (omega (arith, long)) ∙ get_or-take (suc s.n) u j 256 (omega arith)

      bad : decode_head x ≡ IllFormed f
      bad = head_four x ∙ ap (λ a. decode_four a (get_or x 1 256) (get_or x 2 256) (get_or x 3 256)) (byte 0 (omega arith)) ∙ s.stays _ _ _ (byte 1) (byte 2) (byte 3)

      ill : first_ill_formed (take p t ++ x) ≡ p
      ill = behind t p x k.first ∙ bad_stop p x f bad

      well : first_ill_formed (take p t ++ x) ≡ length (take p t ++ x)
      well = subst IsWellFormed same r.well

      sum : length (take p t ++ x) ≡ p + length x
      sum = length-append (take p t) x ∙ omega (arith, length-take-le p t (omega (arith, k.inside)))

  -- what the fault says
  lead : get_or u 0 256 ≡ byte_at t p
  lead = at_place 0 ∙ ap (byte_at t) (add-zero p)

  second_says : (P : ℕ → ℕ → Type 0) (n : ℕ) → n ≡ 1 → is_tail (get_or u 1 256) ≡ true
      → ((x y : ℕ) → is_tail x ≡ true → is_tail y ≡ true → P (get_or u 0 256) (bits (get_or u 0 256) (get_or u 1 256) x y)) → Second (P (byte_at t p)) t p (p + n)
  second_says P n e h g =
      let b : get_or u 1 256 ≡ byte_at t (p + n) = at_place 1 ∙ ap (λ x. byte_at t (p + x)) (sym e) in
      record {
        second = omega arith;
        tail = subst (λ x. is_tail x ≡ true) b h;
        number = λ x y q r. subst (λ a. P a (bits a (byte_at t (p + n)) x y)) lead (subst (λ z. P (get_or u 0 256) (bits (get_or u 0 256) z x y)) b (g x y q r));
      }

  says : (g : Fault) (n : ℕ) → n < 4 → p + n ≤ length t → Of (get_or u 0 256) (get_or u 1 256) (get_or u 2 256) (get_or u 3 256) g n → Has g t p (p + n)
  says Stray n l m o = (omega arith, subst (λ x. is_tail x ≡ true) lead o.1)
  says Unused n l m o = (omega arith, subst (λ x. either (within 0xc0 0xc1 x) (within 0xf5 0xff x) ≡ true) lead o.1)
  says CutByEnd n l m o = go (dec_lt (p + n) (length t))
    where
      go : Dec (p + n < length t) → p + n ≡ length t
      go (yes h) = absurd (omega (arith, bytes (p + n) h, at_place n, nth u n l, o.1))
      go (no h) = omega arith
  says CutByByte n l m o = (omega arith, go (dec_lt (p + n) (length t)), subst (λ x. is_tail x ≡ false) (nth u n l ∙ at_place n) o.1)
    where
      go : Dec (p + n < length t) → p + n < length t
      go (yes h) = h
      go (no h) = absurd (omega (arith, o.2, nth u n l, at_place n, get_or-eq_default t 256 {n = p + n} (omega arith)))
  says Overlong n l m o = second_says (λ a x. x < least_of a) n o.0 o.1 o.2
  says Surrogate n l m o = second_says (λ a x. (0xd800 ≤ x) × (x ≤ 0xdfff)) n o.0 o.1 o.2
  says TooLarge n l m o = second_says (λ a x. no_char ≤ x) n o.0 o.1 o.2

  pub fault_in : FaultIn t p f
  fault_in = record { first = k.first; inside = k.inside; shown = p + s.n; shows = record { fits = fits; before = before; after = after }; has = says f s.n s.few fits s.says }

-- ---- a text has no other fault
-- bytes begin what longer ones begin
shorter : (i j : ℕ) (t : List ℕ) → i ≤ j → Begins (take j t) → Begins (take i t)
shorter i j t h b = record { rest = drop i (take j t) ++ b.rest; well = subst IsWellFormed same b.well }
  where
    same : take j t ++ b.rest ≡ take i t ++ (drop i (take j t) ++ b.rest)
    same = ap (λ l. l ++ b.rest) (sym (take-append-drop i (take j t)) ∙ ap (λ l. l ++ drop i (take j t)) (take-take i j t h)) ∙ append_assoc (take i t) (drop i (take j t)) b.rest

shows_one : (t : List ℕ) (i j : ℕ) → Shows t i → Shows t j → i ≡ j
shows_one t i j x y = go (dec_lt i j) (dec_lt j i)
  where
    go : Dec (i < j) → Dec (j < i) → i ≡ j
    go (yes h) z = absurd (x.after (omega (arith, y.fits)) (shorter (suc i) j t h y.before))
    go (no h) (yes k) = absurd (y.after (omega (arith, x.fits)) (shorter (suc j) i t k x.before))
    go (no h) (no k) = omega arith

-- no continuation byte is C0, C1 or F5 to FF
unused_apart : (a : ℕ) → either (within 0xc0 0xc1 a) (within 0xf5 0xff a) ≡ true → is_tail a ≡ false
unfolding within
unused_apart a h = go (is_tail a) refl
  where
    go : (b : Bool) → is_tail a ≡ b → is_tail a ≡ false
    go false e = e
    go true e =
        let m = within_high 0x80 0xbf a e in
        absurd (true_is_not_false (sym (simp (lt-leb 0xc0 a (omega arith), lt-leb 0xf5 a (omega arith)) at h)))

tail_80 : is_tail 0x80 ≡ true
unfolding within
tail_80 = refl

tail_bf : is_tail 0xbf ≡ true
unfolding within
tail_bf = refl

most : (a : ℕ) → least_of a ≤ 0x10000
unfolding least_of
most a = choose_keeps (λ n. n ≤ 0x10000) (ltb a 0xf0) (λ _. lit≤ tt) (λ _. lit≤ tt)

-- surrogates are fewer than the numbers that two bytes of four leave open
own : (a b : ℕ) → ((c d : ℕ) → is_tail c ≡ true → is_tail d ≡ true → (0xd800 ≤ bits a b c d) × (bits a b c d ≤ 0xdfff)) → least_of a ≤ bits a b 0x80 0x80
own a b h = go (dec_lt a 0xf0)
  where
    go : Dec (a < 0xf0) → least_of a ≤ bits a b 0x80 0x80
    go (yes k) = omega (arith, least_three_lem a k, h 0x80 0x80 tail_80 tail_80)
    go (no k) = absurd (omega (arith, bits_four a b 0x80 0x80 (omega arith), bits_four a b 0xbf 0xbf (omega arith), h 0x80 0x80 tail_80 tail_80, h 0xbf 0xbf tail_bf tail_bf))

-- the fault of a sequence at p, by the byte at i that shows it
module _ (t : List ℕ) (p i : ℕ) where
  abbrev number : ℕ
  number = bits (byte_at t p) (byte_at t i) 0x80 0x80

  named : Fault
  named =
      choose (eqb i (length t)) (λ _. CutByEnd)
      (λ _. choose (eqb i p) (λ _. choose (is_tail (byte_at t p)) (λ _. Stray) (λ _. Unused))
      (λ _. choose (is_tail (byte_at t i))
      (λ _. choose (ltb number (least_of (byte_at t p))) (λ _. Overlong) (λ _. choose (ltb number no_char) (λ _. Surrogate) (λ _. TooLarge)))
      (λ _. CutByByte)))

  inside : (P : ℕ → Type 0) → Second P t p i → i ≡ length t → ⊥
  inside P o e = omega (arith, in_list_lem t i (omega (arith, within_high 0x80 0xbf _ o.tail)))

  has_named : (f : Fault) → p < length t → Has f t p i → f ≡ named
  unfolding named
  has_named Stray h o = simp (ne_eqb i (length t) (omega arith), eq-eqb i p o.0, o.1)
  has_named Unused h o = simp (ne_eqb i (length t) (omega arith), eq-eqb i p o.0, unused_apart (byte_at t p) o.1)
  has_named CutByEnd h o = simp (eq-eqb i (length t) o)
  has_named CutByByte h o = simp (ne_eqb i (length t) (λ z. omega arith), ne_eqb i p (λ z. omega arith), o.2)
  has_named Overlong h o =
      simp (ne_eqb i (length t) (inside _ o), ne_eqb i p (λ z. omega (arith, o.second)), o.tail, lt-ltb number (least_of (byte_at t p)) (o.number 0x80 0x80 tail_80 tail_80))
  has_named Surrogate h o =
      simp (ne_eqb i (length t) (inside _ o), ne_eqb i p (λ z. omega (arith, o.second)), o.tail, le-ltb number (least_of (byte_at t p)) (own _ _ o.number), lt-ltb number no_char (omega (arith, o.number 0x80 0x80 tail_80 tail_80)))
  has_named TooLarge h o =
      simp (ne_eqb i (length t) (inside _ o), ne_eqb i p (λ z. omega (arith, o.second)), o.tail, le-ltb number (least_of (byte_at t p)) (omega (arith, most (byte_at t p), o.number 0x80 0x80 tail_80 tail_80)), le-ltb number no_char (o.number 0x80 0x80 tail_80 tail_80))

-- exactly one: any two that a text has are one
pub fault_one : (t : List ℕ) (p q : ℕ) (f g : Fault) → FaultIn t p f → FaultIn t q g → (p ≡ q) × (f ≡ g)
fault_one t p q f g x y =
    let e : p ≡ q = sym x.first ∙ y.first in
    let i = shows_one t _ _ x.shows y.shows in
    (e, has_named t p _ f x.inside x.has ∙ ap (λ n. named t n x.shown) e ∙ ap (named t q) i ∙ sym (has_named t q _ g y.inside y.has))

-- ---- and none where it is well formed
-- where the search ends, it ends at once
stops : (t : List ℕ) → ill_formed_from (first_ill_formed t) 0 (drop (first_ill_formed t) t) ≡ first_ill_formed t
stops t = sym (behind t _ (drop (first_ill_formed t) t) refl) ∙ ap (λ l. first_ill_formed l) (take-append-drop (first_ill_formed t) t)

module _ (t : List ℕ) where
  pub none_in : IsWellFormed t → (p : ℕ) (f : Fault) → FaultIn t p f → ⊥
  none_in w p f x = omega (arith, x.first, x.inside)

  pub well_told : IsWellFormed t → checked t ≡ well_formed
  unfolding checked checked_at
  well_told w = ap (checked_at (first_ill_formed t)) (sym (past_end t (first_ill_formed t) (omega arith)))

  pub told_well : Bytes t → checked t ≡ well_formed → IsWellFormed t
  unfolding checked checked_at
  told_well bytes e = go (decode_at t r) refl
    where
      r : ℕ
      r = first_ill_formed t

      go : (d : Decoded) → decode_at t r ≡ d → IsWellFormed t
      go (Char c w) h =
          let f = fine_at t r (Char c w) h in
          let b = bad_bounds (r + w) 0 (drop w (drop r t)) (omega arith) in
          absurd (omega (arith, stops t, bad_cons r (drop r t) c w (sym (at_head t r) ∙ h), b, f))
      go (IllFormed f) h = let z : fault_at r f ≡ well_formed = ap (checked_at r) (sym h) ∙ e in absurd (let y : ◌≡◌ {A = ℕ} 0 1 = cc in omega arith)
      go End h = at (dec_lt r (length t))
        where
          at : Dec (r < length t) → IsWellFormed t
          at (yes l) = absurd (omega (arith, bytes r l, fine_at t r End h, get_d_head t r))
          at (no l) = omega (arith, bad_bounds 0 0 t (omega arith))

-- so a text is well formed or has a fault: where it was ill-formed before faults were told, and nowhere else
pub well_or_faulty : (t : List ℕ) → Bytes t → IsWellFormed t ⊎ Faulty t
well_or_faulty t bytes = go (checked t) refl
  where
    go : (c : Checked) → checked t ≡ c → IsWellFormed t ⊎ Faulty t
    go (Ok u) e = inl (told_well t bytes e)
    go (Err x) e = inr (record { place = x.at; fault = x.fault; has = fault_in t x.at x.fault (told t x.at x.fault e) bytes })

-- and the fault that it has is told
pub fault_told : (t : List ℕ) (p : ℕ) (f : Fault) → Bytes t → FaultIn t p f → checked t ≡ fault_at p f
fault_told t p f bytes x = go (checked t) refl
  where
    go : (c : Checked) → checked t ≡ c → c ≡ fault_at p f
    go (Ok u) e = absurd (none_in t (told_well t bytes e) p f x)
    go (Err y) e =
        let z = fault_one t y.at p y.fault f (fault_in t y.at y.fault (told t y.at y.fault e) bytes) x in
        ap (λ n. fault_at n y.fault) z.0 ∙ ap (fault_at p) z.1
