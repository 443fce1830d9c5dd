-- From character to character by a rule that looks at four bytes at a time: where each byte may stand behind the three before it, a
-- walk over whole characters meets every byte that is no continuation byte.
-- Assumes nothing.
use Prim.Native.Nat.{ℕ, zero, suc, ◌+◌, ◌-◌, ◌*◌, ◌%◌, ◌^◌, ◌<◌, ◌≤◌}
use mathlib.Core.Path.{◌≡◌, refl, sym, ◌∙◌, ap, subst}
use mathlib.Core.List.{List}
use mathlib.Core.Bool.{Bool, true, false, ◌&&◌}
use native.Mathlib.Omega.{arith}
use native.Mathlib.Decide.{dec_lt}
use borrow.Author.Tests.{le-ltb, le-leb, lt-leb}
use lib.Dec.{leb}
use lib.ListN.{length, get_or, drop}
use Rattle.choice.proofs.Laws.{either_all, true_is_not_false}
use Rattle.utf8.specs.declared.Decoded.TheVariants.{Char}
use Rattle.utf8.specs.Utf8.{decode_at, two_bytes, three_bytes, four_bytes, within, is_tail, least_second, greatest_second}
use Rattle.utf8.specs.Chars.{ill_formed_from}
use Rattle.utf8.specs.Promises.{is_owed, is_lead, may_follow, fine_run, InOrder}
use Rattle.utf8.proofs.Bytes.{lead_one, lead_two, lead_three, lead_four}
use Rattle.utf8.proofs.Laws.{at_char_all, Tail, within_low, within_high, tail_between, is_tail_lem}

-- ---- whole characters are passed
pub and_left : (a b : Bool) → a && b ≡ true → a ≡ true
and_left true b e = refl
and_left false b e = e

pub and_right : (a b : Bool) → a && b ≡ true → b ≡ true
and_right true b e = e
and_right false b e = absurd (true_is_not_false (sym e))

abbrev pub bad : List ℕ → ℕ → ℕ
bad t i = ill_formed_from i 0 (drop i t)

-- a character is passed
pub char_same : (t : List ℕ) (i c w n : ℕ) → decode_at t i ≡ Char c w → i + w ≡ n → bad t n ≡ bad t i
char_same t i c w n e f = ap (bad t) (sym f) ∙ sym (at_char_all t i c w e).bad

-- ---- what the three bytes before a byte allow
owed_by_c : (a b c : ℕ) → 0xc0 ≤ c → is_owed a b c ≡ true
unfolding is_owed
owed_by_c a b c h = simp (le-leb 0xc0 c h)

owed_by_b : (a b c : ℕ) → 0xe0 ≤ b → is_owed a b c ≡ true
unfolding is_owed
owed_by_b a b c h = simp (le-leb 0xe0 b h) (either_all (leb 0xc0 c))

owed_by_a : (a b c : ℕ) → 0xf0 ≤ a → is_owed a b c ≡ true
unfolding is_owed
owed_by_a a b c h = simp (le-leb 0xf0 a h, either_all)

not_owed : (a b c : ℕ) → a < 0xf0 → b < 0xe0 → c < 0xc0 → is_owed a b c ≡ false
unfolding is_owed
not_owed a b c h k l = simp (lt-leb 0xf0 a h, lt-leb 0xe0 b k, lt-leb 0xc0 c l)

owed_tail : (a b c d : ℕ) → is_owed a b c ≡ true → may_follow a b c d ≡ true → within (least_second c) (greatest_second c) d ≡ true
unfolding may_follow
owed_tail a b c d o e = simp o at e

free_lead : (a b c d : ℕ) → is_owed a b c ≡ false → may_follow a b c d ≡ true → is_lead d ≡ true
unfolding may_follow
free_lead a b c d o e = simp o at e

-- ---- a character of two, three or four bytes is passed
module _ (t : List ℕ) (i : ℕ) where
  abbrev a : ℕ
  a = get_or t i 0

  abbrev b : ℕ
  b = get_or t (suc i) 0

  abbrev c : ℕ
  c = get_or t (suc (suc i)) 0

  abbrev d : ℕ
  d = get_or t (suc (suc (suc i))) 0

  one_same : i < length t → a < 0x80 → bad t (suc i) ≡ bad t i
  one_same h l = char_same t i a 1 _ (sym (lead_one t i h l)) (omega arith)

  two_same : suc i < length t → 0xc2 ≤ a → a < 0xe0 → is_tail b ≡ true → bad t (suc (suc i)) ≡ bad t i
  unfolding two_bytes
  two_same h k l p =
      let n : i + 1 ≡ suc i = omega arith in
      char_same t i (a % 32 * 64 + b % 64) 2 _ (sym (lead_two t i (omega arith) k l (omega arith) _ (rw n (simp p)))) (omega arith)

  three_same : suc (suc i) < length t → 0xe0 ≤ a → a < 0xf0 → within (least_second a) (greatest_second a) b ≡ true → is_tail c ≡ true → bad t (suc (suc (suc i))) ≡ bad t i
  unfolding three_bytes
  three_same h k l s p =
      let n : i + 1 ≡ suc i = omega arith in
      let m : i + 2 ≡ suc (suc i) = omega arith in
      char_same t i (a % 16 * 64 ^ 2 + b % 64 * 64 + c % 64) 3 _ (sym (lead_three t i (omega arith) k l (omega arith) _ (rw (n, m) (simp (s, p))))) (omega arith)

  four_same : suc (suc (suc i)) < length t → 0xf0 ≤ a → a < 0xf5 → within (least_second a) (greatest_second a) b ≡ true → is_tail c ≡ true → is_tail d ≡ true → bad t (suc (suc (suc (suc i)))) ≡ bad t i
  unfolding four_bytes
  four_same h k l s p q =
      let n : i + 1 ≡ suc i = omega arith in
      let m : i + 2 ≡ suc (suc i) = omega arith in
      let o : i + 3 ≡ suc (suc (suc i)) = omega arith in
      char_same t i (a % 8 * 64 ^ 3 + b % 64 * 64 ^ 2 + c % 64 * 64 + d % 64) 4 _ (sym (lead_four t i (omega arith) k l (omega arith) _ (rw (n, m, o) (simp (s, p, q))))) (omega arith)

long_lead : (d : ℕ) → is_lead d ≡ true → 0x80 ≤ d → (0xc2 ≤ d) × (d < 0xf5)
unfolding is_lead
long_lead d e h =
    let f = simp (le-ltb d 0x80 h) at e in
    let l = within_low 0xc2 0xf4 d f in
    let m = within_high 0xc2 0xf4 d f in
    (omega arith, omega arith)

-- ---- from character to character, behind the place i with its n fine bytes, up to the place r. The three bytes from q on stand before
-- a place; `Clean q` says that none of them asks for a byte there
abbrev Fits : List ℕ → ℕ → Type 0
Fits t q = may_follow (get_or t q 0) (get_or t (suc q) 0) (get_or t (suc (suc q)) 0) (get_or t (suc (suc (suc q))) 0) ≡ true

run_fits : (t : List ℕ) (i n k : ℕ) → fine_run t i n ≡ true → k < n → Fits t (i + k)
unfolding fine_run
run_fits t i zero k e h = absurd (omega arith)
run_fits t i (suc m) k e h = go (dec_lt k m) (run_fits t i m k (and_left (fine_run t i m) _ e))
  where
    go : Dec (k < m) → (k < m → Fits t (i + k)) → Fits t (i + k)
    go (yes l) f = f l
    go (no l) f =
        let n : k ≡ m = omega arith in
        let x : suc (i + m) ≡ i + m + 1 = omega arith in
        let y : suc (suc (i + m)) ≡ i + m + 2 = omega arith in
        let z : suc (suc (suc (i + m))) ≡ i + m + 3 = omega arith in
        cc (and_right (fine_run t i m) _ e)

module _ (t : List ℕ) (i n : ℕ) (run : InOrder t i n) (r : ℕ) (stop : is_tail (get_or t r 0) ≡ false) (low : r < i + 3 + n) where
  abbrev pub Clean : ℕ → Type 0
  Clean q = (get_or t q 0 < 0xf0) × (get_or t (suc q) 0 < 0xe0) × (get_or t (suc (suc q)) 0 < 0xc0)

  fits : (q : ℕ) → i ≤ q → q < i + n → Fits t q
  fits q h k = subst (Fits t) (omega arith) (run_fits t i n (q - i) run.fine (omega arith))

  -- a byte that is asked for is a continuation byte, and the walk does not stop there
  record Owed (q : ℕ) : Type 0 where
    second : within (least_second (get_or t (suc (suc q)) 0)) (greatest_second (get_or t (suc (suc q)) 0)) (get_or t (suc (suc (suc q))) 0) ≡ true
    tail : Tail (get_or t (suc (suc (suc q))) 0)
    before : suc (suc (suc q)) < r

  owed_at_lem : (q : ℕ) → i ≤ q → suc (suc (suc q)) ≤ r → is_owed (get_or t q 0) (get_or t (suc q) 0) (get_or t (suc (suc q)) 0) ≡ true → Owed q
  owed_at_lem q l h o = record { second = s; tail = w; before = omega (arith, other) }
    where
      s : within (least_second (get_or t (suc (suc q)) 0)) (greatest_second (get_or t (suc (suc q)) 0)) (get_or t (suc (suc (suc q))) 0) ≡ true
      s = owed_tail _ _ _ _ o (fits q l (omega arith))

      w : Tail (get_or t (suc (suc (suc q))) 0)
      w = tail_between _ _ s

      other : suc (suc (suc q)) ≡ r → ⊥
      other f = true_is_not_false (sym (is_tail_lem _ w) ∙ ap (λ (x : ℕ). is_tail (get_or t x 0)) f ∙ stop)

  -- one character on
  record Next (q : ℕ) : Type 0 where
    next : ℕ
    on : q < next
    fit : suc (suc (suc next)) ≤ r
    clean : Clean next
    same : bad t (suc (suc (suc next))) ≡ bad t (suc (suc (suc q)))

  step : (q : ℕ) → i ≤ q → suc (suc (suc q)) < r → Clean q → Next q
  step q g l k = go (dec_lt x 0x80) (dec_lt x 0xe0) (dec_lt x 0xf0)
    where
      x : ℕ
      x = get_or t (suc (suc (suc q))) 0

      lead : is_lead x ≡ true
      lead = free_lead _ _ _ _ (not_owed _ _ _ k.0 k.1 k.2) (fits q g (omega arith))

      inside : r < length t
      inside = omega (arith, run.fits)

      go : Dec (x < 0x80) → Dec (x < 0xe0) → Dec (x < 0xf0) → Next q
      go (yes h) u v = record { next = suc q; on = omega arith; fit = omega arith; clean = (omega arith, omega arith, omega arith); same = one_same t _ (omega (arith, inside)) h }
      go (no h) (yes u) v =
          let m = long_lead x lead (omega arith) in
          let b = owed_at_lem (suc q) (omega arith) (omega arith) (owed_by_c _ _ _ (omega arith)) in
          record { next = suc (suc q); on = omega arith; fit = omega arith; clean = (omega arith, omega arith, omega arith); same = two_same t _ (omega (arith, inside)) m.0 u (is_tail_lem _ b.tail) }
      go (no h) (no u) (yes v) =
          let b = owed_at_lem (suc q) (omega arith) (omega arith) (owed_by_c _ _ _ (omega arith)) in
          let c = owed_at_lem (suc (suc q)) (omega arith) (omega arith) (owed_by_b _ _ _ (omega arith)) in
          record { next = suc (suc (suc q)); on = omega arith; fit = omega arith; clean = (omega arith, omega arith, omega arith); same = three_same t _ (omega (arith, inside)) (omega arith) v b.second (is_tail_lem _ c.tail) }
      go (no h) (no u) (no v) =
          let m = long_lead x lead (omega arith) in
          let b = owed_at_lem (suc q) (omega arith) (omega arith) (owed_by_c _ _ _ (omega arith)) in
          let c = owed_at_lem (suc (suc q)) (omega arith) (omega arith) (owed_by_b _ _ _ (omega arith)) in
          let d = owed_at_lem (suc (suc (suc q))) (omega arith) (omega arith) (owed_by_a _ _ _ (omega arith)) in
          record { next = suc (suc (suc (suc q))); on = omega arith; fit = omega arith; clean = (omega arith, omega arith, omega arith); same = four_same t _ (omega (arith, inside)) (omega arith) m.1 b.second (is_tail_lem _ c.tail) (is_tail_lem _ d.tail) }

  pub walk : (fuel q : ℕ) → r ≤ suc (suc (suc q)) + fuel → i ≤ q → suc (suc (suc q)) ≤ r → Clean q → bad t r ≡ bad t (suc (suc (suc q)))
  walk zero q h g l k = ap (bad t) (omega arith)
  walk (suc fuel) q h g l k = go (dec_lt (suc (suc (suc q))) r) (λ (s : Next q). walk fuel s.next (omega arith) (omega arith) s.fit s.clean ∙ s.same)
    where
      go : Dec (suc (suc (suc q)) < r) → (Next q → bad t r ≡ bad t (suc (suc (suc q)))) → bad t r ≡ bad t (suc (suc (suc q)))
      go (yes m) f = f (step q g m k)
      go (no m) f = ap (bad t) (omega arith)
