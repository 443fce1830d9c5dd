-- A sequence that needs more bytes than the text has left: past the end stands no byte, and no sequence has that anywhere.
-- Assumes nothing.
use Prim.Native.Nat.{ℕ, ◌+◌, ◌-◌, ◌<◌, ◌≤◌}
use mathlib.Core.Path.{◌≡◌, refl, sym, ◌∙◌, ap, ap₂}
use mathlib.Core.List.{List}
use mathlib.Core.Bool.{Bool, true, false}
use native.Mathlib.Omega.{arith}
use native.Mathlib.Decide.{dec_lt}
use borrow.Author.Tests.{le-ltb}
use lib.Dec.{lit≤}
use lib.ListN.{length, get_or, get_or-eq_default}
use Rattle.choice.specs.Choice.{choose}
use Rattle.utf8.specs.declared.Fault.{Fault}
use Rattle.utf8.specs.declared.Fault.TheVariants.{CutByEnd, CutByByte}
use Rattle.utf8.specs.declared.Decoded.TheVariants.{IllFormed}
use Rattle.utf8.specs.Utf8.{cut_fault, second_fault, decode_four, decode_at, two_bytes, three_bytes, four_bytes, least_second, greatest_second, within, is_tail}
use Rattle.utf8.specs.Promises.{short_fault}
use Rattle.utf8.proofs.Bytes.{get_or_any, cut_by_byte, as_two, as_three, as_four, first, lead_3, lead_4}
use Rattle.utf8.proofs.Laws.{end_second, end_tail}

short_three : (a b : ℕ) → three_bytes a b 256 ≡ IllFormed (short_fault a b 256)
unfolding three_bytes short_fault cut_fault
short_three a b = simp (end_tail 256 (lit≤ tt)) (go (within (least_second a) (greatest_second a) b))
  where
    go : (p : Bool) → choose p (λ _. IllFormed CutByEnd) (λ _. IllFormed (second_fault a b)) ≡ IllFormed (choose p (λ _. CutByEnd) (λ _. second_fault a b))
    go true = refl
    go false = refl

short_four : (a b c : ℕ) → four_bytes a b c 256 ≡ IllFormed (short_fault a b c)
unfolding four_bytes short_fault cut_fault
short_four a b c = simp (end_tail 256 (lit≤ tt)) (go (within (least_second a) (greatest_second a) b) (is_tail c))
  where
    go : (p q : Bool) → choose p (λ _. choose q (λ _. IllFormed CutByEnd) (λ _. IllFormed (cut_fault c))) (λ _. IllFormed (second_fault a b)) ≡ IllFormed (choose p (λ _. choose q (λ _. CutByEnd) (λ _. cut_fault c)) (λ _. second_fault a b))
    go true true = refl
    go true false = refl
    go false q = refl

-- ---- the bytes that there are, from the second on, and then the end
module _ (a b : ℕ) (p : Bool) (f : within (least_second a) (greatest_second a) b ≡ p) where
  pub shows_second : p ≡ false → (r : Fault) → r ≡ second_fault a b → (c : ℕ) → r ≡ short_fault a b c
  unfolding short_fault
  shows_second n r e c = simp (f, n, e)

  module _ (n : p ≡ true) where
    pub ends_third : (c : ℕ) → 256 ≤ c → CutByEnd ≡ short_fault a b c
    unfolding short_fault cut_fault
    ends_third c h = simp (f, n, end_tail c h, le-ltb c 256 h)

    module _ (c : ℕ) (q : Bool) (g : is_tail c ≡ q) where
      pub ends_fourth : q ≡ true → CutByEnd ≡ short_fault a b c
      unfolding short_fault
      ends_fourth o = simp (f, n, g, o)

      pub cuts_third : q ≡ false → c < 256 → CutByByte ≡ short_fault a b c
      unfolding short_fault
      cuts_third o h = simp (f, n, g, o) (cut_by_byte c h)

-- ---- at a place, by its byte
alone : (a : ℕ) → second_fault a 256 ≡ CutByEnd
unfolding second_fault cut_fault
alone a = simp (end_tail 256 (lit≤ tt))

-- a lead byte and no more
lone : (a c d : ℕ) → 0xc2 ≤ a → a < 0xf5 → decode_four a 256 c d ≡ IllFormed CutByEnd
unfolding two_bytes three_bytes four_bytes
lone a c d h k = go (dec_lt a 0xe0) (dec_lt a 0xf0)
  where
    go : Dec (a < 0xe0) → Dec (a < 0xf0) → decode_four a 256 c d ≡ IllFormed CutByEnd
    go (yes l) m = as_two a h l 256 c d ∙ simp (end_tail 256 (lit≤ tt), alone a)
    go (no l) (yes m) = as_three a (omega arith) m 256 c d ∙ simp (end_second a 256 (lit≤ tt), alone a)
    go (no l) (no m) = as_four a (omega arith) k 256 c d ∙ simp (end_second a 256 (lit≤ tt), alone a)

module _ (t : List ℕ) (i : ℕ) (h : i < length t) where
  abbrev a : ℕ
  a = get_or t i 0

  none_at : (j : ℕ) → length t ≤ j → 256 ≡ get_or t j 256
  none_at j l = sym (get_or-eq_default t 256 {n = j} l)

  pub lead_alone : 0xc2 ≤ a → a < 0xf5 → length t - i < 2 → IllFormed CutByEnd ≡ decode_at t i
  lead_alone k l m = sym (lone a _ _ k l) ∙ ap (λ x. decode_four a x (get_or t (i + 2) 256) (get_or t (i + 3) 256)) (none_at (i + 1) (omega arith)) ∙ first t i h

  -- with a second
  module _ (m : 2 ≤ length t - i) (r : Fault) where
    abbrev b : ℕ
    b = get_or t (i + 1) 0

    second_byte : b ≡ get_or t (i + 1) 256
    second_byte = get_or_any t (i + 1) 0 256 (omega arith)

    module _ (e : r ≡ short_fault a b 256) (n : length t - i < 3) where
      pub cut_three : 0xe0 ≤ a → a < 0xf0 → IllFormed r ≡ decode_at t i
      cut_three k l = ap IllFormed e ∙ sym (short_three a b) ∙ ap₂ (three_bytes a) second_byte (none_at (i + 2) (omega arith)) ∙ lead_3 t i h k l

      pub cut_four : 0xf0 ≤ a → a < 0xf5 → IllFormed r ≡ decode_at t i
      cut_four k l =
          ap IllFormed e ∙ sym (short_four a b 256) ∙ ap₂ (λ x y. four_bytes a x y 256) second_byte (none_at (i + 2) (omega arith))
          ∙ ap (four_bytes a _ _) (none_at (i + 3) (omega arith)) ∙ lead_4 t i h k l

    -- and with a third
    pub cut_fourth : r ≡ short_fault a b (get_or t (i + 2) 0) → 3 ≤ length t - i → length t - i < 4 → 0xf0 ≤ a → a < 0xf5 → IllFormed r ≡ decode_at t i
    cut_fourth e n o k l =
        ap IllFormed e ∙ sym (short_four a b _) ∙ ap₂ (λ x y. four_bytes a x y 256) second_byte (get_or_any t (i + 2) 0 256 (omega arith))
        ∙ ap (four_bytes a _ _) (none_at (i + 3) (omega arith)) ∙ lead_4 t i h k l
