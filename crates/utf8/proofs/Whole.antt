-- The bytes before a text's first ill-formed sequence are whole characters: with anything else behind them the search goes on there.
-- Assumes nothing.
use Prim.Native.Nat.{ℕ, zero, suc, pred, ◌+◌, ◌-◌, ◌<◌, ◌≤◌}
use mathlib.Core.Path.{◌≡◌, refl, sym, ◌∙◌, ap}
use mathlib.Core.List.{List, [], ◌∷◌, ◌++◌}
use native.Mathlib.Omega.{arith}
use native.Mathlib.Decide.{dec_lt}
use lib.ListN.{length, get_or, take, get_or-append}
use lib.Seq.{get_or-take, length-take-le}
use Rattle.choice.proofs.Laws.{choose_keeps}
use Rattle.utf8.specs.declared.Decoded.{Decoded}
use Rattle.utf8.specs.declared.Decoded.TheVariants.{Char, IllFormed, End}
use Rattle.utf8.specs.Utf8.{decode_four, two_bytes, three_bytes, four_bytes, least_second, greatest_second, within, is_tail}
use Rattle.utf8.specs.Chars.{decode_head, ill_formed_from}
use Rattle.utf8.proofs.Bytes.{as_one, as_none, as_two, as_three, as_four, as_high, as_end}
use Rattle.utf8.proofs.Laws.{Fine, head_fine, no_char_lem}

-- ---- a character is told by its own bytes
abbrev width_in : Decoded → ℕ
width_in (Char c w) = w
width_in (IllFormed f) = 0
width_in End = 0

-- a character of n bytes, if one at all
abbrev Wide : ℕ → Decoded → Type 0
Wide n d = (x w : ℕ) → d ≡ Char x w → w ≡ n

pub no_char_ill : {A : Type 0} {f : _} {x w : ℕ} → IllFormed f ≡ Char x w → A
no_char_ill e = let z : ◌≡◌ {A = ℕ} 0 1 = cc in absurd (omega arith)

two_wide : (a b : ℕ) → Wide 2 (two_bytes a b)
unfolding two_bytes
two_wide a b = choose_keeps (Wide 2) (is_tail b) (λ _ x w e. sym (ap width_in e)) (λ _ x w e. no_char_ill e)

three_wide : (a b c : ℕ) → Wide 3 (three_bytes a b c)
unfolding three_bytes
three_wide a b c =
    choose_keeps (Wide 3) (within (least_second a) (greatest_second a) b)
    (λ _. choose_keeps (Wide 3) (is_tail c) (λ _ x w e. sym (ap width_in e)) (λ _ x w e. no_char_ill e)) (λ _ x w e. no_char_ill e)

four_wide : (a b c d : ℕ) → Wide 4 (four_bytes a b c d)
unfolding four_bytes
four_wide a b c d =
    choose_keeps (Wide 4) (within (least_second a) (greatest_second a) b)
    (λ _. choose_keeps (Wide 4) (is_tail c)
    (λ _. choose_keeps (Wide 4) (is_tail d) (λ _ x w e. sym (ap width_in e)) (λ _ x w e. no_char_ill e)) (λ _ x w e. no_char_ill e)) (λ _ x w e. no_char_ill e)

char_same : (a b c d b' c' d' x w : ℕ) → decode_four a b c d ≡ Char x w → (1 < w → b' ≡ b) → (2 < w → c' ≡ c) → (3 < w → d' ≡ d) → decode_four a b' c' d' ≡ Char x w
char_same a b c d b' c' d' x w e f g h = go (dec_lt a 0x80) (dec_lt a 0xc2) (dec_lt a 0xe0) (dec_lt a 0xf0) (dec_lt a 0xf5) (dec_lt a 256)
  where
    go : Dec (a < 0x80) → Dec (a < 0xc2) → Dec (a < 0xe0) → Dec (a < 0xf0) → Dec (a < 0xf5) → Dec (a < 256) → decode_four a b' c' d' ≡ Char x w
    go (yes k) l m n o p = as_one a k b' c' d' ∙ sym (as_one a k b c d) ∙ e
    go (no k) (yes l) m n o p = no_char_ill (sym (as_none a (omega arith) l b c d) ∙ e)
    go (no k) (no l) (yes m) n o p =
        let z = two_wide a b x w (sym (as_two a (omega arith) m b c d) ∙ e) in
        as_two a (omega arith) m b' c' d' ∙ ap (two_bytes a) (f (omega arith)) ∙ sym (as_two a (omega arith) m b c d) ∙ e
    go (no k) (no l) (no m) (yes n) o p =
        let z = three_wide a b c x w (sym (as_three a (omega arith) n b c d) ∙ e) in
        as_three a (omega arith) n b' c' d' ∙ ap (λ y. three_bytes a y c') (f (omega arith)) ∙ ap (three_bytes a b) (g (omega arith)) ∙ sym (as_three a (omega arith) n b c d) ∙ e
    go (no k) (no l) (no m) (no n) (yes o) p =
        let z = four_wide a b c d x w (sym (as_four a (omega arith) o b c d) ∙ e) in
        as_four a (omega arith) o b' c' d' ∙ ap (λ y. four_bytes a y c' d') (f (omega arith)) ∙ ap (λ y. four_bytes a b y d') (g (omega arith)) ∙ ap (four_bytes a b c) (h (omega arith))
        ∙ sym (as_four a (omega arith) o b c d) ∙ e
    go (no k) (no l) (no m) (no n) (no o) (yes p) = no_char_ill (sym (as_high a (omega arith) p b c d) ∙ e)
    go (no k) (no l) (no m) (no n) (no o) (no p) = absurd (no_char_lem (sym (as_end a (omega arith) b c d) ∙ e))

pub head_same : (b : ℕ) (t u : List ℕ) (x w : ℕ) → decode_head (b ∷ t) ≡ Char x w → ((j : ℕ) → suc j < w → get_or u j 256 ≡ get_or t j 256) → decode_head (b ∷ u) ≡ Char x w
unfolding decode_head
head_same b t u x w e f = char_same b _ _ _ _ _ _ x w e (f 0) (f 1) (f 2)

-- ---- the search ends within the text, behind what is skipped
pub bad_bounds : (at k : ℕ) (t : List ℕ) → k ≤ length t → (at + k ≤ ill_formed_from at k t) × (ill_formed_from at k t ≤ at + length t)
unfolding ill_formed_from
bad_bounds at zero [] h = (omega arith, omega arith)
bad_bounds at (suc k) [] h = absurd (omega arith)
bad_bounds at (suc k) (b ∷ t) h = let i = bad_bounds (suc at) k t (omega arith) in (omega arith, omega arith)
bad_bounds at zero (b ∷ t) h = go (decode_head (b ∷ t)) (head_fine (b ∷ t)) refl (λ k. bad_bounds (suc at) k t)
  where
    go : (d : Decoded) → Fine (b ∷ t) d → decode_head (b ∷ t) ≡ d → ((k : ℕ) → k ≤ length t → (suc at + k ≤ ill_formed_from (suc at) k t) × (ill_formed_from (suc at) k t ≤ suc at + length t))
        → (at + 0 ≤ ill_formed_from at 0 (b ∷ t)) × (ill_formed_from at 0 (b ∷ t) ≤ at + suc (length t))
    go (Char c w) g p f = let i = f (pred w) (omega arith) in rw (p, ill_formed_from) (omega arith, omega arith)
    go (IllFormed r) g p f = rw (p, ill_formed_from) (omega arith, omega arith)
    go End g p f = rw (p, ill_formed_from) (omega arith, omega arith)

-- THE LAW
pub whole_from : (at k : ℕ) (t v : List ℕ) → k ≤ length t → ill_formed_from at k (take (ill_formed_from at k t - at) t ++ v) ≡ ill_formed_from (ill_formed_from at k t) 0 v
unfolding ill_formed_from
whole_from at zero [] v h = let z : at - at ≡ 0 = omega arith in rw z refl
whole_from at (suc k) [] v h = absurd (omega arith)
whole_from at (suc k) (b ∷ t) v h =
    let i = bad_bounds (suc at) k t (omega arith) in
    let m : ill_formed_from (suc at) k t - at ≡ suc (ill_formed_from (suc at) k t - suc at) = omega arith in
    rw m (whole_from (suc at) k t v (omega arith))
whole_from at zero (b ∷ t) v h = go (decode_head (b ∷ t)) (head_fine (b ∷ t)) refl (λ k. whole_from (suc at) k t v)
  where
    go : (d : Decoded) → Fine (b ∷ t) d → decode_head (b ∷ t) ≡ d
        → ((k : ℕ) → k ≤ length t → ill_formed_from (suc at) k (take (ill_formed_from (suc at) k t - suc at) t ++ v) ≡ ill_formed_from (ill_formed_from (suc at) k t) 0 v)
        → ill_formed_from at 0 (take (ill_formed_from at 0 (b ∷ t) - at) (b ∷ t) ++ v) ≡ ill_formed_from (ill_formed_from at 0 (b ∷ t)) 0 v
    go (Char c w) g p f =
        let i = bad_bounds (suc at) (pred w) t (omega arith) in
        let n = ill_formed_from (suc at) (pred w) t - suc at in
        let m : ill_formed_from (suc at) (pred w) t - at ≡ suc n = omega arith in
        let l : length (take n t) ≡ n = length-take-le n t (omega arith) in
        let q : decode_head (b ∷ (take n t ++ v)) ≡ Char c w = head_same b t (take n t ++ v) c w p (λ j k. get_or-append (take n t) v 256 j (omega arith) ∙ get_or-take n t j 256 (omega arith)) in
        rw (p, ill_formed_from, m, q, ill_formed_from) (f (pred w) (omega arith))
    go (IllFormed r) g p f = let z : at - at ≡ 0 = omega arith in rw (p, ill_formed_from, z) refl
    go End g p f = let z : at - at ≡ 0 = omega arith in rw (p, ill_formed_from, z) refl
