-- The four bytes of an ill-formed sequence: which of them shows the fault, that no other bytes behind it make it well formed, and that
-- other bytes in its place do.
-- Assumes nothing.
use Prim.Native.Nat.{ℕ, ◌+◌, ◌-◌, ◌<◌, ◌≤◌}
use mathlib.Core.Path.{◌≡◌, refl, sym, ◌∙◌, ap, subst, ap₂}
use mathlib.Core.List.{List, [], ◌∷◌, ◌++◌}
use mathlib.Core.Bool.{true, false}
use native.Mathlib.Omega.{arith}
use native.Mathlib.Decide.{dec_lt, ℕ_discrete}
use borrow.Author.Tests.{lt-ltb, le-ltb, ne_eqb, eqb-true, eqb-false, ltb-true, ltb-false, le-leb, lt-leb, leb-false}
use lib.Dec.{eqb, ltb, lit<, lit≤}
use lib.ListN.{length, get_or, take}
use Rattle.choice.specs.Choice.{either}
use Rattle.choice.proofs.Laws.{choose_keeps, either_all}
use Rattle.utf8.specs.declared.Fault.{Fault}
use Rattle.utf8.specs.declared.Fault.TheVariants.{Stray, Unused, CutByEnd, CutByByte, Overlong, Surrogate, TooLarge}
use Rattle.utf8.specs.declared.Decoded.{Decoded}
use Rattle.utf8.specs.declared.Decoded.TheVariants.{Char, IllFormed, End}
use Rattle.utf8.specs.Utf8.{first_fault, cut_fault, second_fault, decode_four, two_bytes, three_bytes, four_bytes, least_second, greatest_second, within, is_tail, three_bits, four_bits}
use Rattle.utf8.specs.Chars.{no_char, decode_head}
use Rattle.utf8.specs.Faults.{bits, least_of}
use Rattle.utf8.proofs.Laws.{within_low, within_high, tail_between}
use Rattle.utf8.proofs.Bytes.{as_one, as_none, as_two, as_three, as_four, as_high, as_end}

-- ---- what a byte is
not_high : (n : ℕ) → 0xc0 ≤ n → is_tail n ≡ false
unfolding within
not_high n h = simp (le-leb 0x80 n (omega arith), lt-leb n 0xbf (omega arith))

-- a continuation byte that may not come second lies outside the bounds
out : (low high b : ℕ) → within low high b ≡ false → low ≤ b → high < b
unfolding within
out low high b e h = leb-false b high (simp (le-leb low b h) at e)

-- the least second byte may come second
high_least : (a : ℕ) → 0x8f ≤ greatest_second a
unfolding greatest_second
high_least a = choose_keeps (λ n. 0x8f ≤ n) (eqb a 0xed) (λ _. lit≤ tt) (λ _. choose_keeps (λ n. 0x8f ≤ n) (eqb a 0xf4) (λ _. lit≤ tt) (λ _. lit≤ tt))

in_order : (a : ℕ) → least_second a ≤ greatest_second a
unfolding least_second greatest_second
in_order a =
    choose_keeps (λ n. n ≤ greatest_second a) (eqb a 0xe0) (λ e. subst (λ x. 0xa0 ≤ greatest_second x) (sym (eqb-true a 0xe0 e)) (lit≤ tt))
    (λ _. choose_keeps (λ n. n ≤ greatest_second a) (eqb a 0xf0) (λ e. subst (λ x. 0x90 ≤ greatest_second x) (sym (eqb-true a 0xf0 e)) (lit≤ tt))
    (λ _. omega (arith, high_least a)))

least_fits : (a : ℕ) → within (least_second a) (greatest_second a) (least_second a) ≡ true
unfolding within
least_fits a = simp (le-leb (least_second a) (least_second a) (omega arith), le-leb (least_second a) (greatest_second a) (in_order a))

-- the bits of three bytes, and of four
module _ (a : ℕ) (b c d : ℕ) where
  bits_three : a < 0xf0 → bits a b c d ≡ three_bits a b c
  unfolding bits
  bits_three h = simp (lt-ltb a 0xf0 h)

  pub bits_four : 0xf0 ≤ a → bits a b c d ≡ four_bits a b c d
  unfolding bits
  bits_four h = simp (le-ltb a 0xf0 h)

pub least_three_lem : (a : ℕ) → a < 0xf0 → least_of a ≡ 0x800
unfolding least_of
least_three_lem a h = simp (lt-ltb a 0xf0 h)

least_four_lem : (a : ℕ) → 0xf0 ≤ a → least_of a ≡ 0x10000
unfolding least_of
least_four_lem a h = simp (le-ltb a 0xf0 h)

-- ---- what the fault says of the bytes, of which n stand before the one that shows it
module _ (a b c d : ℕ) where
  abbrev pub four : List ℕ
  four = a ∷ b ∷ c ∷ d ∷ []

  abbrev Beyond : (ℕ → Type 0) → ℕ → Type 0
  Beyond P n = (n ≡ 1) × (is_tail b ≡ true) × ((x y : ℕ) → is_tail x ≡ true → is_tail y ≡ true → P (bits a b x y))

  abbrev pub Of : Fault → ℕ → Type 0
  Of Stray n = (n ≡ 0) × (is_tail a ≡ true)
  Of Unused n = (n ≡ 0) × (either (within 0xc0 0xc1 a) (within 0xf5 0xff a) ≡ true)
  Of CutByEnd n = (0 < n) × (256 ≤ get_or four n 256)
  Of CutByByte n = (0 < n) × (is_tail (get_or four n 256) ≡ false) × (get_or four n 256 < 256)
  Of Overlong n = Beyond (λ m. m < least_of a) n
  Of Surrogate n = Beyond (λ m. (0xd800 ≤ m) × (m ≤ 0xdfff)) n
  Of TooLarge n = Beyond (λ m. no_char ≤ m) n

  pub record Sequence (f : Fault) : Type 0 where
    pub n : ℕ
    pub few : n < 4
    -- a byte stands before it, where it is not the first
    pub last : 0 < n → get_or four (n - 1) 256 < 256
    -- whatever stands behind it
    pub stays : (b' c' d' : ℕ) → (1 ≤ n → b' ≡ b) → (2 ≤ n → c' ≡ c) → (3 ≤ n → d' ≡ d) → decode_four a b' c' d' ≡ IllFormed f
    -- a character that begins with those before it
    pub rest : List ℕ
    pub char : ℕ
    pub could : decode_head (take n four ++ rest) ≡ Char char (n + length rest)
    pub says : Of f n

-- ---- what each byte that shows a fault says
module _ (a b c d : ℕ) where
  -- the first
  tail_or_not : 0x80 ≤ a → a < 0xc2 → Of a b c d (first_fault a) 0
  unfolding first_fault within
  tail_or_not h k =
      choose_keeps (λ f. Of a b c d f 0) (is_tail a) (λ t. (refl, t))
      (λ t. let o = out 0x80 0xbf a t h in (refl, simp (le-leb 0xc0 a (omega arith), le-leb a 0xc1 (omega arith))))

  above : 0xf5 ≤ a → a < 256 → Of a b c d (first_fault a) 0
  unfolding first_fault within
  above h k = simp (not_high a (omega arith)) (refl, simp (le-leb 0xf5 a h, le-leb a 0xff (omega arith)) (either_all (within 0xc0 0xc1 a)))

  -- one that is no continuation byte
  cut : (n : ℕ) → 0 < n → is_tail (get_or (four a b c d) n 256) ≡ false → Of a b c d (cut_fault (get_or (four a b c d) n 256)) n
  unfolding cut_fault
  cut n h t = choose_keeps (λ f. Of a b c d f n) (ltb (get_or (four a b c d) n 256) 256) (λ e. (h, t, ltb-true _ _ e)) (λ e. (h, ltb-false _ _ e))

  cut_second : is_tail b ≡ false → Of a b c d (second_fault a b) 1
  unfolding second_fault
  cut_second t = simp t (cut 1 (lit< tt) t)

  -- a second one outside the bounds
  module _ (n : within (least_second a) (greatest_second a) b ≡ false) (t : is_tail b ≡ true) where
    low : 0x80 ≤ b
    low = within_low 0x80 0xbf b t

    high : b ≤ 0xbf
    high = within_high 0x80 0xbf b t

    surrogate : a ≡ 0xed → Of a b c d Surrogate 1
    unfolding least_second greatest_second
    surrogate e = (refl, t, λ x y p q. subst (λ m. (0xd800 ≤ m) × (m ≤ 0xdfff)) (sym (bits_three a b x y (omega arith))) (omega (arith, o, high), omega (arith, o, high)))
      where
        o : 0x9f < b
        o = out 0x80 0x9f b (subst (λ z. within (least_second z) (greatest_second z) b ≡ false) e n) low

    too_large : a ≡ 0xf4 → Of a b c d TooLarge 1
    unfolding least_second greatest_second
    too_large e = (refl, t, λ x y p q. subst (λ m. no_char ≤ m) (sym (bits_four a b x y (omega arith))) (omega (arith, o, high)))
      where
        o : 0x8f < b
        o = out 0x80 0x8f b (subst (λ z. within (least_second z) (greatest_second z) b ≡ false) e n) low

    overlong : (a ≡ 0xed → ⊥) → (a ≡ 0xf4 → ⊥) → Of a b c d Overlong 1
    unfolding least_second greatest_second
    overlong h k = (refl, t, go (ℕ_discrete a 0xe0) (ℕ_discrete a 0xf0))
      where
        bound : greatest_second a ≡ 0xbf
        bound = simp (ne_eqb a 0xed h, ne_eqb a 0xf4 k)

        below : least_second a ≤ b → ⊥
        below l = omega (arith, out (least_second a) (greatest_second a) b n l, bound, high)

        go : Dec (a ≡ 0xe0) → Dec (a ≡ 0xf0) → (x y : ℕ) → is_tail x ≡ true → is_tail y ≡ true → bits a b x y < least_of a
        go (yes e) z x y p q =
            let s : least_second a ≡ 0xa0 = ap least_second e in
            let v = bits_three a b x y (omega arith) in
            let w = least_three_lem a (omega arith) in
            omega (arith, below, low, v, w)
        go (no u) (yes e) x y p q =
            let s : least_second a ≡ 0x90 = ap least_second e in
            let v = bits_four a b x y (omega arith) in
            let w = least_four_lem a (omega arith) in
            omega (arith, below, low, v, w)
        go (no u) (no z) x y p q = let s : least_second a ≡ 0x80 = simp (ne_eqb a 0xe0 u, ne_eqb a 0xf0 z) in absurd (below (omega (arith, low)))

  second : within (least_second a) (greatest_second a) b ≡ false → Of a b c d (second_fault a b) 1
  unfolding second_fault
  second n =
      choose_keeps P (is_tail b)
      (λ t. choose_keeps P (eqb a 0xed) (λ e. surrogate n t (eqb-true _ _ e))
      (λ e. choose_keeps P (eqb a 0xf4) (λ f. too_large n t (eqb-true _ _ f)) (λ f. overlong n t (eqb-false _ _ e) (eqb-false _ _ f))))
      (λ t. cut 1 (lit< tt) t)
    where
      P : Fault → Type 0
      P f = Of a b c d f 1

-- ---- THE LAW
abbrev fault_in_lem : Decoded → Fault
fault_in_lem (Char c w) = Stray
fault_in_lem (IllFormed f) = f
fault_in_lem End = Stray

no_fault_char : {A : Type 0} {f : Fault} {x w : ℕ} → Char x w ≡ IllFormed f → A
no_fault_char e = let z : ◌≡◌ {A = ℕ} 0 1 = cc in absurd (omega arith)

no_fault_end : {A : Type 0} {f : Fault} → End ≡ IllFormed f → A
no_fault_end e = let z : ◌≡◌ {A = ℕ} 0 1 = cc in absurd (omega arith)

-- a byte of a sequence is one
tail_byte : (b : ℕ) → is_tail b ≡ true → b < 256
tail_byte b t = omega (arith, within_high 0x80 0xbf b t)

module _ (a b c d : ℕ) (f : Fault) where
  abbrev Shown : ℕ → List ℕ → ℕ → Type 0
  Shown n rest char = Of a b c d f n → decode_head (take n (four a b c d) ++ rest) ≡ Char char (n + length rest) → Sequence a b c d f

  -- the byte that shows it: what decides is the bytes up to that one
  first_shows : ((b' c' d' : ℕ) → decode_four a b' c' d' ≡ IllFormed f) → Shown 0 (0 ∷ []) 0
  first_shows s o e = record { n = 0; few = lit< tt; last = λ h. absurd (omega arith); stays = λ b' c' d' _ _ _. s b' c' d'; rest = _; char = _; could = e; says = o }

  second_shows : a < 256 → ((c' d' : ℕ) → decode_four a b c' d' ≡ IllFormed f) → (rest : List ℕ) (x : ℕ) → Shown 1 rest x
  second_shows l s rest x o e =
      record { n = 1; few = lit< tt; last = λ _. l; stays = λ b' c' d' p _ _. ap (λ y. decode_four a y c' d') (p (lit≤ tt)) ∙ s c' d'; rest = rest; char = x; could = e; says = o }

  third_shows : b < 256 → ((d' : ℕ) → decode_four a b c d' ≡ IllFormed f) → (rest : List ℕ) (x : ℕ) → Shown 2 rest x
  third_shows l s rest x o e =
      record {
        n = 2;
        few = lit< tt;
        last = λ _. l;
        stays = λ b' c' d' p q _. ap₂ (λ y z. decode_four a y z d') (p (lit≤ tt)) (q (lit≤ tt)) ∙ s d';
        rest = rest;
        char = x;
        could = e;
        says = o;
      }

  fourth_shows : c < 256 → decode_four a b c d ≡ IllFormed f → (rest : List ℕ) (x : ℕ) → Shown 3 rest x
  fourth_shows l s rest x o e =
      record {
        n = 3;
        few = lit< tt;
        last = λ _. l;
        stays = λ b' c' d' p q r. ap₂ (λ y z. decode_four a y z d') (p (lit≤ tt)) (q (lit≤ tt)) ∙ ap (decode_four a b c) (r (lit≤ tt)) ∙ s;
        rest = rest;
        char = x;
        could = e;
        says = o;
      }

module _ (a b c d : ℕ) where
  none : ((b' c' d' : ℕ) → decode_four a b' c' d' ≡ IllFormed (first_fault a)) → Of a b c d (first_fault a) 0 → Sequence a b c d (first_fault a)
  unfolding decode_head decode_four
  none s o = first_shows a b c d (first_fault a) s o refl

  module _ (f : Fault) where
    abbrev Told : Decoded → Type 0
    Told e = e ≡ IllFormed f → Sequence a b c d f

    told : {g : Fault} → Sequence a b c d g → Told (IllFormed g)
    told x e = subst (Sequence a b c d) (ap fault_in_lem e) x

    two : 0xc2 ≤ a → a < 0xe0 → Told (two_bytes a b)
    unfolding two_bytes within decode_head
    two h k =
        choose_keeps Told (is_tail b) (λ _ e. no_fault_char e)
        (λ t. told (second_shows a b c d _ (omega arith) (λ c' d'. as_two a h k b c' d' ∙ simp t) (0x80 ∷ []) _ (cut_second a b c d t) (as_two a h k 0x80 256 256)))

    three : 0xe0 ≤ a → a < 0xf0 → Told (three_bytes a b c)
    unfolding three_bytes within decode_head
    three h k =
        choose_keeps Told (within (least_second a) (greatest_second a) b)
        (λ s. choose_keeps Told (is_tail c) (λ _ e. no_fault_char e)
        (λ t. told (third_shows a b c d _ (omega (arith, tail_between a b s)) (λ d'. as_three a h k b c d' ∙ simp (s, t)) (0x80 ∷ []) (three_bits a b 0x80) (cut a b c d 2 (lit< tt) t) (as_three a h k b 0x80 256 ∙ simp s))))
        (λ s. told (second_shows a b c d _ (omega arith) (λ c' d'. as_three a h k b c' d' ∙ simp s) (least_second a ∷ 0x80 ∷ []) (three_bits a (least_second a) 0x80) (second a b c d s) (as_three a h k (least_second a) 0x80 256 ∙ simp (least_fits a))))

    four_bytes_lem : 0xf0 ≤ a → a < 0xf5 → Told (four_bytes a b c d)
    unfolding four_bytes within decode_head
    four_bytes_lem h k =
        choose_keeps Told (within (least_second a) (greatest_second a) b)
        (λ s. choose_keeps Told (is_tail c)
        (λ u. choose_keeps Told (is_tail d) (λ _ e. no_fault_char e)
        (λ t. told (fourth_shows a b c d _ (tail_byte c u) (as_four a h k b c d ∙ simp (s, u, t)) (0x80 ∷ []) (four_bits a b c 0x80) (cut a b c d 3 (lit< tt) t) (as_four a h k b c 0x80 ∙ simp (s, u)))))
        (λ t. told (third_shows a b c d _ (omega (arith, tail_between a b s)) (λ d'. as_four a h k b c d' ∙ simp (s, t)) (0x80 ∷ 0x80 ∷ []) (four_bits a b 0x80 0x80) (cut a b c d 2 (lit< tt) t) (as_four a h k b 0x80 0x80 ∙ simp s))))
        (λ s. told (second_shows a b c d _ (omega arith) (λ c' d'. as_four a h k b c' d' ∙ simp s) (least_second a ∷ 0x80 ∷ 0x80 ∷ []) (four_bits a (least_second a) 0x80 0x80) (second a b c d s) (as_four a h k (least_second a) 0x80 0x80 ∙ simp (least_fits a))))

    pub sequence : decode_four a b c d ≡ IllFormed f → Sequence a b c d f
    sequence e = go (dec_lt a 0x80) (dec_lt a 0xc2) (dec_lt a 0xe0) (dec_lt a 0xf0) (dec_lt a 0xf5) (dec_lt a 256)
      where
        go : Dec (a < 0x80) → Dec (a < 0xc2) → Dec (a < 0xe0) → Dec (a < 0xf0) → Dec (a < 0xf5) → Dec (a < 256) → Sequence a b c d f
        go (yes k) l m n o p = no_fault_char (sym (as_one a k b c d) ∙ e)
        go (no k) (yes l) m n o p = told (none (as_none a (omega arith) l) (tail_or_not a b c d (omega arith) l)) (sym (as_none a (omega arith) l b c d) ∙ e)
        go (no k) (no l) (yes m) n o p = two (omega arith) m (sym (as_two a (omega arith) m b c d) ∙ e)
        go (no k) (no l) (no m) (yes n) o p = three (omega arith) n (sym (as_three a (omega arith) n b c d) ∙ e)
        go (no k) (no l) (no m) (no n) (yes o) p = four_bytes_lem (omega arith) o (sym (as_four a (omega arith) o b c d) ∙ e)
        go (no k) (no l) (no m) (no n) (no o) (yes p) = told (none (as_high a (omega arith) p) (above a b c d (omega arith) p)) (sym (as_high a (omega arith) p b c d) ∙ e)
        go (no k) (no l) (no m) (no n) (no o) (no p) = no_fault_end (sym (as_end a (omega arith) b c d) ∙ e)
