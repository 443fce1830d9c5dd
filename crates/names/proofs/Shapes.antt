-- The keywords are two to eight characters of ASCII, so a name of any other shape is none, and a name of that shape is told
-- from them by its number.
-- Assumes nothing.
use Prim.Native.Nat.{ℕ, zero, suc, ◌-◌, ◌<◌, ◌≤◌}
use Prim.Native.String.{String}
use mathlib.Core.Path.{◌≡◌, refl, sym, ◌∙◌, ap, ap₂}
use mathlib.Core.List.{List, [], ◌∷◌, ◌++◌, map}
use mathlib.Core.Bool.{Bool, true, false}
use native.Mathlib.Omega.{arith}
use borrow.Author.Tests.{eq-eqb, ne_eqb, eqb-true, ltb-true, lt-leb, le-ltb}
use lib.Dec.{eqb, ltb, leb}
use lib.ListN.{length, get_or}
use Rattle.choice.specs.Choice.{choose, both}
use Rattle.choice.proofs.Laws.{choose_keeps, both_left, both_right, both_none, true_is_not_false}
use Rattle.utf8.specs.Chars.{letters}
use Rattle.token.specs.Kinds as K
use Rattle.names.specs.Names.{keywords, soft_keywords, alike, spells, number_in, kind_of_name}
use Rattle.names.specs.Promises.{packed}
use Rattle.names.proofs.Packing.{Bytes}

-- ---- two names that are alike are one
pub alike_same : (l m : List ℕ) → alike l m ≡ true → l ≡ m
alike_same [] [] e = refl
alike_same [] (y ∷ m) e = cc
alike_same (x ∷ l) [] e = cc
alike_same (x ∷ l) (y ∷ m) e = ap₂ ◌∷◌ (eqb-true x y (both_left _ (alike l m) e)) (alike_same l m (both_right (eqb x y) _ e))

pub alike_self : (l : List ℕ) → alike l l ≡ true
alike_self [] = refl
alike_self (x ∷ l) = rw (eq-eqb x x refl) (alike_self l)

-- ---- the shape of a keyword: two to eight characters below 0x80, the last of them not 0
abbrev low : List ℕ → Bool
low [] = true
low (x ∷ l) = both (ltb x 0x80) (low l)

abbrev last : List ℕ → ℕ
last [] = 1
last (x ∷ []) = x
last (x ∷ (y ∷ l)) = last (y ∷ l)

abbrev shape : List ℕ → Bool
shape w = both (leb 2 (length w)) (both (leb (length w) 8) (both (ltb 0 (last w)) (low w)))

abbrev every : (List ℕ → Bool) → List String → Bool
every f [] = true
every f (t ∷ ts) = both (f (letters t)) (every f ts)

-- every keyword has it
shapes : every shape keywords ≡ true
unfolding keywords
shapes = refl

soft_shapes : every shape soft_keywords ≡ true
unfolding soft_keywords
soft_shapes = refl

-- a name without it is not among keywords that have it
none_in : (w : List ℕ) → shape w ≡ false → (ts : List String) → every shape ts ≡ true → (k other : ℕ) → number_in (spells w) ts k other ≡ other
unfolding number_in
none_in w n [] a k other = refl
none_in w n (t ∷ ts) a k other =
    choose_keeps (λ x. x ≡ other) (spells w t)
    (λ e. absurd (true_is_not_false (sym (ap shape (alike_same w (letters t) e) ∙ both_left _ _ a) ∙ n)))
    (λ e. none_in w n ts (both_right (shape (letters t)) _ a) (suc k) other)

-- a name of another shape is no keyword
no_keyword : (w : List ℕ) → shape w ≡ false → K.name ≡ kind_of_name w
unfolding kind_of_name
no_keyword w n = sym (none_in w n keywords shapes K.first_keyword _ ∙ none_in w n soft_keywords soft_shapes K.first_soft K.name)

-- a name of fewer than two characters, of more than eight, or that ends in 0
pub kind_short : (w : List ℕ) → length w < 2 → K.name ≡ kind_of_name w
kind_short w h = no_keyword w (simp (lt-leb 2 (length w) h))

pub kind_long : (w : List ℕ) → 8 < length w → K.name ≡ kind_of_name w
kind_long w h = no_keyword w (simp (lt-leb (length w) 8 h, both_none))

last_at : (l : List ℕ) (n : ℕ) → length l ≡ suc n → last l ≡ get_or l n 0
last_at [] n e = absurd (omega arith)
last_at (x ∷ []) zero e = refl
last_at (x ∷ []) (suc n) e = absurd (omega arith)
last_at (x ∷ (y ∷ l)) zero e = absurd (omega arith)
last_at (x ∷ (y ∷ l)) (suc n) e = last_at (y ∷ l) n (omega arith)

module _ (w : List ℕ) (h : 2 ≤ length w) where
  last_is : last w ≡ get_or w (length w - 1) 0
  last_is = last_at w (length w - 1) (omega arith)

  pub kind_zero : get_or w (length w - 1) 0 ≡ 0 → K.name ≡ kind_of_name w
  kind_zero e = no_keyword w (simp (last_is ∙ e, both_none))

low_none : (u v : List ℕ) (c : ℕ) → 0x80 ≤ c → low (u ++ (c ∷ v)) ≡ false
low_none [] v c h = simp (le-ltb c 0x80 h)
low_none (x ∷ u) v c h = simp (low_none u v c h, both_none)

-- a name with a character from 0x80 up is no keyword
pub kind_high : (u v : List ℕ) (c : ℕ) → 0x80 ≤ c → K.name ≡ kind_of_name (u ++ (c ∷ v))
kind_high u v c h = no_keyword _ (simp (low_none u v c h, both_none))

-- ---- names of bytes that do not end in 0 are told apart by their numbers
-- what the rest of a name keeps of it
last_tail : (x : ℕ) (l : List ℕ) → 0 < last (x ∷ l) → 0 < last l
last_tail x [] h = omega arith
last_tail x (y ∷ l) h = h

low_bytes : (l : List ℕ) → low l ≡ true → Bytes l
low_bytes [] e j = omega arith
low_bytes (x ∷ l) e zero = omega (arith, ltb-true x 0x80 (both_left _ (low l) e))
low_bytes (x ∷ l) e (suc j) = low_bytes l (both_right (ltb x 0x80) _ e) j

-- such a name has a number above 0
positive : (x : ℕ) (l : List ℕ) → 0 < last (x ∷ l) → 0 < packed (x ∷ l)
unfolding packed
positive x [] h = omega arith
positive x (y ∷ l) h = omega (arith, positive y l h)

-- THE LAW: such names with one number are one
packed_same : (l m : List ℕ) → Bytes l → 0 < last l → Bytes m → 0 < last m → packed l ≡ packed m → l ≡ m
unfolding packed
packed_same [] [] b h c k e = refl
packed_same [] (y ∷ m) b h c k e = absurd (omega (arith, positive y m k))
packed_same (x ∷ l) [] b h c k e = absurd (omega (arith, positive x l h))
packed_same (x ∷ l) (y ∷ m) b h c k e =
    let bx = b 0 in
    let cy = c 0 in
    ap₂ ◌∷◌ (omega arith) (packed_same l m (λ j. b (suc j)) (last_tail x l h) (λ j. c (suc j)) (last_tail y m k) (omega arith))

module _ (w : List ℕ) (b : Bytes w) (h : 0 < last w) where
  -- to have a keyword's number is to spell it
  spells_packed : (t : String) → shape (letters t) ≡ true → eqb (packed w) (packed (letters t)) ≡ spells w t
  spells_packed t e = go (spells w t) refl
    where
      m : List ℕ
      m = letters t

      rest : both (ltb 0 (last m)) (low m) ≡ true
      rest = both_right (leb (length m) 8) _ (both_right (leb 2 (length m)) _ e)

      go : (x : Bool) → spells w t ≡ x → eqb (packed w) (packed (letters t)) ≡ x
      go true p = eq-eqb _ _ (ap packed (alike_same w m p))
      go false p = ne_eqb _ _ (λ q. true_is_not_false (sym (ap (alike w) (sym (packed_same w m b h (low_bytes m (both_right (ltb 0 (last m)) _ rest)) (ltb-true 0 (last m) (both_left _ (low m) rest)) q)) ∙ alike_self w) ∙ p))

  -- so a walk over the keywords' numbers finds the keyword
  number_packed : (ts : List String) → every shape ts ≡ true → (k other : ℕ) → number_in (eqb (packed w)) (map (λ t. packed (letters t)) ts) k other ≡ number_in (spells w) ts k other
  unfolding number_in
  number_packed [] a k other = refl
  number_packed (t ∷ ts) a k other =
      ap₂ (λ x r. choose x (λ _. k) (λ _. r)) (spells_packed t (both_left _ _ a)) (number_packed ts (both_right (shape (letters t)) _ a) (suc k) other)

-- the kind of a name by its number
pub kind_packed : (w : List ℕ) (n soft v : ℕ) (table few : List ℕ) → n ≡ number_in (eqb v) table K.first_keyword soft → soft ≡ number_in (eqb v) few K.first_soft K.name → v ≡ packed w
    → table ≡ map (λ t. packed (letters t)) keywords → few ≡ map (λ t. packed (letters t)) soft_keywords
    → Bytes w → 2 ≤ length w → (get_or w (length w - 1) 0 ≡ 0 → ⊥) → n ≡ kind_of_name w
unfolding kind_of_name
kind_packed w n soft v table few p q e f g b h z =
    let l : 0 < last w = let d = last_is w h in omega arith in
    p ∙ rw (f, q, g, e) (ap (number_in (eqb (packed w)) _ K.first_keyword) (number_packed w b l soft_keywords soft_shapes K.first_soft K.name) ∙ number_packed w b l keywords shapes K.first_keyword _)
