-- Parts of a list of ranges: those that meet a stretch of characters are enough for each character of the stretch, and keep the order.
-- Assumes nothing.
use mathlib.Core.Bool.{Bool, true, false}
use mathlib.Core.List.{List, [], ◌∷◌}
use mathlib.Core.Logic.{◌⊎◌, inl, inr, ⊎_elim}
use mathlib.Core.Path.{◌≡◌, refl, sym, ◌∙◌, ap, subst}
use Prim.Native.Nat.{ℕ, suc, ◌≤◌, ◌<◌}
use native.Mathlib.Omega.{arith}
use lib.Dec.{leb, ltb}
use lib.ListN.{length}
use borrow.Author.Tests.{le-leb, leb-false, ltb-false}
use Rattle.choice.specs.Choice.{choose, both}
use Rattle.choice.proofs.Laws.{choose_keeps}
use Rattle.classes.specs.Ranges.{in_ranges}
use Rattle.classes.specs.Promises.{ordered, flat, Part}
use Rattle.classes.proofs.Ranges.{not_whole, begins, ends, others, ends_below, begins_above}

-- the ranges that a test lets through
unfoldable pub keep : (ℕ → ℕ → Bool) → List ℕ → List ℕ
keep f [] = []
keep f (low ∷ []) = []
keep f (low ∷ high ∷ rest) = choose (f low high) (λ _. low ∷ high ∷ keep f rest) (λ _. keep f rest)

-- a range that meets the stretch from a to b, b not within
unfoldable pub meets : ℕ → ℕ → ℕ → ℕ → Bool
meets a b low high = both (leb a high) (ltb low b)

-- the ranges that meet the stretch
abbrev pub between : ℕ → ℕ → List ℕ → List ℕ
between a b t = keep (meets a b) t

-- a later start is an earlier one too
ordered_from : (from more : ℕ) (t : List ℕ) → from ≤ more → ordered more t ≡ true → ordered from t ≡ true
unfolding ordered
ordered_from from more [] h o = refl
ordered_from from more (low ∷ []) h o = o
ordered_from from more (low ∷ high ∷ rest) h o =
    let a = begins more low high rest o in
    rw (le-leb from low (omega arith), le-leb low high (ends more low high rest o)) (others more low high rest o)

-- what is kept is in order
keep_ordered : (f : ℕ → ℕ → Bool) (from : ℕ) (t : List ℕ) → ordered from t ≡ true → ordered from (keep f t) ≡ true
unfolding keep ordered
keep_ordered f from [] o = refl
keep_ordered f from (low ∷ []) o = absurd (not_whole from low o)
keep_ordered f from (low ∷ high ∷ rest) o =
    let a = begins from low high rest o in
    let b = ends from low high rest o in
    let later = keep_ordered f (suc high) rest (others from low high rest o) in
    choose_keeps (λ (s : List ℕ). ordered from s ≡ true) (f low high)
    (λ _. rw (le-leb from low a, le-leb low high b) later)
    (λ _. ordered_from from (suc high) (keep f rest) (omega arith) later)

-- what is not kept did not hold c
keep_same : (f : ℕ → ℕ → Bool) (c : ℕ) → ((low high : ℕ) → f low high ≡ false → both (leb low c) (leb c high) ≡ false) → (t : List ℕ) →
    in_ranges t c ≡ in_ranges (keep f t) c
unfolding keep in_ranges
keep_same f c out [] = refl
keep_same f c out (low ∷ []) = refl
keep_same f c out (low ∷ high ∷ rest) =
    choose_keeps (λ (s : List ℕ). in_ranges (low ∷ high ∷ rest) c ≡ in_ranges s c) (f low high)
    (λ _. rw (keep_same f c out rest))
    (λ e. rw (out low high e) (keep_same f c out rest))

-- of two joined tests that fail, one fails
one_false : (x y : Bool) → both x y ≡ false → (x ≡ false) ⊎ (y ≡ false)
one_false true y e = inr e
one_false false y e = inl refl

-- a range that does not meet the stretch from a to b holds no character of it
outside : (a b c low high : ℕ) → a ≤ c → c < b → meets a b low high ≡ false → both (leb low c) (leb c high) ≡ false
unfolding meets
outside a b c low high h l e =
    ⊎_elim
    (λ f. let s = leb-false a high f in ends_below low high c (omega arith))
    (λ f. let s = ltb-false low b f in begins_above low high c (omega arith))
    (one_false (leb a high) (ltb low b) e)

-- for a character of a stretch, the ranges that meet the stretch are enough
pub same_between : (a b : ℕ) (t : List ℕ) (c : ℕ) → a ≤ c → c < b → in_ranges t c ≡ in_ranges (between a b t) c
same_between a b t c h l = keep_same (meets a b) c (λ low high. outside a b c low high h l) t

-- ranges as the code has them
unfoldable pub paired : List ℕ → List (ℕ × ℕ)
paired [] = []
paired (low ∷ []) = []
paired (low ∷ high ∷ rest) = (low, high) ∷ paired rest

-- the same list, where it is in order
flat_paired : (from : ℕ) (t : List ℕ) → ordered from t ≡ true → flat (paired t) ≡ t
unfolding flat paired
flat_paired from [] o = refl
flat_paired from (low ∷ []) o = absurd (not_whole from low o)
flat_paired from (low ∷ high ∷ rest) o = ap (λ (l : List ℕ). low ∷ high ∷ l) (flat_paired (suc high) rest (others from low high rest o))

-- they are a part of the table, if there are 32 of them
pub in_part : {t : List ℕ} → ordered 0 t ≡ true → (a b : ℕ) → 32 ≡ length (paired (between a b t)) → {c : ℕ} → a ≤ c → c < b → Part t (paired (between a b t)) c
in_part {t} o a b n {c} h l =
    let k = keep_ordered (meets a b) 0 t o in
    let e = sym (flat_paired 0 (between a b t) k) in
    record { size = n; in_order = subst (λ (s : List ℕ). ordered 0 s ≡ true) e k; same = same_between a b t c h l ∙ ap (λ (s : List ℕ). in_ranges s c) e }

-- from a on there is nothing, where no range ends there
pub none_from : (a : ℕ) (t : List ℕ) → keep (λ low high. leb a high) t ≡ [] → (c : ℕ) → a ≤ c → in_ranges t c ≡ false
unfolding in_ranges
none_from a t e c h =
    keep_same (λ low high. leb a high) c (λ low high f. let s = leb-false a high f in ends_below low high c (omega arith)) t ∙ rw e
