-- The row of a list: its records, a record stored, and that it tells the list.
-- Assumes nothing.
use Prim.Native.Nat.{ℕ, zero, suc, ◌+◌, ◌*◌, ◌≤◌}
use mathlib.Core.Path.{◌≡◌, refl, ◌∙◌, ap, ap₂}
use mathlib.Core.List.{List, [], ◌∷◌, ◌++◌}
use native.Mathlib.Omega.{arith}
use lib.ListN.{length, get_or, set, drop, take}
use lib.Seq.{drop-cons}
use native.Mathlib.Numerals.{add-one}
use Rattle.token.specs.declared.Record.{Record}
use Rattle.records.specs.Records.{rec, record_numbers, stride, rec_at, recs_in, set_rec, flat}
use Rattle.records.specs.Promises.{blank}

-- records with the same numbers
same : {k k' s s' e e' l l' : ℕ} → k ≡ k' → s ≡ s' → e ≡ e' → l ≡ l' → rec k s e l ≡ rec k' s' e' l'
same p q r o = cc

-- behind one record
past : (r : Record) (l : List ℕ) (i j : ℕ) → j ≡ stride + i → get_or (record_numbers r ++ l) j 0 ≡ get_or l i 0
past r l i j e = let z : j ≡ suc (suc (suc (suc i))) = omega arith in rw z

past_set : (r q : Record) (l : List ℕ) (a b c d a' b' c' d' : ℕ) → a' ≡ stride + a → b' ≡ stride + b → c' ≡ stride + c → d' ≡ stride + d
    → record_numbers q ++ set (set (set (set l a r.kind) b r.start) c r.end) d r.line ≡ set (set (set (set (record_numbers q ++ l) a' r.kind) b' r.start) c' r.end) d' r.line
past_set r q l a b c d a' b' c' d' e f g h =
    let w : a' ≡ suc (suc (suc (suc a))) = omega arith in
    let x : b' ≡ suc (suc (suc (suc b))) = omega arith in
    let y : c' ≡ suc (suc (suc (suc c))) = omega arith in
    let z : d' ≡ suc (suc (suc (suc d))) = omega arith in
    rw (w, x, y, z)

-- the record at an index: zeros past the end of either
pub flat_rec : (l : List Record) (i : ℕ) → rec_at (flat l) i ≡ get_or l i blank
unfolding flat rec_at
flat_rec [] i = refl
flat_rec (r ∷ rs) zero = refl
flat_rec (r ∷ rs) (suc i) =
    let at : (n m : ℕ) → m ≡ stride + n → get_or (record_numbers r ++ flat rs) m 0 ≡ get_or (flat rs) n 0 = past r (flat rs) in
    same (at (stride * i) (stride * suc i) (omega arith)) (at (stride * i + 1) (stride * suc i + 1) (omega arith))
    (at (stride * i + 2) (stride * suc i + 2) (omega arith)) (at (stride * i + 3) (stride * suc i + 3) (omega arith)) ∙ flat_rec rs i

-- the first records, from any index
flat_from : (l : List Record) (n i : ℕ) → i + n ≤ length l → recs_in (flat l) i n ≡ take n (drop i l)
unfolding recs_in
flat_from l zero i h = refl
flat_from l (suc n) i h = rw (drop-cons l i blank (omega arith), ← add-one i, flat_rec l i) (ap (λ (rs : List Record). get_or l i blank ∷ rs) (flat_from l n (i + 1) (omega arith)))

-- from the list's start on
pub flat_recs : (l : List Record) (n : ℕ) → n ≤ length l → recs_in (flat l) 0 n ≡ take n l
flat_recs l n h = flat_from l n 0 (omega arith)

-- a record stored
pub flat_set : (l : List Record) (i : ℕ) (r : Record) → flat (set l i r) ≡ set_rec (flat l) i r
unfolding flat set_rec
flat_set [] i r = refl
flat_set (q ∷ rs) zero r = refl
flat_set (q ∷ rs) (suc i) r =
    ap (λ (t : List ℕ). record_numbers q ++ t) (flat_set rs i r)
    ∙ past_set r q (flat rs) (stride * i) (stride * i + 1) (stride * i + 2) (stride * i + 3) (stride * suc i) (stride * suc i + 1) (stride * suc i + 2) (stride * suc i + 3) (omega arith) (omega arith) (omega arith) (omega arith)

head_is : {x y : ℕ} {xs ys : List ℕ} → x ∷ xs ≡ y ∷ ys → x ≡ y
head_is e = ap (λ (l : List ℕ). get_or l 0 0) e

tail_is : {x y : ℕ} {xs ys : List ℕ} → x ∷ xs ≡ y ∷ ys → xs ≡ ys
tail_is e = ap (λ (l : List ℕ). drop 1 l) e

-- lists with one row are one list
pub flat_tells : (l m : List Record) → flat l ≡ flat m → l ≡ m
unfolding flat
flat_tells [] [] e = refl
flat_tells [] (r ∷ rs) e = absurd (let z : 0 ≡ suc (suc (suc (suc (length (flat rs))))) = ap length e in omega arith)
flat_tells (r ∷ rs) [] e = absurd (let z : suc (suc (suc (suc (length (flat rs))))) ≡ 0 = ap length e in omega arith)
flat_tells (r ∷ rs) (q ∷ qs) e =
    let f = tail_is e in
    let g = tail_is f in
    let h = tail_is g in
    ap₂ (λ (x : Record) (xs : List Record). x ∷ xs)
    (same {k = r.kind} {k' = q.kind} {s = r.start} {s' = q.start} {e = r.end} {e' = q.end} {l = r.line} {l' = q.line} (head_is e) (head_is f) (head_is g) (head_is h))
    (flat_tells rs qs (tail_is h))
