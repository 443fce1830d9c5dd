-- Blocks of bytes: what their loops compute, and that whole characters are passed: a run of bytes below 0x80 is a run of characters, and
-- in a run of bytes that stand as they may, characters go up to each byte that begins one.
-- Assumes nothing.
use Prim.Native.Nat.{ℕ, zero, suc, ◌+◌, ◌-◌, ◌<◌, ◌≤◌}
use mathlib.Core.Path.{◌≡◌, refl, sym, ◌∙◌, ap, subst}
use mathlib.Core.List.{List, [], ◌∷◌}
use mathlib.Core.Bool.{Bool, true, false, ◌&&◌}
use native.Mathlib.Omega.{arith}
use native.Mathlib.Numerals.{add-one}
use native.Mathlib.Nat.{add-zero, add-suc}
use native.Mathlib.Decide.{dec_lt}
use borrow.Author.Tests.{lt-ltb, le-ltb, ltb-true, leb-false}
use lib.Bits.{bit_or, or_lt, or_add_and, and_le_l, and_le_r}
use lib.Dec.{ltb, leb}
use lib.ListN.{length, get_or, take, drop, length-drop}
use Rattle.std.specs.List.{fold}
use Rattle.std.proofs.lemmas.List.{get_or-drop}
use Rattle.std.proofs.lemmas.List.Sums.{fold-append}
use Rattle.std.proofs.Math.Seq.{take-suc}
use Rattle.choice.specs.Choice.{either}
use Rattle.choice.proofs.Laws.{either_left, either_right}
use Rattle.utf8.specs.declared.Fault.{Fault}
use Rattle.utf8.specs.declared.Decoded.TheVariants.{Char, IllFormed, End}
use Rattle.utf8.specs.Utf8.{decode_at}
use Rattle.utf8.specs.Chars.{well_formed, fault_at, checked_at, checked}
use Rattle.utf8.specs.Promises.{Passed, low_run, is_owed, may_follow, fine_run, InOrder, owed_at, LastLead}
use Rattle.utf8.proofs.Bytes.{lead_one}
use Rattle.utf8.proofs.Laws.{at_char_all, bad_at, end_at}
use Rattle.utf8.proofs.Walk.{and_left, and_right, bad, char_same, walk}

-- ---- the loops
or_low : (a b : ℕ) → ltb (bit_or a b) 0x80 ≡ ltb a 0x80 && ltb b 0x80
or_low a b = go (dec_lt a 0x80) (dec_lt b 0x80)
  where
    go : Dec (a < 0x80) → Dec (b < 0x80) → ltb (bit_or a b) 0x80 ≡ ltb a 0x80 && ltb b 0x80
    go (yes h) (yes k) = simp (lt-ltb (bit_or a b) 0x80 (or_lt 7 a b h k), lt-ltb a 0x80 h, lt-ltb b 0x80 k)
    go (no h) k = simp (le-ltb (bit_or a b) 0x80 (omega (arith, or_add_and a b, and_le_r a b)), le-ltb a 0x80 (omega arith))
    go (yes h) (no k) = simp (le-ltb (bit_or a b) 0x80 (omega (arith, or_add_and a b, and_le_l a b)), lt-ltb a 0x80 h, le-ltb b 0x80 (omega arith))

-- the k bytes from the place i, or'ed together
pub low_fold : (t : List ℕ) (i k : ℕ) → i + k ≤ length t → low_run t i k ≡ ltb (fold bit_or 0 (take k (drop i t))) 0x80
unfolding low_run
low_fold t i zero h = refl
low_fold t i (suc k) h =
    let f : fold bit_or 0 (take (suc k) (drop i t)) ≡ bit_or (fold bit_or 0 (take k (drop i t))) (get_or t (i + k) 0) =
    ap (fold bit_or 0) (take-suc (drop i t) k 0 (omega (arith, length-drop i t)))
    ∙ fold-append bit_or 0 (take k (drop i t)) (get_or (drop i t) k 0 ∷ [])
    ∙ ap (bit_or (fold bit_or 0 (take k (drop i t)))) (get_or-drop i t k 0)
    in
    ap (λ (x : Bool). x && ltb (get_or t (i + k) 0) 0x80) (low_fold t i k (omega arith)) ∙ sym (or_low (fold bit_or 0 (take k (drop i t))) (get_or t (i + k) 0)) ∙ ap (λ n. ltb n 0x80) (sym f)

-- one more byte that may stand behind the three before it
pub fine_more : (t : List ℕ) (i k : ℕ) (p q : Bool) → fine_run t i k ≡ p
    → may_follow (get_or t (i + k) 0) (get_or t (i + k + 1) 0) (get_or t (i + k + 2) 0) (get_or t (i + k + 3) 0) ≡ q
    → fine_run t i (k + 1) ≡ p && q
unfolding fine_run
fine_more t i k p q e f = rw add-one (cc)

-- ---- a run of bytes below 0x80
low_same : (t : List ℕ) (i k : ℕ) → low_run t i k ≡ true → i + k ≤ length t → bad t (i + k) ≡ bad t i
unfolding low_run
low_same t i zero e h = ap (bad t) (add-zero i)
low_same t i (suc k) e h =
    let b = ltb-true (get_or t (i + k) 0) 0x80 (and_right (low_run t i k) _ e) in
    char_same t (i + k) _ 1 (i + suc k) (sym (lead_one t (i + k) (omega arith) b)) (omega arith) ∙ low_same t i k (and_left (low_run t i k) _ e) (omega arith)

-- ---- from block to block
pub fine_none : (t : List ℕ) (i : ℕ) → i + 3 ≤ length t → InOrder t i 0
unfolding fine_run
fine_none t i h = record { fits = omega arith; fine = refl }

fine_append : (t : List ℕ) (i k m : ℕ) → fine_run t i k ≡ true → fine_run t (i + k) m ≡ true → fine_run t i (k + m) ≡ true
unfolding fine_run
fine_append t i k zero e f = rw add-zero e
fine_append t i k (suc m) e f =
    let g = fine_append t i k m e (and_left (fine_run t (i + k) m) _ f) in
    let h : i + (k + m) ≡ i + k + m = omega arith in
    rw (add-suc, fine_run, g, h) (and_right (fine_run t (i + k) m) _ f)

pub fine_on : (t : List ℕ) (i k : ℕ) (q : Bool) → InOrder t i k → fine_run t (i + k) 64 ≡ q → q ≡ true → i + k + 67 ≤ length t → InOrder t i (k + 64)
fine_on t i k q r e f h = record { fits = omega arith; fine = fine_append t i k 64 r.fine (e ∙ f) }

-- ---- what `block_end` has passed
pub none_passed : (t : List ℕ) (i : ℕ) → i ≤ length t → Passed t i i
none_passed t i h = record { on = omega arith; fits = h; same = refl }

pub low_passed : (t : List ℕ) (i : ℕ) (p : Bool) → low_run t i 64 ≡ p → p ≡ true → i + 64 ≤ length t → Passed t i (i + 64)
low_passed t i p e f h = record { on = omega arith; fits = h; same = low_same t i 64 (e ∙ f) h }

clean_start : (a b c : ℕ) → is_owed a b c ≡ false → (a < 0xf0) × (b < 0xe0) × (c < 0xc0)
unfolding is_owed
clean_start a b c e = (leb-false 0xf0 a (either_right (leb 0xe0 b) (leb 0xf0 a) f), leb-false 0xe0 b (either_left (leb 0xe0 b) (leb 0xf0 a) f), leb-false 0xc0 c (either_left (leb 0xc0 c) _ e))
  where
    f : either (leb 0xe0 b) (leb 0xf0 a) ≡ false
    f = either_right (leb 0xc0 c) _ e

pub fine_passed : (t : List ℕ) (i n r : ℕ) (p : Bool) → LastLead t i (i + n) r → InOrder t (i - 3) n → owed_at t i ≡ p → p ≡ false → 3 ≤ i → i ≤ length t → Passed t i r
fine_passed t i n r p b run ho eo l m = go (dec_lt i r)
  where
    go : Dec (i < r) → Passed t i r
    go (no h) = let e : i ≡ r = omega arith in subst (Passed t i) e (none_passed t i m)
    go (yes h) =
        let s = b.lead h in
        let x : suc (i - 3) ≡ i - 2 = omega arith in
        let y : suc (suc (i - 3)) ≡ i - 1 = omega arith in
        let z : suc (suc (suc (i - 3))) ≡ i = omega arith in
        let k = clean_start _ _ _ (ho ∙ eo) in
        let u : get_or t (suc (i - 3)) 0 < 0xe0 = subst (λ (v : ℕ). get_or t v 0 < 0xe0) (sym x) k.1 in
        let v : get_or t (suc (suc (i - 3))) 0 < 0xc0 = subst (λ (v : ℕ). get_or t v 0 < 0xc0) (sym y) k.2 in
        let w = walk t (i - 3) n run r s.1 (omega arith) r (i - 3) (omega arith) (omega arith) (omega arith) (k.0, u, v) in
        record { on = b.on; fits = omega (arith, run.fits); same = w ∙ ap (bad t) z }

pub passed_char : (t : List ℕ) (i j c w : ℕ) → Passed t 0 i → Passed t i j → decode_at t j ≡ Char c w → (Passed t 0 (j + w)) × (i < j + w)
passed_char t i j c w p q e =
    let a = at_char_all t j c w e in
    (record { on = omega arith; fits = a.fits; same = sym a.bad ∙ q.same ∙ p.same }, omega arith)

-- where it stops
pub passed_bad : (t : List ℕ) (i j : ℕ) (f : Fault) → Passed t 0 i → Passed t i j → decode_at t j ≡ IllFormed f → fault_at j f ≡ checked t
unfolding checked checked_at
passed_bad t i j f p q e = sym (ap (checked_at j) e) ∙ ap (λ n. checked_at n (decode_at t n)) (sym (bad_at t j f e) ∙ q.same ∙ p.same)

pub passed_end : (t : List ℕ) (i j : ℕ) → Passed t 0 i → Passed t i j → decode_at t j ≡ End → well_formed ≡ checked t
unfolding checked checked_at
passed_end t i j p q e = sym (ap (checked_at j) e) ∙ ap (λ n. checked_at n (decode_at t n)) (sym (end_at t j e) ∙ q.same ∙ p.same)
