-- Records written into a row: one after another, and what is read back.
-- Assumes nothing.
use Prim.Native.Nat.{ℕ, suc, ◌+◌, ◌*◌, ◌<◌, ◌≤◌}
use mathlib.Core.Path.{◌≡◌, refl, sym, ◌∙◌, ap}
use mathlib.Core.List.{List, [], ◌∷◌, ◌++◌, map}
use native.Mathlib.Omega.{arith}
use native.Mathlib.Nat.{add-zero}
use lib.ListN.{length, get_or, set, length-set}
use lib.Seq.{set-get_or, get_or-set_same, get_or-set_other}
use Rattle.token.specs.declared.Record.{Record}
use Rattle.lines.specs.Lines.{line_at}
use Rattle.records.specs.Records.{Spanned, spanned, rec, record_in, span_of, stride, room, rec_at, recs_in, set_rec, put1, puts}
use Rattle.records.proofs.Rooms.{length_rec}

-- a record with the line of its start is what is listed of the text
pub put_lined : (t : List ℕ) (start : ℕ) (row row' : List ℕ) (i k s e l : ℕ) → row' ≡ set_rec row i (rec k (start + s) (start + e) l) → l ≡ line_at t s → row' ≡ put1 t start row i (spanned k s e)
put_lined t start row row' i k s e l p q = p ∙ ap (λ (x : ℕ). set_rec row i (rec k (start + s) (start + e) x)) q

pub puts_append : (t : List ℕ) (start : ℕ) (xs ys : List Spanned) (row : List ℕ) (i : ℕ) → puts t start row i (xs ++ ys) ≡ puts t start (puts t start row i xs) (i + length xs) ys
unfolding puts
puts_append t start [] ys row i = rw add-zero
puts_append t start (x ∷ xs) ys row i =
    let e : i + 1 + length xs ≡ i + suc (length xs) = omega arith in
    rw (← e) (puts_append t start xs ys (put1 t start row i x) (i + 1))

-- a record that was written is read back
rec_read : (row : List ℕ) (i : ℕ) (r : Record) → i < room row → rec_at (set_rec row i r) i ≡ r
unfolding set_rec rec_at
rec_read row i r h =
    let A = set row (stride * i) r.kind in
    let B = set A (stride * i + 1) r.start in
    let C = set B (stride * i + 2) r.end in
    let D = set C (stride * i + 3) r.line in
    let la = length-set row (stride * i) r.kind in
    let lb = length-set A (stride * i + 1) r.start in
    let lc = length-set B (stride * i + 2) r.end in
    let k : get_or D (stride * i) 0 ≡ r.kind =
    get_or-set_other C (stride * i + 3) (stride * i) r.line 0 (omega arith) ∙ get_or-set_other B (stride * i + 2) (stride * i) r.end 0 (omega arith) ∙ get_or-set_other A (stride * i + 1) (stride * i) r.start 0 (omega arith) ∙ get_or-set_same row (stride * i) r.kind 0 (omega arith) in
    let s : get_or D (stride * i + 1) 0 ≡ r.start =
    get_or-set_other C (stride * i + 3) (stride * i + 1) r.line 0 (omega arith) ∙ get_or-set_other B (stride * i + 2) (stride * i + 1) r.end 0 (omega arith) ∙ get_or-set_same A (stride * i + 1) r.start 0 (omega arith) in
    let e : get_or D (stride * i + 2) 0 ≡ r.end =
    get_or-set_other C (stride * i + 3) (stride * i + 2) r.line 0 (omega arith) ∙ get_or-set_same B (stride * i + 2) r.end 0 (omega arith) in
    let l : get_or D (stride * i + 3) 0 ≡ r.line = get_or-set_same C (stride * i + 3) r.line 0 (omega arith) in
    rw (k, s, e, l)

-- and the others stay
rec_other : (row : List ℕ) (k : ℕ) (r : Record) (i : ℕ) → (i ≡ k → ⊥) → rec_at (set_rec row k r) i ≡ rec_at row i
unfolding set_rec rec_at
rec_other row k r i n = rw (same (stride * i) (omega arith), same (stride * i + 1) (omega arith), same (stride * i + 2) (omega arith), same (stride * i + 3) (omega arith))
  where
    same : (j : ℕ) → (j ≡ stride * k → ⊥) × (j ≡ stride * k + 1 → ⊥) × (j ≡ stride * k + 2 → ⊥) × (j ≡ stride * k + 3 → ⊥) → get_or (set_rec row k r) j 0 ≡ get_or row j 0
    same j h = let a = h.0 in let b = h.1 in let c = h.2 in let d = h.3 in simp get_or-set_other

-- what is already there, written again, changes nothing
rec_same : (row : List ℕ) (i : ℕ) → set_rec row i (rec_at row i) ≡ row
unfolding set_rec rec_at
rec_same row i = simp set-get_or

module _ (t : List ℕ) (start : ℕ) where
  -- records before those that are written stay
  pub puts_below : (xs : List Spanned) (row : List ℕ) (k i : ℕ) → i < k → rec_at (puts t start row k xs) i ≡ rec_at row i
  unfolding puts
  puts_below [] row k i h = refl
  puts_below (x ∷ xs) row k i h = puts_below xs (put1 t start row k x) (k + 1) i (omega arith) ∙ rec_other row k (record_in t start x) i (omega arith)

  -- and so do those behind them
  pub puts_above : (xs : List Spanned) (row : List ℕ) (k i : ℕ) → k + length xs ≤ i → rec_at (puts t start row k xs) i ≡ rec_at row i
  unfolding puts
  puts_above [] row k i h = refl
  puts_above (x ∷ xs) row k i h = puts_above xs (put1 t start row k x) (k + 1) i (omega arith) ∙ rec_other row k (record_in t start x) i (omega arith)

  -- what was written is what is read back
  pub recs_puts : (xs : List Spanned) (row : List ℕ) (i : ℕ) → i + length xs ≤ room row → recs_in (puts t start row i xs) i (length xs) ≡ map (record_in t start) xs
  unfolding recs_in puts
  recs_puts [] row i h = refl
  recs_puts (x ∷ xs) row i h =
      let r = record_in t start x in
      let y = put1 t start row i x in
      let f : rec_at (puts t start y (i + 1) xs) i ≡ r = puts_below xs y (i + 1) i (omega arith) ∙ rec_read row i r (omega arith) in
      ap (λ (q : Record). q ∷ recs_in (puts t start y (i + 1) xs) (i + 1) (length xs)) f ∙ ap (λ (l : List Record). r ∷ l) (recs_puts xs y (i + 1) (omega (arith, length_rec row i r)))

  -- written again it changes nothing
  pub puts_same : (xs : List Spanned) (row : List ℕ) (i : ℕ) → recs_in row i (length xs) ≡ map (record_in t start) xs → puts t start row i xs ≡ row
  unfolding puts recs_in
  puts_same [] row i e = refl
  puts_same (x ∷ xs) row i e =
      let f : put1 t start row i x ≡ row = ap (set_rec row i) (sym (head_is e)) ∙ rec_same row i in
      ap (λ (z : List ℕ). puts t start z (i + 1) xs) f ∙ puts_same xs row (i + 1) (tail_is e)
    where
      head_is : {x y : Record} {xs ys : List Record} → x ∷ xs ≡ y ∷ ys → x ≡ y
      head_is e = cc

      tail_is : {x y : Record} {xs ys : List Record} → x ∷ xs ≡ y ∷ ys → xs ≡ ys
      tail_is e = cc

-- at start 0, what they say but for their lines is what was written
pub spans_recorded : (t : List ℕ) (xs : List Spanned) → map span_of (map (record_in t 0) xs) ≡ xs
spans_recorded t [] = refl
spans_recorded t (x ∷ xs) =
    let s : 0 + x.start ≡ x.start = omega arith in
    let e : 0 + x.end ≡ x.end = omega arith in
    let h : spanned x.kind (0 + x.start) (0 + x.end) ≡ x = rw (s, e) in
    ap (λ (y : Spanned). y ∷ map span_of (map (record_in t 0) xs)) h ∙ ap (λ (l : List Spanned). x ∷ l) (spans_recorded t xs)
