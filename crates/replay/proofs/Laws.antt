-- The numbers of a frame, the walk over a row, and what a frame's question comes to.
-- Assumes nothing.
use Prim.Native.Nat.{ℕ, ◌+◌, ◌-◌, ◌*◌, ◌/◌, ◌<◌, ◌≤◌, min}
use mathlib.Core.Path.{◌≡◌, refl, sym, ◌∙◌, ap}
use mathlib.Core.Logic.{inl, inr, ⊎_elim}
use mathlib.Core.List.{List, ◌∷◌, ◌++◌}
use Rattle.std.specs.List.{slice_range}
use mathlib.Core.Bool.{Bool, true, false}
use native.Mathlib.Omega.{arith}
use native.Mathlib.Numerals.{add-one}
use Rattle.std.proofs.Common.{add-zero}
use borrow.Author.Tests.{lt-ltb, le-ltb, eq-eqb, ne_eqb}
use lib.ListN.{length, get_or, drop, take}
use Rattle.std.proofs.lemmas.List.{take_all, length-drop, get_or-drop}
use lib.Seq.{drop-cons, length_front, length-take-le, take_at}
use Rattle.utf8.proofs.Laws.{past}
use Rattle.answers.specs.declared.Answer.{Answer}
use Rattle.reading.specs.Answers.{read_answer, read_row}
use Rattle.replay.specs.declared.Outcome.{Outcome}
use Rattle.replay.specs.declared.Outcome.TheVariants.{Same, Different}
use Rattle.replay.specs.Promises.{word, record_bytes, number_at, due_at, due_from, is_held, agreed, fresh, framed, verdict, answer_in, is_same, Asked, Framed}

-- ---- the number at a place
module _ (b : List ℕ) (at : ℕ) where
  pub number_none : length b < at + 4 → 0 ≡ number_at b at
  unfolding number_at
  number_none h = simp (lt-ltb (length b) (at + 4) h)

  -- the library reads the four bytes at the beginning of the rest
  pub number_some : (rest : List ℕ) (r : ℕ) → rest ≡ slice_range b at (length b) → length rest + at ≡ length b → 4 ≤ length rest
      → r ≡ get_or rest 0 0 + get_or rest 1 0 * 256 + get_or rest 2 0 * 65536 + get_or rest 3 0 * 16777216 → r ≡ number_at b at
  unfolding number_at
  number_some rest r e l h k =
      let f : rest ≡ drop at b = e ∙ take_all (length b - at) (drop at b) (omega (arith, length-drop at b)) in
      let p : (i : ℕ) → get_or rest i 0 ≡ get_or b (at + i) 0 = λ i. ap (λ l. get_or l i 0) f ∙ get_or-drop at b i 0 in
      let p0 : get_or rest 0 0 ≡ get_or b at 0 = p 0 ∙ ap (λ k. get_or b k 0) (add-zero at) in let p1 = p 1 in let p2 = p 2 in let p3 = p 3 in
      let z : r ≡ word (get_or b at 0) (get_or b (at + 1) 0) (get_or b (at + 2) 0) (get_or b (at + 3) 0) = omega arith in
      z ∙ simp (le-ltb (length b) (at + 4) (omega arith))

-- ---- the walk over a row: what is left to compare decides the whole
module _ (records row : List ℕ) where
  -- a row that is too short, and any other before its first number
  pub held_short : length row < length records / 4 → is_held records row ≡ false
  unfolding is_held
  held_short h = simp (lt-ltb (length row) (length records / 4) h)

  pub held_first : length records / 4 ≤ length row → due_from records 0 (drop 0 row) ≡ is_held records row
  unfolding is_held
  held_first h = simp (le-ltb (length row) (length records / 4) h)

  module _ (i : ℕ) (q : Bool) (w : due_from records i (drop i row) ≡ q) where
    -- all numbers are compared
    pub due_over : length row ≤ i → q ≡ true
    unfolding due_from
    due_over h = sym w ∙ rw (past i row h)

    -- the number at i is as it must be, or is not
    module _ (n : ℕ) (e : n ≡ due_at records i) (h : i < length row) where
      first : drop i row ≡ get_or row i 0 ∷ drop (i + 1) row
      first = drop-cons row i 0 h ∙ ap (λ k. get_or row i 0 ∷ drop k row) (sym (add-one i))

      pub due_more : get_or row i 0 ≡ n → due_from records (i + 1) (drop (i + 1) row) ≡ q
      unfolding due_from
      due_more g = simp (eq-eqb (get_or row i 0) (due_at records i) (g ∙ e)) at (rw first at w)

      pub due_other : (get_or row i 0 ≡ n → ⊥) → q ≡ false
      unfolding due_from
      due_other g = sym (simp (ne_eqb (get_or row i 0) (due_at records i) (λ z. g (z ∙ sym e))) at (rw first at w))

pub ruleset walk = (held_short, held_first, due_over, due_more, due_other)

-- ---- a frame's question: the answer and the row are those of the reading
module _ (head text records row row₁ row₂ : List ℕ) (mode start : ℕ) (a a' : Answer) (b : Bool) (m : mode ≡ number_at head 0) (s : start ≡ number_at head 4) (f : row₁ ≡ row)
    (p : a ≡ read_answer text mode start row₁) (l : row₂ ≡ read_row text mode start row₁) (d : a' ≡ answer_in head) (t : b ≡ is_same a a') where
  answered : is_same (read_answer text (number_at head 0) (number_at head 4) row) (answer_in head) ≡ b
  answered = cc

  pub agreed_same : (r : Bool) → is_held records row₂ ≡ r → b ≡ true → agreed head text records row ≡ r
  unfolding agreed
  agreed_same r k e = let z : is_held records (read_row text (number_at head 0) (number_at head 4) row) ≡ r = cc in simp (answered ∙ e) z

  pub agreed_not : b ≡ false → agreed head text records row ≡ b
  unfolding agreed
  agreed_not e = simp (answered ∙ e) (sym e)

-- ---- what comes of a frame
module _ (x b : Bool) (e : x ≡ b) where
  pub verdict_same : b ≡ true → Same ≡ verdict x
  unfolding verdict
  verdict_same h = simp (e ∙ h)

  pub verdict_other : b ≡ false → Different ≡ verdict x
  unfolding verdict
  verdict_other h = simp (e ∙ h)

-- the parts that are lent are the buffers' beginnings
module _ (head text text' records records' : List ℕ) (b w m room : ℕ) (r : Outcome) where
  buffers : length text' ≡ b → length records' ≡ w → b ≡ min (number_at head 12) (length text) → w ≡ min (number_at head 16) (length records / record_bytes) * record_bytes
      → m ≡ min (number_at head 8) room
      → framed head (text' ++ drop b text) (records' ++ drop w records) room ≡ agreed head text' records' (fresh m)
  unfolding framed
  buffers i j p q k =
      let u = length_front text text' b (i ∙ sym (length-take-le b text (omega arith))) in
      let v = length_front records records' w (j ∙ sym (length-take-le w records (omega arith))) in
      let s : take (min (number_at head 12) (length (text' ++ drop b text))) (text' ++ drop b text) ≡ text' = rw (u, sym p) (take_at text' (drop b text) b i) in
      let t : take (min (number_at head 16) (length (records' ++ drop w records) / record_bytes) * record_bytes) (records' ++ drop w records) ≡ records' = rw (v, sym q) (take_at records' (drop w records) w j) in
      rw (s, t, k) refl

  pub frame_asked : Asked head text' records' m r → length text' ≡ b → length records' ≡ w → b ≡ min (number_at head 12) (length text)
      → w ≡ min (number_at head 16) (length records / record_bytes) * record_bytes → m ≡ min (number_at head 8) room
      → Framed head (text' ++ drop b text) (records' ++ drop w records) room r
  frame_asked a i j p q k = ⊎_elim (λ z. inl (inl z)) (λ z. inr (z ∙ ap verdict (sym (buffers i j p q k)))) a
