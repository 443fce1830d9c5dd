-- What a store and a smaller count do to a stack in an array.
-- Assumes nothing.
use Prim.Native.Nat.{ℕ, zero, suc, ◌+◌, ◌-◌, ◌<◌, ◌≤◌}
use mathlib.Core.Path.{◌≡◌, refl, ap}
use mathlib.Core.List.{List, ◌∷◌}
use native.Mathlib.Omega.{arith}
use native.Mathlib.Numerals.{add-one, sub-one}
use native.Mathlib.Decide.{dec_lt}
use lib.ListN.{length, get_or, drop, set}
use lib.Seq.{get_or-set_same, get_or-set_other}
use Rattle.stacks.specs.Promises.{stack_in}

module _ {A : Type 0} (none : A) (a : List A) where
  pub stack_length : (d : ℕ) → length (stack_in none a d) ≡ d
  unfolding stack_in
  stack_length zero = refl
  stack_length (suc d) = ap suc (stack_length d)

  -- the latest, as code counts
  pub stack_off : (d : ℕ) → 0 < d → stack_in none a d ≡ get_or a (d - 1) none ∷ stack_in none a (d - 1)
  unfolding stack_in
  stack_off zero h = absurd (omega arith)
  stack_off (suc d) h = rw sub-one

  -- a store at or past the count is not seen
  pub stack_above : (i d : ℕ) (x : A) → d ≤ i → stack_in none (set a i x) d ≡ stack_in none a d
  unfolding stack_in
  stack_above i zero x h = refl
  stack_above i (suc d) x h = rw (get_or-set_other a i d x none (omega arith), stack_above i d x (omega arith))

  -- one is pushed
  pub stack_push : (d : ℕ) (x : A) → d < length a → stack_in none (set a d x) (d + 1) ≡ x ∷ stack_in none a d
  unfolding stack_in
  stack_push d x h = rw (add-one d, get_or-set_same a d x none h, stack_above d d x (omega arith))

  -- some are popped
  pub stack_left : (d k : ℕ) → k ≤ d → drop (d - k) (stack_in none a d) ≡ stack_in none a k
  unfolding stack_in
  stack_left zero k h = let e : k ≡ 0 = omega arith in rw e
  stack_left (suc d) k h = go (dec_lt d k) (stack_left d k)
    where
      go : Dec (d < k) → (k ≤ d → drop (d - k) (stack_in none a d) ≡ stack_in none a k) → drop (suc d - k) (stack_in none a (suc d)) ≡ stack_in none a k
      go (yes l) f = let e : k ≡ suc d = omega arith in let z : suc d - suc d ≡ 0 = omega arith in rw (e, z)
      go (no l) f = let e : suc d - k ≡ suc (d - k) = omega arith in rw e (f (omega arith))
