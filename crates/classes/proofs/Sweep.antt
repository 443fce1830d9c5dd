-- Two tests that agree on each number below a bound, by computing both there.
-- Assumes nothing.
use mathlib.Core.Bool.{Bool, true, false}
use mathlib.Core.Logic.{⊎_elim}
use mathlib.Core.Path.{◌≡◌, refl, sym}
use Prim.Native.Nat.{ℕ, zero, suc, ◌<◌, ◌≤◌}
use native.Mathlib.Omega.{arith}
use native.Mathlib.Nat.{eq-or-lt_of_le}
use Rattle.choice.specs.Choice.{both}
use Rattle.choice.proofs.Laws.{both_left, both_right}

-- both tests say the same
abbrev pub agree : Bool → Bool → Bool
agree true b = b
agree false true = false
agree false false = true

agreed : (a b : Bool) → agree a b ≡ true → a ≡ b
agreed true b e = sym e
agreed false true e = e
agreed false false e = refl

-- two tests agree on 0 .. n - 1
abbrev pub agree_below_lem : ℕ → (ℕ → Bool) → (ℕ → Bool) → Bool
agree_below_lem zero f g = true
agree_below_lem (suc n) f g = both (agree (f n) (g n)) (agree_below_lem n f g)

pub agree_below : (n : ℕ) (f g : ℕ → Bool) → agree_below_lem n f g ≡ true → (c : ℕ) → c < n → f c ≡ g c
agree_below zero f g e c h = absurd (omega arith)
agree_below (suc n) f g e c h =
    let at : c ≤ n = omega arith in
    ⊎_elim
    (λ q. rw q (agreed (f n) (g n) (both_left (agree (f n) (g n)) (agree_below_lem n f g) e)))
    (agree_below n f g (both_right (agree (f n) (g n)) (agree_below_lem n f g) e) c)
    (eq-or-lt_of_le at)
