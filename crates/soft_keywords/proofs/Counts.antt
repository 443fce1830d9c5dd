-- The signed count of square brackets: what the machine's numbers say of it.
-- Assumes nothing.
use Prim.Native.Nat.{zero, suc, ◌+◌, ◌^◌, ◌<◌, ◌≤◌}
use mathlib.Core.Path.{◌≡◌, refl}
use mathlib.Core.Bool.{true, false}
use native.Mathlib.Omega.{arith}
use borrow.Author.Tests.{ltb-true, ltb-false, eq-eqb, ne_eqb}
use lib.IntN.{ℤ, pos, negsuc, nat_abs, suc_ℤ, pred_ℤ, ◌+ℤ◌, ◌-ℤ◌, +ℤ_one, -ℤ_one}
use lib.Signed.{lt_z}
use mir.Syntax.{w64}
use mir.Val.{SFits}
use Rattle.choice.proofs.Laws.{true_is_not_false}
use Rattle.soft_keywords.specs.SoftKeywords.{is_zero}

-- zero is neither below nor above zero
pub zero_below : (z : ℤ) → lt_z z (pos 0) ≡ true → is_zero z ≡ false
unfolding is_zero
zero_below (pos n) e = absurd (omega (arith, ltb-true n 0 e))
zero_below (negsuc n) e = refl

pub zero_above : (z : ℤ) → lt_z (pos 0) z ≡ true → is_zero z ≡ false
unfolding is_zero
zero_above (pos n) e = ne_eqb n 0 (omega (arith, ltb-true 0 n e))
zero_above (negsuc n) e = refl

pub zero_between : (z : ℤ) → lt_z z (pos 0) ≡ false → lt_z (pos 0) z ≡ false → is_zero z ≡ true
unfolding is_zero
zero_between (pos n) e f = eq-eqb n 0 (omega (arith, ltb-false 0 n f))
zero_between (negsuc n) e f = absurd (true_is_not_false e)

-- a number one up or down is at most one further from zero
pub up_near : (z : ℤ) → nat_abs (z +ℤ pos 1) ≤ nat_abs z + 1
up_near z = rw +ℤ_one (go z)
  where
    go : (y : ℤ) → nat_abs (suc_ℤ y) ≤ nat_abs y + 1
    go (pos n) = omega arith
    go (negsuc zero) = omega arith
    go (negsuc (suc n)) = omega arith

pub down_near : (z : ℤ) → nat_abs (z -ℤ pos 1) ≤ nat_abs z + 1
down_near z = rw -ℤ_one (go z)
  where
    go : (y : ℤ) → nat_abs (pred_ℤ y) ≤ nat_abs y + 1
    go (pos zero) = omega arith
    go (pos (suc n)) = omega arith
    go (negsuc n) = omega arith

-- a number near zero fits
pub near_fits : (z : ℤ) → nat_abs z < 2 ^ 63 → SFits w64 z
near_fits (pos n) h = record { sfits = h }
near_fits (negsuc n) h = record { sfits = omega arith }
