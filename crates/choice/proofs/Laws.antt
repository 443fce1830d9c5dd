-- Laws of choices and joined tests. `tests` is the list by which `search` reads a comparison in the code as a definition's test.
-- Assumes nothing.
use mathlib.Core.Path.{◌≡◌, refl}
use mathlib.Core.Bool.{Bool, true, false}
use Prim.Native.Nat.{ℕ}
use native.Mathlib.Omega.{arith}
use borrow.Author.Tests.{lt-ltb, le-ltb, eq-eqb, ne_eqb, le-leb, lt-leb}
use Rattle.choice.specs.Choice.{choose, both, either}

pub ruleset tests = (lt-ltb, le-ltb, eq-eqb, ne_eqb, le-leb, lt-leb)

-- a choice has what both its sides have
pub choose_keeps : {A : Type 0} (P : A → Type 0) (b : Bool) {x y : A} → (b ≡ true → P x) → (b ≡ false → P y) → P (choose b (λ _. x) (λ _. y))
choose_keeps P true f g = f refl
choose_keeps P false f g = g refl

-- two choices by one test are to each other as their sides are
pub choose_both : {A B : Type 0} (R : A → B → Type 0) (b : Bool) {x y : A} {x' y' : B} → (b ≡ true → R x x') → (b ≡ false → R y y')
    → R (choose b (λ _. x) (λ _. y)) (choose b (λ _. x') (λ _. y'))
choose_both R true f g = f refl
choose_both R false f g = g refl

-- and of three choices by one test
pub choose_three : {A B C : Type 0} (R : A → B → C → Type 0) (b : Bool) {x y : A} {x' y' : B} {x'' y'' : C} → (b ≡ true → R x x' x'') → (b ≡ false → R y y' y'')
    → R (choose b (λ _. x) (λ _. y)) (choose b (λ _. x') (λ _. y')) (choose b (λ _. x'') (λ _. y''))
choose_three R true f g = f refl
choose_three R false f g = g refl

pub true_is_not_false : true ≡ false → ⊥
true_is_not_false e = let z : ◌≡◌ {A = ℕ} 0 1 = cc in omega arith

pub both_left : (a b : Bool) → both a b ≡ true → a ≡ true
both_left true b e = refl
both_left false b e = e

pub both_right : (a b : Bool) → both a b ≡ true → b ≡ true
both_right true b e = e
both_right false b e = absurd (let z : ◌≡◌ {A = ℕ} 0 1 = cc in omega arith)

pub both_none : (b : Bool) → both b false ≡ false
both_none true = refl
both_none false = refl

pub either_all : (b : Bool) → either b true ≡ true
either_all true = refl
either_all false = refl

pub either_left : (a b : Bool) → either a b ≡ false → a ≡ false
either_left true b e = e
either_left false b e = refl

pub either_right : (a b : Bool) → either a b ≡ false → b ≡ false
either_right true b e = absurd (true_is_not_false e)
either_right false b e = e
