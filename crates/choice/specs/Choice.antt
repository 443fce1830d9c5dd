-- A choice by a test, of which only the branch that is taken is computed, and two tests joined.
use Rattle.std.specs.Prelude.{Bool, true, false}

-- the first branch where the test holds, else the second; each is a function, so that only the one that is taken is computed
abbrev pub choose : {A : Type 0} → Bool → (Unit {0} → A) → (Unit {0} → A) → A
choose true f g = f tt
choose false f g = g tt

-- both tests hold
abbrev pub both : Bool → Bool → Bool
both true b = b
both false b = false

-- one of two tests holds, or both
abbrev pub either : Bool → Bool → Bool
either true b = true
either false b = b
