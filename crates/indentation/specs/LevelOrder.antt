-- The levels are partly ordered by `compare_strict`: tabs by their order and spaces by theirs, with no answer where the two differ.
-- An answer tells how the numbers stand, and how they stand leaves one answer: so the laws are arithmetic.
-- Assumes nothing.
use Rattle.std.specs.Prelude.{◌+◌, ◌<◌, ◌≤◌, ◌≡◌, Bool, Option, Some, None}
use Rattle.std.specs.declared.cmp.Ordering.{Ordering}
use Rattle.std.specs.declared.cmp.Ordering.TheVariants.{Less, Equal, Greater}
use Rattle.std.specs.Ordering.{ordering_reverse}
use Rattle.std.specs.Option.{option_map}
use Rattle.std.specs.Cmp.{IsPartialOrder}
use Rattle.std.specs.Bool.{Decides}
use mathlib.Core.Path.{refl, sym, ap, ap₂, subst}
use mathlib.Core.Logic.{◌⊎◌, inl, inr}
use native.Mathlib.Omega.{arith}
use borrow.Author.Tests.{ltb-true, ltb-false}
use Rattle.std.proofs.lemmas.Bool.{leb-true, leb-false}
use lib.Dec.{ltb, leb}
use Rattle.choice.proofs.Laws.{choose_keeps}
use Rattle.indentation.specs.declared.Level.{Level}
use Rattle.indentation.specs.Levels.{level, compare_strict}

-- a line's blanks as a level, compared with another
abbrev pub compare_levels : Level → Level → Option Ordering
compare_levels x y = compare_strict x.tabs x.spaces y

-- what an answer says: neither number is greater, and one is less; both are equal; the other way round; one is less and the other greater
abbrev Says : Level → Level → Option Ordering → Type 0
Says x y (Some Less) = (x.tabs ≤ y.tabs) × (x.spaces ≤ y.spaces) × (x.tabs + x.spaces < y.tabs + y.spaces)
Says x y (Some Equal) = (x.tabs ≡ y.tabs) × (x.spaces ≡ y.spaces)
Says x y (Some Greater) = (y.tabs ≤ x.tabs) × (y.spaces ≤ x.spaces) × (y.tabs + y.spaces < x.tabs + x.spaces)
Says x y None = ((x.tabs < y.tabs) × (y.spaces < x.spaces)) ⊎ ((y.tabs < x.tabs) × (x.spaces < y.spaces))

says : (x y : Level) → Says x y (compare_levels x y)
unfolding compare_strict
says x y =
    let P = Says x y in
    choose_keeps P (ltb x.tabs y.tabs)
    (λ a. let h = ltb-true x.tabs y.tabs a in
    choose_keeps P (leb x.spaces y.spaces)
    (λ b. let k = leb-true x.spaces y.spaces b in (omega arith, omega arith, omega arith)) (λ b. inl (h, leb-false x.spaces y.spaces b)))
    (λ a. let h = ltb-false x.tabs y.tabs a in
    choose_keeps P (ltb y.tabs x.tabs)
    (λ c. let m = ltb-true y.tabs x.tabs c in
    choose_keeps P (leb y.spaces x.spaces)
    (λ b. let k = leb-true y.spaces x.spaces b in (omega arith, omega arith, omega arith)) (λ b. inr (m, leb-false y.spaces x.spaces b)))
    (λ c. let m = ltb-false y.tabs x.tabs c in
    choose_keeps P (ltb x.spaces y.spaces)
    (λ b. let k = ltb-true x.spaces y.spaces b in (omega arith, omega arith, omega arith))
    (λ b. let k = ltb-false x.spaces y.spaces b in
    choose_keeps P (ltb y.spaces x.spaces)
    (λ d. let n = ltb-true y.spaces x.spaces d in (omega arith, omega arith, omega arith))
    (λ d. let n = ltb-false y.spaces x.spaces d in (omega arith, omega arith)))))

one_answer : (x y : Level) (a b : Option Ordering) → Says x y a → Says x y b → a ≡ b
one_answer x y (Some Less) (Some Less) p q = refl
one_answer x y (Some Less) (Some Equal) p q = absurd (omega arith)
one_answer x y (Some Less) (Some Greater) p q = absurd (omega arith)
one_answer x y (Some Less) None p (inl q) = absurd (omega arith)
one_answer x y (Some Less) None p (inr q) = absurd (omega arith)
one_answer x y (Some Equal) (Some Less) p q = absurd (omega arith)
one_answer x y (Some Equal) (Some Equal) p q = refl
one_answer x y (Some Equal) (Some Greater) p q = absurd (omega arith)
one_answer x y (Some Equal) None p (inl q) = absurd (omega arith)
one_answer x y (Some Equal) None p (inr q) = absurd (omega arith)
one_answer x y (Some Greater) (Some Less) p q = absurd (omega arith)
one_answer x y (Some Greater) (Some Equal) p q = absurd (omega arith)
one_answer x y (Some Greater) (Some Greater) p q = refl
one_answer x y (Some Greater) None p (inl q) = absurd (omega arith)
one_answer x y (Some Greater) None p (inr q) = absurd (omega arith)
one_answer x y None (Some Less) (inl p) q = absurd (omega arith)
one_answer x y None (Some Less) (inr p) q = absurd (omega arith)
one_answer x y None (Some Equal) (inl p) q = absurd (omega arith)
one_answer x y None (Some Equal) (inr p) q = absurd (omega arith)
one_answer x y None (Some Greater) (inl p) q = absurd (omega arith)
one_answer x y None (Some Greater) (inr p) q = absurd (omega arith)
one_answer x y None None p q = refl

turned : (x y : Level) (a : Option Ordering) → Says y x a → Says x y (option_map ordering_reverse a)
turned x y (Some Less) p = p
turned x y (Some Equal) p = (sym p.0, sym p.1)
turned x y (Some Greater) p = p
turned x y None (inl p) = inr p
turned x y None (inr p) = inl p

means : (x y : Level) (a : Option Ordering) → compare_levels x y ≡ a → Says x y a
means x y a e = subst (Says x y) e (says x y)

same_level : (x y : Level) → Says x y (Some Equal) → x ≡ y
same_level x y p = ap₂ level p.0 p.1

chain : (x y z : Level) → Says x y (Some Less) → Says y z (Some Less) → Says x z (Some Less)
chain x y z p q = (omega arith, omega arith, omega arith)

-- THE LAWS, for any test that holds where two levels are the same
pub levels_ordered : {E : Level → Level → Bool} → ((x y : Level) → Decides (E x y) (x ≡ y)) → IsPartialOrder E compare_levels
levels_ordered {E} d = record {
  antisymm = λ x y. one_answer x y (compare_levels x y) (option_map ordering_reverse (compare_levels y x)) (says x y) (turned x y (compare_levels y x) (says y x));
  trans = λ x y z p q. one_answer x z (compare_levels x z) (Some Less) (says x z) (chain x y z (means x y (Some Less) p) (means y z (Some Less) q));
  matches_eq = λ x y. (
    λ e. one_answer x y (compare_levels x y) (Some Equal) (says x y) (subst (λ z. Says x z (Some Equal)) ((d x y).0 e) (refl, refl)),
    λ e. (d x y).1 (same_level x y (means x y (Some Equal) e)),
  );
  congr = λ x y z e. ap (λ w. compare_levels w z) ((d x y).0 e);
}
