-- partial_cmp of levels: the answers for the tabs and for the spaces are the definition's tests.
-- Assumes nothing.
use Prim.Native.Nat.{◌<◌}
use mathlib.Core.Path.{◌≡◌, refl, sym, ◌∙◌}
use mathlib.Core.Bool.{Bool, true, false}
use native.Mathlib.Omega.{arith}
use Rattle.std.specs.Prelude.{Option, Some, None}
use Rattle.std.specs.Bool.{then_some}
use Rattle.std.specs.declared.cmp.Ordering.{Ordering}
use Rattle.std.specs.declared.cmp.Ordering.TheVariants.{Less, Equal, Greater}
use Rattle.std.specs.Ordering.{nat_cmp, MatchOrdering}
use Rattle.std.proofs.lemmas.Bool.{lt-ltb, le-ltb}
use Rattle.std.proofs.lemmas.Cmp.{ranked}
use lib.Dec.{leb}
use Rattle.choice.specs.Choice.{choose}
use Rattle.indentation.specs.declared.Level.{Level}
use Rattle.indentation.specs.Levels.{compare_strict}
use Rattle.indentation.specs.LevelOrder.{compare_levels}

-- a test that gives an answer or none
given : (b : Bool) (o : Ordering) → then_some b o ≡ choose b (λ _. Some o) (λ _. None)
given true o = refl
given false o = refl

module _ (x y : Level) (r : Ordering) (e : r ≡ nat_cmp x.tabs y.tabs) where
  says : (s : Ordering) → r ≡ s → MatchOrdering s (x.tabs < y.tabs) (x.tabs ≡ y.tabs) (y.tabs < x.tabs)
  says s u = ranked x.tabs y.tabs s (sym u ∙ e)

  pub tabs_less : r ≡ Less → (q : Option Ordering) → q ≡ then_some (leb x.spaces y.spaces) Less → q ≡ compare_levels x y
  unfolding compare_strict
  tabs_less u q p = p ∙ given (leb x.spaces y.spaces) Less ∙ below
    where
      below : choose (leb x.spaces y.spaces) (λ _. Some Less) (λ _. None) ≡ compare_levels x y
      below = simp (lt-ltb x.tabs y.tabs (says Less u))

  pub tabs_greater : r ≡ Greater → (q : Option Ordering) → q ≡ then_some (leb y.spaces x.spaces) Greater → q ≡ compare_levels x y
  unfolding compare_strict
  tabs_greater u q p = p ∙ given (leb y.spaces x.spaces) Greater ∙ above
    where
      h : y.tabs < x.tabs
      h = says Greater u

      above : choose (leb y.spaces x.spaces) (λ _. Some Greater) (λ _. None) ≡ compare_levels x y
      above = simp (le-ltb x.tabs y.tabs (omega (arith, h)), lt-ltb y.tabs x.tabs h)

  pub tabs_equal : r ≡ Equal → (q : Ordering) → q ≡ nat_cmp x.spaces y.spaces → Some q ≡ compare_levels x y
  unfolding compare_strict
  tabs_equal u q p = go q (ranked x.spaces y.spaces q p)
    where
      h : x.tabs ≡ y.tabs
      h = says Equal u

      go : (s : Ordering) → MatchOrdering s (x.spaces < y.spaces) (x.spaces ≡ y.spaces) (y.spaces < x.spaces) → Some s ≡ compare_levels x y
      go Less k = simp (le-ltb x.tabs y.tabs (omega (arith, h)), le-ltb y.tabs x.tabs (omega (arith, h)), lt-ltb x.spaces y.spaces k)
      go Equal k = simp (le-ltb x.tabs y.tabs (omega (arith, h)), le-ltb y.tabs x.tabs (omega (arith, h)), le-ltb x.spaces y.spaces (omega arith), le-ltb y.spaces x.spaces (omega arith))
      go Greater k = simp (le-ltb x.tabs y.tabs (omega (arith, h)), le-ltb y.tabs x.tabs (omega (arith, h)), le-ltb x.spaces y.spaces (omega arith), lt-ltb y.spaces x.spaces k)

pub ruleset by_tabs = (tabs_less, tabs_equal, tabs_greater)
