-- Sets of characters as lists of ranges, LO, HI, LO, HI and so on, both ends within: the lines of tables/*.txt.
use Rattle.std.specs.Prelude.{Bool, true, false, List, [], ◌∷◌, ℕ, leb}
use Rattle.choice.specs.Choice.{choose, both}

-- some range of the list holds the character
unfoldable pub in_ranges : List ℕ → ℕ → Bool
in_ranges [] c = false
in_ranges (low ∷ []) c = false
in_ranges (low ∷ high ∷ rest) c = choose (both (leb low c) (leb c high)) (λ _. true) (λ _. in_ranges rest c)
