-- Document 01 "What must change shape": what an array with a count beside it promises as a stack.
use Rattle.std.specs.Prelude.{ℕ, zero, suc, List, [], ◌∷◌, get_or}

-- the first places of an array as a list, the latest first; `none` stands past the array's end
unfoldable pub stack_in : {A : Type 0} → A → List A → ℕ → List A
stack_in none a zero = []
stack_in none a (suc d) = get_or a d none ∷ stack_in none a d
