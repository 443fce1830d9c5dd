-- The indentation levels: document 01 "Levels", the original's `handle_indentations` and `compare_strict`, whose run decides. The stack,
-- Indents and Dedents are those of Reference 2.1.8; a level of tabs and spaces, not of columns, is the original's.
use Rattle.std.specs.Prelude.{ℕ, suc, List, [], ◌∷◌, eqb, ltb, leb, length, Option, Some, None, Result, Ok, Err}
use Rattle.std.specs.declared.cmp.Ordering.{Ordering}
use Rattle.std.specs.declared.cmp.Ordering.TheVariants.{Less, Equal, Greater}
use Rattle.choice.specs.Choice.{choose}
use Rattle.token.specs.declared.Ending.{Ending}
use Rattle.token.specs.declared.Ending.TheVariants.{IndentationError, TabError, TooDeep}
use Rattle.indentation.specs.declared.Level.{Level}
use Rattle.indentation.specs.declared.LevelChange.{LevelChange}
use Rattle.indentation.specs.declared.LevelChange.TheVariants.{Same, Indent, DedentTo}

-- document 01, code 33: the most levels that may be open; the original sets no limit
abbrev pub most_levels : ℕ
most_levels = 100

-- the original's `IndentationLevel`: a level is its tabs and spaces
abbrev pub level : ℕ → ℕ → Level
level tabs spaces = record { tabs = tabs; spaces = spaces }

-- document 01 "Levels", the original's `compare_strict`: fewer tabs and no more spaces is less; more tabs and no fewer spaces is greater;
-- equal tabs compare spaces; anything else is unclear (code 24)
unfoldable pub compare_strict : ℕ → ℕ → Level → Option Ordering
compare_strict tabs spaces o =
    choose (ltb tabs o.tabs) (λ _. choose (leb spaces o.spaces) (λ _. Some Less) (λ _. None))
    (λ _. choose (ltb o.tabs tabs) (λ _. choose (leb o.spaces spaces) (λ _. Some Greater) (λ _. None))
    (λ _. choose (ltb spaces o.spaces) (λ _. Some Less) (λ _. choose (ltb o.spaces spaces) (λ _. Some Greater) (λ _. Some Equal))))

-- Reference 2.1.8: the innermost level; below all levels is a line without blanks
unfoldable pub top_of : List Level → Level
top_of [] = level 0 0
top_of (l ∷ ls) = l

-- document 01 "Levels": what an order says where levels are popped, `depth` being open; `on` is the answer with one fewer
unfoldable pub pop_by : Option Ordering → ℕ → Result LevelChange Ending → Result LevelChange Ending
pop_by (Some Less) depth on = on
pop_by (Some Equal) depth on = Ok (DedentTo depth)
pop_by (Some Greater) depth on = Err IndentationError
pop_by None depth on = Err TabError

-- document 01 "Levels": one level after another is popped, comparing anew each time; with none left, any blank is too many (code 23)
unfoldable pub pop_from : List Level → ℕ → ℕ → Result LevelChange Ending
pop_from [] tabs spaces =
    choose (eqb tabs 0) (λ _. choose (eqb spaces 0) (λ _. Ok (DedentTo 0)) (λ _. Err IndentationError)) (λ _. Err IndentationError)
pop_from (l ∷ ls) tabs spaces = pop_by (compare_strict tabs spaces l) (suc (length ls)) (pop_from ls tabs spaces)

-- document 01 "Levels" and code 33: what the order to the innermost of `depth` levels says; `less` is the answer where it is less
unfoldable pub change_by : Option Ordering → ℕ → Result LevelChange Ending → Result LevelChange Ending
change_by (Some Less) depth less = less
change_by (Some Equal) depth less = Ok Same
change_by (Some Greater) depth less = choose (eqb depth most_levels) (λ _. Err TooDeep) (λ _. Ok Indent)
change_by None depth less = Err TabError

-- document 01 "Levels": how the blanks of a line stand to the open levels
unfoldable pub change_of : List Level → ℕ → ℕ → Result LevelChange Ending
change_of ls tabs spaces = change_by (compare_strict tabs spaces (top_of ls)) (length ls) (pop_from ls tabs spaces)
