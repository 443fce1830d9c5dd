-- The blanks at a line's start: document 01 "Line start", the original's `eat_indentation`. Blank lines are those of Reference 2.1.7. The
-- original departs from 2.1.8: it counts tabs and spaces apart, and refuses a tab after a space. That a form feed sets both counts to zero
-- is its choice where 2.1.8 leaves it open.
use Rattle.std.specs.Prelude.{ℕ, ◌+◌, List, [], ◌∷◌, Bool, true, false, eqb, Result, Ok, Err}
use Prim.Native.Char.{code}
use Rattle.choice.specs.Choice.{choose}
use Rattle.utf8.specs.Chars.{width}
use Rattle.window.specs.Place.{Place}
use Rattle.names.specs.Runs.{not_newline}
use Rattle.indentation.specs.declared.Margin.{Margin}
use Rattle.indentation.specs.Levels.{level}

-- document 01 "Line start": so many tabs and spaces before a byte
abbrev pub counted : ℕ → ℕ → ℕ → Result Margin Margin
counted at tabs spaces = Ok (record { at = at; blanks = level tabs spaces })

-- document 01 "Line start": so many before a tab after a space, which stops the count
abbrev pub stopped : ℕ → ℕ → ℕ → Result Margin Margin
stopped at tabs spaces = Err (record { at = at; blanks = level tabs spaces })

-- document 01 "Line start": from the byte `at` on, in a comment or not, with the blanks counted so far. A comment, a newline,
-- a form feed or the end of text sets both counts to zero; a tab after a space is wrong (code 25); the first other character ends the count
unfoldable pub blanks_from : Bool → ℕ → ℕ → ℕ → List ℕ → Result Margin Margin
blanks_from comment at tabs spaces [] = counted at 0 0
blanks_from true at tabs spaces (c ∷ r) =
    choose (not_newline c) (λ _. blanks_from true (at + width c) 0 0 r) (λ _. blanks_from false (at + width c) 0 0 r)
blanks_from false at tabs spaces (c ∷ r) =
    choose (eqb c (code " ")) (λ _. blanks_from false (at + width c) tabs (spaces + 1) r)
    (λ _. choose (eqb c (code "\t"))
    (λ _. choose (eqb spaces 0) (λ _. blanks_from false (at + width c) (tabs + 1) spaces r) (λ _. stopped at tabs spaces))
    (λ _. choose (eqb c (code "#")) (λ _. blanks_from true (at + width c) 0 0 r)
    (λ _. choose (eqb c (code "\u{c}")) (λ _. blanks_from false (at + width c) 0 0 r)
    (λ _. choose (not_newline c) (λ _. counted at tabs spaces)
    (λ _. blanks_from false (at + width c) 0 0 r)))))

-- document 01 "Line start": the blanks from a line's start on
unfoldable pub blanks : Place → Result Margin Margin
blanks p = blanks_from false p.at 0 0 p.rest
