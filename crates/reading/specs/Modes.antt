-- Document 01 "What comes back" and document 02 item 1: the modes, 0 and 3 Module, 1 and 4 Interactive, 2 and 5 Expression.
use Rattle.std.specs.Prelude.{ℕ, Bool, false, not, ltb, eqb}
use Rattle.choice.specs.Choice.{choose}

-- the mode Expression, without notes and with them
abbrev pub expression : ℕ
expression = 2

abbrev pub expression_with_notes : ℕ
expression_with_notes = 5

-- code 2 starts above it
abbrev pub last_mode : ℕ
last_mode = expression_with_notes

-- modes 3 to 5 follow the original's feature full-lexer: comments and newlines that end no logical line are listed
unfoldable pub lists_notes : ℕ → Bool
lists_notes mode = ltb expression mode

-- document 01 "The second pass", the original's `SoftKeywordTransformer::new`: a line starts at the text's start, but not in an expression
unfoldable pub starts_line : ℕ → Bool
starts_line mode = choose (eqb mode expression) (λ _. false) (λ _. not (eqb mode expression_with_notes))
