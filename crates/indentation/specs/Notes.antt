-- Document 02 item 1, Reference 2.1.3 and 2.1.7, the original's `eat_indentation` with its feature full-lexer: the comments and the
-- newlines of blank and comment lines before a line's first token.
use Rattle.std.specs.Prelude.{ℕ, ◌+◌, List, [], ◌∷◌, Bool, true, false, eqb, get_or}
use Prim.Native.Char.{code}
use Rattle.choice.specs.Choice.{choose, both}
use Rattle.utf8.specs.Chars.{width, no_char}
use Rattle.window.specs.Place.{Place}
use Rattle.token.specs.declared.Token.TheVariants as N
use Rattle.records.specs.Records.{Spanned, spanned_of}
use Rattle.names.specs.Runs.{not_newline}

-- Reference 2.1.2: a CR before an LF: the two are one newline, which ends with the LF
unfoldable pub is_cr_lf : ℕ → List ℕ → Bool
is_cr_lf c r = both (eqb c (code "\r")) (eqb (get_or r 0 no_char) (code "\n"))

-- a newline that began at `from`, whose character c stands at `at`; `on` reads on behind c, from where a note began
abbrev pub newline_note : ℕ → ℕ → ℕ → List ℕ → (ℕ → List Spanned) → List Spanned
newline_note from at c r on = choose (is_cr_lf c r) (λ _. on from) (λ _. spanned_of N.NonLogicalNewline from (at + width c) ∷ on (at + width c))

-- from the byte `at` on: in a comment that began at `from`; else a newline that ends here began at `from`, which is its CR where it has one
unfoldable pub notes_from : Bool → ℕ → ℕ → List ℕ → List Spanned
notes_from comment from at [] = choose comment (λ _. spanned_of N.Comment from at ∷ []) (λ _. [])
notes_from true from at (c ∷ r) =
    choose (not_newline c) (λ _. notes_from true from (at + width c) r)
    (λ _. spanned_of N.Comment from at ∷ newline_note at at c r (λ b. notes_from false b (at + width c) r))
notes_from false from at (c ∷ r) =
    choose (eqb c (code " ")) (λ _. notes_from false (at + width c) (at + width c) r)
    (λ _. choose (eqb c (code "\t")) (λ _. notes_from false (at + width c) (at + width c) r)
    (λ _. choose (eqb c (code "#")) (λ _. notes_from true at (at + width c) r)
    (λ _. choose (eqb c (code "\u{c}")) (λ _. notes_from false (at + width c) (at + width c) r)
    (λ _. choose (not_newline c) (λ _. []) (λ _. newline_note from at c r (λ b. notes_from false b (at + width c) r))))))

-- the notes from a line's start on
unfoldable pub notes : Place → List Spanned
notes p = notes_from false p.at p.at p.rest
