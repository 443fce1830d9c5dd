-- Runs of characters of a class: comments, blanks and names.
use Rattle.std.specs.Prelude.{ℕ, ◌+◌, List, [], ◌∷◌, Bool, true, not, eqb}
use Prim.Native.Char.{code}
use Rattle.choice.specs.Choice.{choose}
use Rattle.utf8.specs.Chars.{width}
use Rattle.window.specs.Place.{Place}

-- the first place from here on whose character is not of the class, or the end
unfoldable pub skip_from : (ℕ → Bool) → ℕ → List ℕ → Place
skip_from f at [] = record { at = at; rest = [] }
skip_from f at (c ∷ r) = choose (f c) (λ _. skip_from f (at + width c) r) (λ _. record { at = at; rest = c ∷ r })

-- the same from a place
unfoldable pub skip_while : (ℕ → Bool) → Place → Place
skip_while f p = skip_from f p.at p.rest

-- the characters at the head that are of the class
unfoldable pub taken : (ℕ → Bool) → List ℕ → List ℕ
taken f [] = []
taken f (c ∷ r) = choose (f c) (λ _. c ∷ taken f r) (λ _. [])

-- Reference 2.1.2: LF, CR LF or CR ends a physical line
unfoldable pub is_newline : ℕ → Bool
is_newline c = choose (eqb c (code "\n")) (λ _. true) (λ _. eqb c (code "\r"))

-- Reference 2.1.3, the original's `lex_comment`: a comment runs to the end of its physical line, so over no newline
unfoldable pub not_newline : ℕ → Bool
not_newline c = not (is_newline c)

-- Reference 2.1.9, the original's `consume_character`: a space, a tab or a form feed
unfoldable pub is_blank : ℕ → Bool
is_blank c = choose (eqb c (code " ")) (λ _. true) (λ _. choose (eqb c (code "\t")) (λ _. true) (λ _. eqb c (code "\u{c}")))
