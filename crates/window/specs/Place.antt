-- Document 01 "Window", the original's `CharWindow` and `next_char`. A place of a text is a byte number and the characters from there;
-- a place is meaningful at every byte.
use Rattle.std.specs.Prelude.{ℕ, ◌+◌, List, [], ◌∷◌, get_or, drop, eqb}
use Prim.Native.Char.{code}
use Rattle.choice.specs.Choice.{choose}
use Rattle.utf8.specs.Chars.{chars, width, no_char}

-- a place: its byte, and the characters from there to the text's end
pub record Place : Type 0 where
  pub at : ℕ
  pub rest : List ℕ

-- the place at the byte i of the text t
abbrev pub place_at : List ℕ → ℕ → Place
place_at t i = record { at = i; rest = chars (drop i t) }

-- the k-th character ahead, or no_char
abbrev pub nth : Place → ℕ → ℕ
nth p k = get_or p.rest k no_char

-- the three characters ahead
abbrev pub window : Place → List ℕ
window p = nth p 0 ∷ nth p 1 ∷ nth p 2 ∷ []

-- one character on, from a byte and the characters there; at the end nothing moves (the original's `slide`)
unfoldable pub slid_by : ℕ → List ℕ → Place
slid_by at [] = record { at = at; rest = [] }
slid_by at (c ∷ r) = record { at = at + width c; rest = r }

-- the place one character on
unfoldable pub slid : Place → Place
slid p = slid_by p.at p.rest

-- Reference 2.1.2, the original's `next_char`: one character on, where CR LF is one newline of two bytes
unfoldable pub next_char : Place → Place
next_char p = choose (eqb (nth p 0) (code "\r")) (λ _. choose (eqb (nth p 1) (code "\n")) (λ _. slid (slid p)) (λ _. slid p)) (λ _. slid p)

-- U+FEFF, the byte order mark
abbrev pub bom : ℕ
bom = 0xfeff

-- Reference 2.1.4, the original's `Lexer::new`: where a text is read from; a BOM is skipped only at the text's own start
unfoldable pub text_start : List ℕ → Place
text_start t = choose (eqb (nth (place_at t 0) 0) bom) (λ _. slid (place_at t 0)) (λ _. place_at t 0)
