-- Document 02 item 4, Reference 2.1.2: the line of a byte. LF, CR LF and a lone CR end a line, wherever they stand; lines count from 0.
use Rattle.std.specs.Prelude.{ℕ, zero, suc, List, [], ◌∷◌, Bool, true, false, not, eqb, get_or}
use Prim.Native.Char.{code}
use Rattle.choice.specs.Choice.{choose}

-- whether the byte b, before the byte c, is the last of a line end: LF, or a CR with no LF behind it
unfoldable pub is_line_end : ℕ → ℕ → Bool
is_line_end b c = choose (eqb b (code "\n")) (λ _. true) (λ _. choose (eqb b (code "\r")) (λ _. not (eqb c (code "\n"))) (λ _. false))

-- the line of the byte p: how many line ends end at or before it
unfoldable pub line_at : List ℕ → ℕ → ℕ
line_at t zero = 0
line_at [] (suc p) = 0
line_at (b ∷ t) (suc p) = choose (is_line_end b (get_or t 0 0)) (λ _. suc (line_at t p)) (λ _. line_at t p)
