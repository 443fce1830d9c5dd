-- What the program prints for a character.
use Rattle.std.specs.Prelude.{ℕ, eqb}
use Prim.Native.Char.{code}
use Rattle.choice.specs.Choice.{choose}

-- a character's number, where a newline that begins with a CR is shown as an LF
unfoldable pub folded : ℕ → ℕ
folded c = choose (eqb c (code "\r")) (λ _. code "\n") (λ _. c)
