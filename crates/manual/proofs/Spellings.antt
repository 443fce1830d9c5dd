-- "Kinds": document 01's numbers of the operators and of the keywords, by their spellings.
-- Assumes nothing.
use Prim.Native.Nat.{ℕ, suc}
use Prim.Native.String.{String}
use mathlib.Core.Path.{◌≡◌, refl}
use mathlib.Core.List.{List, [], ◌∷◌, map}
use lib.ListN.{length, get_or}
use Rattle.std.specs.Prelude.{Option, Some}
use Rattle.utf8.specs.Chars.{no_char, letters}
use Rattle.operators.specs.Operators.{before_equal, doubled, dash, exclamation, dots, single, longest_operator}
use Rattle.names.specs.Names.{keywords, soft_keywords, number_in, kind_of_name}
use Rattle.manual.proofs.Texts.{numbers_from}

-- the operators, in the order that document 01 prints; tools/check-definition holds the page's table against it
abbrev pub operators : List String
operators =
    "=" ∷ "==" ∷ "+" ∷ "+=" ∷ "*" ∷ "*=" ∷ "**" ∷ "**=" ∷ "/" ∷ "/=" ∷ "//" ∷ "//=" ∷ "%" ∷ "%=" ∷ "|" ∷ "|=" ∷ "^" ∷ "^=" ∷
    "&" ∷ "&=" ∷ "-" ∷ "-=" ∷ "->" ∷ "@" ∷ "@=" ∷ "!=" ∷ "~" ∷ "(" ∷ ")" ∷ "[" ∷ "]" ∷ "{" ∷ "}" ∷ ":" ∷ ":=" ∷ ";" ∷ "<" ∷
    "<<" ∷ "<<=" ∷ "<=" ∷ ">" ∷ ">>" ∷ ">>=" ∷ ">=" ∷ "," ∷ "." ∷ "..." ∷ []

-- the longest operator that a text begins with
abbrev pub told_of : String → Option (ℕ × ℕ)
told_of s = let t = letters s in longest_operator (get_or t 0 no_char) (get_or t 1 no_char) (get_or t 2 no_char)

-- each of these texts as one operator, all of it, with the kinds in their order
abbrev pub in_order_lem : ℕ → List String → List (Option (ℕ × ℕ))
in_order_lem kind [] = []
in_order_lem kind (s ∷ more) = Some (kind, length (letters s)) ∷ in_order_lem (suc kind) more

-- document 01: operators are 30 to 76 in this order
pub operators_in_order : (map told_of operators ≡ in_order_lem 30 operators) × (length operators ≡ 47)
unfolding before_equal doubled dash exclamation dots single longest_operator
operators_in_order = (refl, refl)

-- document 01: the Reference's 35 keywords are 100 to 134 in ASCII order; match, case and type are 140 to 142
pub keywords_in_order : (map (λ s. kind_of_name (letters s))
    ("False" ∷ "None" ∷ "True" ∷ "and" ∷ "as" ∷ "assert" ∷ "async" ∷ "await" ∷ "break" ∷ "class" ∷ "continue" ∷ "def" ∷
    "del" ∷ "elif" ∷ "else" ∷ "except" ∷ "finally" ∷ "for" ∷ "from" ∷ "global" ∷ "if" ∷ "import" ∷ "in" ∷ "is" ∷
    "lambda" ∷ "nonlocal" ∷ "not" ∷ "or" ∷ "pass" ∷ "raise" ∷ "return" ∷ "try" ∷ "while" ∷ "with" ∷ "yield" ∷ []) ≡ numbers_from 100 35)
    × (map (λ s. kind_of_name (letters s)) ("match" ∷ "case" ∷ "type" ∷ []) ≡ numbers_from 140 3)
unfolding keywords soft_keywords number_in kind_of_name
keywords_in_order = (refl, refl)
