-- Reference 2.3, document 01 "What crosses over", the original's `lex_identifier`: names, and the kinds of the names that are keywords.
use Rattle.std.specs.Prelude.{ℕ, suc, List, [], ◌∷◌, Bool, true, false, eqb}
use Prim.Native.String.{String}
use Rattle.choice.specs.Choice.{choose, both}
use Rattle.utf8.specs.Chars.{letters}
use Rattle.window.specs.Place.{Place}
use Rattle.token.specs.Kinds as K
use Rattle.token.specs.declared.Token.{Token}
use Rattle.token.specs.declared.Token.TheVariants.{Name, Keyword}
use Rattle.token.specs.declared.Item.{Item}
use Rattle.token.specs.declared.Item.TheVariants.{Tok}
use Rattle.classes.specs.Classes.{is_identifier_continuation}
use Rattle.names.specs.Runs.{skip_while, taken}

-- Reference 2.3.1: the 35 keywords, in ASCII order
unfoldable pub keywords : List String
keywords =
    "False" ∷ "None" ∷ "True" ∷ "and" ∷ "as" ∷ "assert" ∷ "async" ∷ "await" ∷ "break" ∷ "class" ∷ "continue" ∷ "def" ∷
    "del" ∷ "elif" ∷ "else" ∷ "except" ∷ "finally" ∷ "for" ∷ "from" ∷ "global" ∷ "if" ∷ "import" ∷ "in" ∷ "is" ∷
    "lambda" ∷ "nonlocal" ∷ "not" ∷ "or" ∷ "pass" ∷ "raise" ∷ "return" ∷ "try" ∷ "while" ∷ "with" ∷ "yield" ∷ []

-- Reference 2.3.2: the soft keywords but for `_`, which the original leaves a name; `type` is one by the original and the Reference of 3.12
unfoldable pub soft_keywords : List String
soft_keywords = "match" ∷ "case" ∷ "type" ∷ []

-- two lists of characters are the same
abbrev pub alike : List ℕ → List ℕ → Bool
alike [] [] = true
alike [] (y ∷ ys) = false
alike (x ∷ xs) [] = false
alike (x ∷ xs) (y ∷ ys) = both (eqb x y) (alike xs ys)

-- whether w has the characters of a word
abbrev pub spells : List ℕ → String → Bool
spells w t = alike w (letters t)

-- the number of the first element that passes the test, where they are numbered from k on, or `other`
unfoldable pub number_in : {A : Type 0} → (A → Bool) → List A → ℕ → ℕ → ℕ
number_in f [] k other = other
number_in f (x ∷ xs) k other = choose (f x) (λ _. k) (λ _. number_in f xs (suc k) other)

-- document 01 "What crosses over": the keywords are 100 to 134; match, case and type are 140, 141 and 142; any other name is 3
unfoldable pub kind_of_name : List ℕ → ℕ
kind_of_name w = number_in (spells w) keywords K.first_keyword (number_in (spells w) soft_keywords K.first_soft K.name)

-- a name's characters as a token
unfoldable pub name_token : List ℕ → Token
name_token w = choose (eqb (kind_of_name w) K.name) (λ _. Name) (λ _. Keyword (kind_of_name w))

-- Reference 2.3: the name at a place, as a token with its end
unfoldable pub name_at : Place → Item
name_at p = Tok (name_token (taken is_identifier_continuation p.rest)) (skip_while is_identifier_continuation p).at
