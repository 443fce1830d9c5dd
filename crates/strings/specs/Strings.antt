-- Reference 2.4.1, document 01 "Strings": how a string literal opens (the original's `lex_identifier` and `StringKind`), and where it ends
-- (its `lex_string`).
use Rattle.std.specs.Prelude.{ℕ, zero, suc, ◌+◌, List, [], ◌∷◌, Bool, true, false, get_or, eqb, ltb, leb, Option, Some, None}
use Prim.Native.Char.{code}
use Rattle.choice.specs.Choice.{choose, both, either}
use Rattle.utf8.specs.Chars.{width, no_char, case_distance}
use Rattle.window.specs.Place.{Place, slid, nth}
use Rattle.token.specs.declared.StringKind.{StringKind}
use Rattle.token.specs.declared.StringKind.TheVariants.{String, FString, Bytes, RawString, RawFString, RawBytes, Unicode}
use Rattle.token.specs.declared.Token.TheVariants as T
use Rattle.token.specs.declared.Ending.{Ending}
use Rattle.token.specs.declared.Ending.TheVariants.{StringError, Eof, EolInString}
use Rattle.token.specs.declared.Item.{Item}
use Rattle.token.specs.declared.Item.TheVariants.{Tok, Error}
use Rattle.names.specs.Runs.{is_newline}

-- a double or a single quote
unfoldable pub is_quote : ℕ → Bool
is_quote c = either (eqb c (code "\"")) (eqb c (code "'"))

-- a letter of ASCII in lower case, any other character as it is
unfoldable pub lower : ℕ → ℕ
lower c = choose (ltb c (code "A")) (λ _. c) (λ _. choose (leb c (code "Z")) (λ _. c + case_distance) (λ _. c))

-- stringprefix and bytesprefix: r, f, u and b
unfoldable pub one_letter : ℕ → Option (StringKind × ℕ)
one_letter a =
    choose (eqb a (code "r")) (λ _. Some (RawString, 1))
    (λ _. choose (eqb a (code "f")) (λ _. Some (FString, 1))
    (λ _. choose (eqb a (code "u")) (λ _. Some (Unicode, 1))
    (λ _. choose (eqb a (code "b")) (λ _. Some (Bytes, 1))
    (λ _. None))))

-- beside an r: f or b
unfoldable pub beside_r : ℕ → Option (StringKind × ℕ)
beside_r a = choose (eqb a (code "f")) (λ _. Some (RawFString, 2)) (λ _. choose (eqb a (code "b")) (λ _. Some (RawBytes, 2)) (λ _. None))

-- the prefixes rf, fr, rb and br
unfoldable pub two_letters : ℕ → ℕ → Option (StringKind × ℕ)
two_letters a b = choose (eqb a (code "r")) (λ _. beside_r b) (λ _. choose (eqb b (code "r")) (λ _. beside_r a) (λ _. None))

-- how a literal opens whose first characters these are: its kind, and how many characters stand before the quote
unfoldable pub opening_of : ℕ → ℕ → ℕ → Option (StringKind × ℕ)
opening_of a b c =
    choose (is_quote a) (λ _. Some (String, 0))
    (λ _. choose (is_quote b) (λ _. one_letter (lower a))
    (λ _. choose (is_quote c) (λ _. two_letters (lower a) (lower b))
    (λ _. None)))

-- n characters on
unfoldable pub ahead : ℕ → Place → Place
ahead zero p = p
ahead (suc n) p = ahead n (slid p)

-- how many characters the next one is: CR LF is one newline (Reference 2.1.2)
unfoldable pub length_of_next : List ℕ → ℕ
length_of_next l = choose (both (eqb (get_or l 0 no_char) (code "\r")) (eqb (get_or l 1 no_char) (code "\n"))) (λ _. 2) (λ _. 1)

-- whether three quotes q stand here
unfoldable pub triple_at : ℕ → List ℕ → Bool
triple_at q l = both (eqb (get_or l 0 no_char) q) (both (eqb (get_or l 1 no_char) q) (eqb (get_or l 2 no_char) q))

-- shortstringchar: a newline breaks off a literal that is not triple-quoted (code 28)
unfoldable pub breaks : Bool → ℕ → Bool
breaks true c = false
breaks false c = is_newline c

-- one quote or three end a literal
unfoldable pub closes : Bool → ℕ → List ℕ → Bool
closes true q l = triple_at q l
closes false q l = eqb (get_or l 0 no_char) q

-- how many quotes end a literal
abbrev pub quotes : Bool → ℕ
quotes true = 3
quotes false = 1

-- the end of the text in a literal: codes 21 and 20
unfoldable pub unclosed : Bool → Ending
unclosed true = Eof
unclosed false = StringError

-- the literal of a kind, in three quotes q or one, from its body on, after `skip` characters that a backslash takes along, in raw ones too
unfoldable pub body_from : StringKind → Bool → ℕ → ℕ → ℕ → List ℕ → Item
body_from k three q skip at [] = Error (unclosed three) at
body_from k three q (suc skip) at (c ∷ r) = body_from k three q skip (at + width c) r
body_from k three q zero at (c ∷ r) =
    choose (eqb c (code "\\")) (λ _. body_from k three q (length_of_next r) (at + width c) r)
    (λ _. choose (breaks three c) (λ _. Error EolInString (at + length_of_next (c ∷ r)))
    (λ _. choose (closes three q (c ∷ r)) (λ _. Tok (T.Str k three) (at + quotes three))
    (λ _. body_from k three q 0 (at + width c) r)))

-- the same from the place of its body
unfoldable pub body : StringKind → Bool → ℕ → Place → Item
body k three q p = body_from k three q 0 p.at p.rest

-- the literal of a kind whose opening quote stands here
unfoldable pub string_at : StringKind → Place → Item
string_at k p =
    let q = nth p 0 in
    choose (triple_at q p.rest) (λ _. body k true q (ahead 3 p)) (λ _. body k false q (ahead 1 p))
