-- Numeric literals: Reference 2.4.4 to 2.4.7, with the refusals of document 01 "Numbers"; the original's `lex_number`, and what it calls.
use Rattle.std.specs.Prelude.{ℕ, ◌+◌, ◌-◌, List, [], ◌∷◌, Bool, false, true, get_or, eqb, ltb, leb}
use Prim.Native.Char.{code}
use Rattle.choice.specs.Choice.{choose}
use Rattle.utf8.specs.Chars.{width, no_char, case_distance}
use Rattle.window.specs.Place.{Place, nth, slid, window}
use Rattle.token.specs.declared.Token.TheVariants.{Int, Float, Complex}
use Rattle.token.specs.declared.Ending.TheVariants.{InvalidSyntax, InvalidDecimal, InvalidToken, NoDigits}
use Rattle.token.specs.declared.Item.{Item}
use Rattle.token.specs.declared.Item.TheVariants.{Tok, Error}

-- Reference 2.4.5, digit and hexdigit: what a digit counts, `A` and `a` ten; 16 for what is none
unfoldable pub digit_value : ℕ → ℕ
digit_value c =
    choose (ltb c (code "0")) (λ _. 16)
    (λ _. choose (leb c (code "9")) (λ _. c - code "0")
    (λ _. choose (ltb c (code "A")) (λ _. 16)
    (λ _. choose (leb c (code "F")) (λ _. c - (code "A" - 10))
    (λ _. choose (ltb c (code "a")) (λ _. 16)
    (λ _. choose (leb c (code "f")) (λ _. c - (code "a" - 10))
    (λ _. 16))))))

-- Reference 2.4.5, the original's `is_digit_of_radix`: a digit of a radix; of radix 1, which is ours, only the zero is one
unfoldable pub is_digit : ℕ → ℕ → Bool
is_digit radix c = ltb (digit_value c) radix

-- Reference 2.4.5, document 01 "Numbers", the original's `radix_run`: a run goes on over a digit, and over an underscore before a digit
unfoldable pub in_run : ℕ → ℕ → ℕ → Bool
in_run radix c next =
    choose (is_digit radix c) (λ _. true) (λ _. choose (eqb c (code "_")) (λ _. is_digit radix next) (λ _. false))

-- Reference 2.4.5: the end of a run of digits
unfoldable pub digits_from : ℕ → ℕ → List ℕ → Place
digits_from radix at [] = record { at = at; rest = [] }
digits_from radix at (c ∷ r) =
    choose (in_run radix c (get_or r 0 no_char)) (λ _. digits_from radix (at + width c) r) (λ _. record { at = at; rest = c ∷ r })

-- the same from a place
unfoldable pub digits : ℕ → Place → Place
digits radix p = digits_from radix p.at p.rest

-- Reference 2.4.5 to 2.4.7: a letter in either case
unfoldable pub is_letter : ℕ → ℕ → Bool
is_letter small c = choose (eqb c small) (λ _. true) (λ _. eqb c (small - case_distance))

-- Reference 2.4.6, exponent: "+" | "-"
unfoldable pub is_sign : ℕ → Bool
is_sign c = choose (eqb c (code "+")) (λ _. true) (λ _. eqb c (code "-"))

-- document 01 "Numbers", the original's `at_exponent`: with no dot, an `e` without digits starts a name; `w` are the three
-- characters ahead
unfoldable pub at_exponent : List ℕ → Bool
at_exponent w =
    choose (is_letter (code "e") (get_or w 0 0))
    (λ _. choose (is_sign (get_or w 1 0)) (λ _. is_digit 10 (get_or w 2 0)) (λ _. is_digit 10 (get_or w 1 0)))
    (λ _. false)

-- Reference 2.4.7, imagnumber: at a float's end a `j` may follow
unfoldable pub float_end : Place → Item
float_end p = choose (is_letter (code "j") (nth p 0)) (λ _. Tok Complex (slid p).at) (λ _. Tok Float p.at)

-- Reference 2.4.6, exponent: at its digits, of which there must be one (code 30)
unfoldable pub exponent_digits : Place → Item
exponent_digits p = choose (eqb (digits 10 p).at p.at) (λ _. Error InvalidDecimal p.at) (λ _. float_end (digits 10 p))

-- Reference 2.4.6, exponent: after its letter a sign may follow, but no underscore after the sign (code 29)
unfoldable pub exponent_sign : Place → Item
exponent_sign p =
    choose (is_sign (nth p 0))
    (λ _. choose (eqb (nth p 1) (code "_")) (λ _. Error InvalidSyntax p.at) (λ _. exponent_digits (slid p)))
    (λ _. exponent_digits p)

-- Reference 2.4.6, exponent: at its letter, which no underscore may follow (code 29)
unfoldable pub exponent : Place → Item
exponent p = choose (eqb (nth p 1) (code "_")) (λ _. Error InvalidSyntax p.at) (λ _. exponent_sign (slid p))

-- document 01 "Numbers", the original's `lex_normal_number`: after a fraction's digits an exponent is taken without looking for its digits
unfoldable pub after_fraction : Place → Item
after_fraction p = choose (is_letter (code "e") (nth p 0)) (λ _. exponent p) (λ _. float_end p)

-- Reference 2.4.6, fraction: at its dot, which no underscore may follow (code 29)
unfoldable pub fraction : Place → Item
fraction p = choose (eqb (nth p 1) (code "_")) (λ _. Error InvalidSyntax p.at) (λ _. after_fraction (digits 10 (slid p)))

-- Reference 2.4.5, decinteger: one that starts with 0 at `p` and whose zeros end before its digits do at `e` is no number (code 31)
unfoldable pub integer : Place → Place → Item
integer p e =
    choose (eqb (nth p 0) (code "0"))
    (λ _. choose (eqb (digits 1 p).at e.at) (λ _. Tok Int e.at) (λ _. Error InvalidToken e.at))
    (λ _. Tok Int e.at)

-- Reference 2.4.5 to 2.4.7: a literal that starts at `p`, after its first digits, which end at `e`
unfoldable pub after_digits : Place → Place → Item
after_digits p e =
    choose (eqb (nth e 0) (code ".")) (λ _. fraction e)
    (λ _. choose (at_exponent (window e)) (λ _. exponent e)
    (λ _. choose (is_letter (code "j") (nth e 0)) (λ _. Tok Complex (slid e).at)
    (λ _. integer p e)))

-- Reference 2.4.5 to 2.4.7, the original's `lex_normal_number`: a literal with no radix letter
unfoldable pub normal_number : Place → Item
normal_number p = after_digits p (digits 10 p)

-- Reference 2.4.5, bininteger, octinteger, hexinteger, the original's `lex_number_radix`: after the letter a run of digits of the radix;
-- one of no length is refused at the literal's `start` (code 32)
unfoldable pub radix_number : ℕ → ℕ → Place → Item
radix_number radix start p =
    choose (eqb (digits radix p).at p.at) (λ _. Error NoDigits start) (λ _. Tok Int (digits radix p).at)

-- Reference 2.4.5: the radix that the letter after a 0 names, 0 for another character
unfoldable pub radix_of : ℕ → ℕ
radix_of c =
    choose (is_letter (code "x") c) (λ _. 16)
    (λ _. choose (is_letter (code "o") c) (λ _. 8)
    (λ _. choose (is_letter (code "b") c) (λ _. 2)
    (λ _. 0)))

-- Reference 2.4.4, the original's `lex_number`: the numeric literal at a place
unfoldable pub number_at : Place → Item
number_at p =
    choose (eqb (nth p 0) (code "0"))
    (λ _. choose (eqb (radix_of (nth p 1)) 0) (λ _. normal_number p) (λ _. radix_number (radix_of (nth p 1)) p.at (slid (slid p))))
    (λ _. normal_number p)
