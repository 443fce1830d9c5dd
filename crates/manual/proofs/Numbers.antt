-- "Numbers": numeric literals and their refusals.
-- Assumes nothing.
use Prim.Native.Char.{code}
use mathlib.Core.Path.{◌≡◌, refl}
use mathlib.Core.Bool.{true}
use Rattle.utf8.specs.Utf8.{decode_four}
use Rattle.utf8.specs.Chars.{decode_head, chars_from, width}
use Rattle.window.specs.Place.{slid_by, slid}
use Rattle.token.specs.declared.Token.TheVariants.{Int, Float, Complex}
use Rattle.token.specs.declared.Ending.TheVariants.{InvalidSyntax, InvalidDecimal, InvalidToken, NoDigits}
use Rattle.token.specs.declared.Item.TheVariants.{Tok, Error}
use Rattle.numbers.specs.Numbers.{digit_value, is_digit, in_run, digits_from, digits, is_letter, is_sign, at_exponent, float_end, exponent_digits, exponent_sign, exponent, after_fraction, fraction, integer, after_digits, normal_number, radix_number, radix_of, number_at}
use Rattle.manual.proofs.Texts.{start}

pub on_the_page : (is_digit 16 (code "f") ≡ true)
    × (number_at (start "1_0__0") ≡ Tok Int 3)
    × (number_at (start "0b12") ≡ Tok Int 3)
    × (number_at (start "00") ≡ Tok Int 2)
    × (number_at (start "0_7") ≡ Error InvalidToken 3)
    × (number_at (start "07j") ≡ Tok Complex 3)
    × (number_at (start "07.5") ≡ Tok Float 4)
    × (number_at (start "1_000j") ≡ Tok Complex 6)
    × (number_at (start "1.") ≡ Tok Float 2)
    × (number_at (start ".5j") ≡ Tok Complex 3)
    × (number_at (start "1._5") ≡ Error InvalidSyntax 1)
    × (number_at (start "1.5e+3") ≡ Tok Float 6)
    × (number_at (start "1.e") ≡ Error InvalidDecimal 3)
    × (number_at (start "1.5e_") ≡ Error InvalidSyntax 3)
    × (number_at (start "1.5e-_") ≡ Error InvalidSyntax 4)
    × (number_at (start "1e") ≡ Tok Int 1)
    × (number_at (start "1e_5") ≡ Tok Int 1)
    × (number_at (start "1e5") ≡ Tok Float 3)
    × (number_at (start "0xFf") ≡ Tok Int 4)
    × (number_at (start "0b") ≡ Error NoDigits 0)
unfolding decode_four decode_head chars_from width slid slid_by digit_value is_digit in_run digits_from digits is_letter is_sign at_exponent
    float_end exponent_digits exponent_sign exponent after_fraction fraction integer after_digits normal_number radix_number radix_of
    number_at
on_the_page = (refl, refl, refl, refl, refl, refl, refl, refl, refl, refl, refl, refl, refl, refl, refl, refl, refl, refl, refl, refl)
