-- "Strings" and "Others": what stands at a place after a line's blanks.
-- Assumes nothing.
use Prim.Native.Char.{code}
use mathlib.Core.Path.{◌≡◌, refl}
use mathlib.Core.List.{[], ◌∷◌}
use mathlib.Core.Bool.{true, false}
use Rattle.std.specs.Prelude.{Some, None}
use Rattle.utf8.specs.Utf8.{within, least_second, greatest_second, two_bytes, four_bytes, decode_four}
use Rattle.utf8.specs.Chars.{decode_head, chars_from, width, letters}
use Rattle.classes.specs.Ranges.{in_ranges}
use Rattle.classes.specs.Tables.{xid_start, xid_continue, emoji_presentation}
use Rattle.classes.specs.Classes.{is_identifier_start, is_identifier_continuation, is_emoji}
use Rattle.window.specs.Place.{place_at, slid_by, slid, next_char}
use Rattle.token.specs.Kinds.{name, rarrow, not_equal, dot, ellipsis, right_shift_equal, lambda, type}
use Rattle.token.specs.declared.StringKind.TheVariants.{String, FString, RawString, RawFString, RawBytes}
use Rattle.token.specs.declared.Token.TheVariants.{Newline, Name, Float, Comment, Str, Operator, Keyword}
use Rattle.token.specs.declared.Ending.TheVariants.{StringError, Eof, UnrecognizedToken, LineContinuationError, EolInString}
use Rattle.token.specs.declared.Item.TheVariants.{Tok, Gap, End, Error}
use Rattle.operators.specs.Operators.{before_equal, doubled, dash, exclamation, dots, single, longest_operator}
use Rattle.names.specs.Runs.{skip_from, skip_while, taken, is_newline, not_newline, is_blank}
use Rattle.names.specs.Names.{keywords, soft_keywords, number_in, kind_of_name, name_token, name_at}
use Rattle.strings.specs.Strings.{is_quote, lower, one_letter, beside_r, two_letters, opening_of, ahead, length_of_next, triple_at, breaks, closes, unclosed, body_from, body, string_at}
use Rattle.numbers.specs.Numbers.{digit_value, is_digit, in_run, digits_from, digits, is_letter, float_end, after_fraction, fraction, after_digits, normal_number, number_at}
use Rattle.lexer.specs.Items.{starts_number, joined_line, continuation, other_at, operator_at, normal_at, open_at, item_at}
use Rattle.manual.proofs.Texts.{start}

pub on_the_page :
    -- strings
    ((item_at (start "'a'") ≡ Tok (Str String false) 3)
    × (item_at (start "bR'a'") ≡ Tok (Str RawBytes false) 5)
    × (item_at (start "ur'a'") ≡ Tok Name 2)
    × (item_at (start "''a") ≡ Tok (Str String false) 2)
    × (item_at (start "'''\n'''") ≡ Tok (Str String true) 7)
    × (item_at (start "f'{x}'") ≡ Tok (Str FString false) 6)
    × (item_at (start "r'\\''") ≡ Tok (Str RawString false) 5)
    × (item_at (start "'\\\r\n'") ≡ Tok (Str String false) 5)
    × (item_at (start "'a\n'") ≡ Error EolInString 3)
    × (item_at (start "'a") ≡ Error StringError 2)
    × (item_at (start "'''a''") ≡ Error Eof 6))
    -- others, classes
    × ((item_at (start "") ≡ End)
    × (item_at (start " \t\u{c}x") ≡ Gap 3)
    × (item_at (start "# c\r\nx") ≡ Tok Comment 3)
    × (item_at (start "\r\nx") ≡ Tok Newline 2)
    × (item_at (start "\\\nx") ≡ Gap 2)
    × (item_at (start "\\x") ≡ Error LineContinuationError 1)
    × (item_at (start "\\\n") ≡ Error Eof 2)
    × (item_at (start "gold2 ") ≡ Tok Name 5)
    × (item_at (start "_") ≡ Tok Name 1)
    × (item_at (start "lambda:") ≡ Tok (Keyword lambda) 6)
    × (item_at (start "type") ≡ Tok (Keyword type) 4)
    × (kind_of_name (letters "False") ≡ 100)
    × (kind_of_name (letters "iff") ≡ name)
    × (item_at (start ".5") ≡ Tok Float 2)
    × (item_at (start "..") ≡ Tok (Operator dot) 1)
    × (item_at (start ">>=1") ≡ Tok (Operator right_shift_equal) 3)
    × (longest_operator (code "-") (code ">") (code "=") ≡ Some (rarrow, 2))
    × (item_at (start "!=") ≡ Tok (Operator not_equal) 2)
    × (item_at (start "!") ≡ Error (UnrecognizedToken (code "!")) 0)
    × (item_at (start "$") ≡ Error (UnrecognizedToken (code "$")) 1)
    × (item_at (place_at (0xf0 ∷ 0x9f ∷ 0x98 ∷ 0x80 ∷ []) 0) ≡ Tok Name 4))
unfolding within least_second greatest_second four_bytes decode_four decode_head chars_from width in_ranges xid_start xid_continue emoji_presentation is_identifier_start
    is_identifier_continuation is_emoji slid_by slid next_char before_equal doubled dash exclamation dots single longest_operator skip_from skip_while taken is_newline
    not_newline is_blank keywords soft_keywords number_in kind_of_name name_token name_at is_quote lower one_letter beside_r two_letters opening_of
    ahead length_of_next triple_at breaks closes unclosed body_from body string_at digit_value is_digit in_run digits_from digits is_letter float_end
    after_fraction fraction after_digits normal_number number_at starts_number joined_line continuation other_at operator_at normal_at open_at item_at
on_the_page = (
  (refl, refl, refl, refl, refl, refl, refl, refl, refl, refl, refl),
  (refl, refl, refl, refl, refl, refl, refl, refl, refl, refl, refl, refl, refl, refl, refl, refl, refl, refl, refl, refl, refl),
)

-- the end of the text behind a backslash, a lone CR, an é of two bytes; prefixes; three dots
pub besides : (item_at (start "'\\") ≡ Error StringError 2)
    × (item_at (start "'\ra") ≡ Error EolInString 2)
    × (item_at (place_at (0x27 ∷ 0xc3 ∷ 0xa9 ∷ 0x27 ∷ []) 0) ≡ Tok (Str String false) 4)
    × (opening_of (code "\"") (code "a") (code "a") ≡ Some (String, 0))
    × (opening_of (code "R") (code "\"") (code "a") ≡ Some (RawString, 1))
    × (opening_of (code "x") (code "\"") (code "'") ≡ None)
    × (opening_of (code "F") (code "r") (code "'") ≡ Some (RawFString, 2))
    × (opening_of (code "r") (code "b") (code "a") ≡ None)
    × (item_at (start "...") ≡ Tok (Operator ellipsis) 3)
unfolding within least_second greatest_second two_bytes decode_four decode_head chars_from width in_ranges xid_start is_identifier_start slid_by slid dots longest_operator is_newline
    is_blank is_quote lower one_letter beside_r two_letters opening_of ahead length_of_next triple_at breaks
    closes unclosed body_from body string_at digit_value is_digit starts_number operator_at normal_at open_at item_at
besides = (refl, refl, refl, refl, refl, refl, refl, refl, refl)
