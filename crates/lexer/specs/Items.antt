-- Reference 2.1 to 2.6, document 01 "Reading rules", the original's `consume_normal` and `consume_character`: what stands at a place after
-- a line's blanks.
use Rattle.std.specs.Prelude.{ℕ, ◌+◌, Bool, true, false, eqb, Option, Some, None}
use Prim.Native.Char.{code}
use Rattle.choice.specs.Choice.{choose}
use Rattle.utf8.specs.Chars.{no_char}
use Rattle.window.specs.Place.{Place, nth, slid, next_char}
use Rattle.classes.specs.Classes.{is_identifier_start, is_emoji}
use Rattle.token.specs.declared.StringKind.{StringKind}
use Rattle.token.specs.declared.Item.{Item}
use Rattle.token.specs.declared.Item.TheVariants.{Tok, Gap, End, Error}
use Rattle.token.specs.declared.Token.TheVariants as N
use Rattle.token.specs.declared.Ending.TheVariants.{Eof, UnrecognizedToken, LineContinuationError}
use Rattle.names.specs.Runs.{skip_while, is_newline, not_newline, is_blank}
use Rattle.names.specs.Names.{name_at}
use Rattle.strings.specs.Strings.{opening_of, ahead, string_at}
use Rattle.numbers.specs.Numbers.{is_digit, number_at}
use Rattle.operators.specs.Operators.{longest_operator}

-- Reference 2.4.5 and 2.4.6: a digit, or a dot before a digit
unfoldable pub starts_number : ℕ → ℕ → Bool
starts_number a b = choose (is_digit 10 a) (λ _. true) (λ _. choose (eqb a (code ".")) (λ _. is_digit 10 b) (λ _. false))

-- Reference 2.1.5, document 01 "Others": behind a backslash and its newline, which join two lines; text has to follow (code 21)
unfoldable pub joined_line : Place → Item
joined_line p = choose (eqb (nth p 0) no_char) (λ _. Error Eof p.at) (λ _. Gap p.at)

-- Reference 2.1.5, document 01 "Others": at a backslash, which a newline has to follow (code 27)
unfoldable pub continuation : Place → Item
continuation p =
    choose (is_newline (nth p 1)) (λ _. joined_line (next_char (slid p))) (λ _. Error LineContinuationError (slid p).at)

-- Reference 2.1.3, 2.1.2 and 2.1.5: a comment, a newline, a backslash. By the original (document 01 "Others" and "Classes") an emoji is a
-- name; what no token starts with is code 26, behind it, and for a `!` at it
unfoldable pub other_at : Place → Item
other_at p =
    choose (eqb (nth p 0) (code "#")) (λ _. Tok N.Comment (skip_while not_newline p).at)
    (λ _. choose (is_newline (nth p 0)) (λ _. Tok N.Newline (next_char p).at)
    (λ _. choose (eqb (nth p 0) (code "\\")) (λ _. continuation p)
    (λ _. choose (eqb (nth p 0) (code "!")) (λ _. Error (UnrecognizedToken (code "!")) p.at)
    (λ _. choose (is_emoji (nth p 0)) (λ _. Tok N.Name (slid p).at)
    (λ _. Error (UnrecognizedToken (nth p 0)) (slid p).at)))))

-- Reference 2.5 and 2.6: an operator or a delimiter; else what is left
unfoldable pub operator_at : Place → Option (ℕ × ℕ) → Item
operator_at p (Some (k, n)) = Tok (N.Operator k) (p.at + n)
operator_at p None = other_at p

-- the longest operator that the three characters ahead begin, or something else
abbrev pub operator_or_other : Place → Item
operator_or_other p = operator_at p (longest_operator (nth p 0) (nth p 1) (nth p 2))

-- Reference 2.3 and 2.4.4: a name or a number; else an operator
unfoldable pub normal_at : Place → Item
normal_at p =
    choose (is_identifier_start (nth p 0)) (λ _. name_at p)
    (λ _. choose (starts_number (nth p 0) (nth p 1)) (λ _. number_at p)
    (λ _. operator_or_other p))

-- Reference 2.4.1: a string, with its prefix; else a name, a number or an operator
unfoldable pub open_at : Place → Option (StringKind × ℕ) → Item
open_at p (Some (k, n)) = string_at k (ahead n p)
open_at p None = normal_at p

-- the end of the text, blanks between tokens (Reference 2.1.9), or a token
unfoldable pub item_at : Place → Item
item_at p =
    choose (eqb (nth p 0) no_char) (λ _. End)
    (λ _. choose (is_blank (nth p 0)) (λ _. Gap (skip_while is_blank p).at)
    (λ _. open_at p (opening_of (nth p 0) (nth p 1) (nth p 2))))
