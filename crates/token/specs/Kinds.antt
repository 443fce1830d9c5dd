-- Document 01 "What crosses over": the kinds by their names, those of the original's `Tok` and `StringKind`, and the number of each.
-- Document 02 item 1 adds 7 and 8.
use Rattle.std.specs.Prelude.{ℕ}

-- Reference 2.1.1: the end of a logical line
abbrev pub newline : ℕ
newline = 0

-- Reference 2.1.8: the blanks of a line that opens a level
abbrev pub indent : ℕ
indent = 1

-- Reference 2.1.8: a level closes; it covers no byte
abbrev pub dedent : ℕ
dedent = 2

-- Reference 2.3: an identifier that is no keyword; by the original an emoji too
abbrev pub name : ℕ
name = 3

-- Reference 2.4.5: an integer
abbrev pub int : ℕ
int = 4

-- Reference 2.4.6: a floating point number
abbrev pub float : ℕ
float = 5

-- Reference 2.4.7: an imaginary number
abbrev pub complex : ℕ
complex = 6

-- Reference 2.1.3: a comment, which the original lists with its feature full-lexer (document 02 item 1)
abbrev pub comment : ℕ
comment = 7

-- Reference 2.1.6 and 2.1.7: a newline that ends no logical line, listed with the same feature
abbrev pub non_logical_newline : ℕ
non_logical_newline = 8

-- Reference 2.4.1: a string without a prefix; letters of a prefix may be in either case, and two of them in either order
abbrev pub string : ℕ
string = 10

-- f (Reference 2.4.3)
abbrev pub f_string : ℕ
f_string = 11

-- b
abbrev pub bytes : ℕ
bytes = 12

-- r
abbrev pub raw_string : ℕ
raw_string = 13

-- rf, fr
abbrev pub raw_f_string : ℕ
raw_f_string = 14

-- rb, br
abbrev pub raw_bytes : ℕ
raw_bytes = 15

-- u
abbrev pub unicode : ℕ
unicode = 16

-- Reference 2.4.1, longstring and longbytes: three quotes instead of one add so much
abbrev pub tripled : ℕ
tripled = 7

-- Reference 2.5 and 2.6: operators and delimiters, by the original's names and in document 01's order
-- `=`
abbrev pub equal : ℕ
equal = 30

-- `==`
abbrev pub eq_equal : ℕ
eq_equal = 31

-- `+`
abbrev pub plus : ℕ
plus = 32

-- `+=`
abbrev pub plus_equal : ℕ
plus_equal = 33

-- `*`
abbrev pub star : ℕ
star = 34

-- `*=`
abbrev pub star_equal : ℕ
star_equal = 35

-- `**`
abbrev pub double_star : ℕ
double_star = 36

-- `**=`
abbrev pub double_star_equal : ℕ
double_star_equal = 37

-- `/`
abbrev pub slash : ℕ
slash = 38

-- `/=`
abbrev pub slash_equal : ℕ
slash_equal = 39

-- `//`
abbrev pub double_slash : ℕ
double_slash = 40

-- `//=`
abbrev pub double_slash_equal : ℕ
double_slash_equal = 41

-- `%`
abbrev pub percent : ℕ
percent = 42

-- `%=`
abbrev pub percent_equal : ℕ
percent_equal = 43

-- `|`
abbrev pub vbar : ℕ
vbar = 44

-- `|=`
abbrev pub vbar_equal : ℕ
vbar_equal = 45

-- `^`
abbrev pub circumflex : ℕ
circumflex = 46

-- `^=`
abbrev pub circumflex_equal : ℕ
circumflex_equal = 47

-- `&`
abbrev pub amper : ℕ
amper = 48

-- `&=`
abbrev pub amper_equal : ℕ
amper_equal = 49

-- `-`
abbrev pub minus : ℕ
minus = 50

-- `-=`
abbrev pub minus_equal : ℕ
minus_equal = 51

-- `->`
abbrev pub rarrow : ℕ
rarrow = 52

-- `@`
abbrev pub at : ℕ
at = 53

-- `@=`
abbrev pub at_equal : ℕ
at_equal = 54

-- `!=`
abbrev pub not_equal : ℕ
not_equal = 55

-- `~`
abbrev pub tilde : ℕ
tilde = 56

-- `(`
abbrev pub lpar : ℕ
lpar = 57

-- `)`
abbrev pub rpar : ℕ
rpar = 58

-- `[`
abbrev pub lsqb : ℕ
lsqb = 59

-- `]`
abbrev pub rsqb : ℕ
rsqb = 60

-- `{`
abbrev pub lbrace : ℕ
lbrace = 61

-- `}`
abbrev pub rbrace : ℕ
rbrace = 62

-- `:`
abbrev pub colon : ℕ
colon = 63

-- `:=`
abbrev pub colon_equal : ℕ
colon_equal = 64

-- `;`
abbrev pub semi : ℕ
semi = 65

-- `<`
abbrev pub less : ℕ
less = 66

-- `<<`
abbrev pub left_shift : ℕ
left_shift = 67

-- `<<=`
abbrev pub left_shift_equal : ℕ
left_shift_equal = 68

-- `<=`
abbrev pub less_equal : ℕ
less_equal = 69

-- `>`
abbrev pub greater : ℕ
greater = 70

-- `>>`
abbrev pub right_shift : ℕ
right_shift = 71

-- `>>=`
abbrev pub right_shift_equal : ℕ
right_shift_equal = 72

-- `>=`
abbrev pub greater_equal : ℕ
greater_equal = 73

-- `,`
abbrev pub comma : ℕ
comma = 74

-- `.`
abbrev pub dot : ℕ
dot = 75

-- `...`
abbrev pub ellipsis : ℕ
ellipsis = 76

-- Reference 2.3.1: `False`, the first of the 35 keywords, which are numbered in ASCII order
abbrev pub first_keyword : ℕ
first_keyword = 100

-- `lambda`, the one keyword that the second pass looks for
abbrev pub lambda : ℕ
lambda = 124

-- Reference 2.3.2: the first soft keyword; they are numbered in the order of their list
abbrev pub first_soft : ℕ
first_soft = 140

-- `match`
abbrev pub match : ℕ
match = first_soft

-- `case`
abbrev pub case : ℕ
case = 141

-- `type`: a soft keyword by the original and by the Reference of 3.12, not of 3.11
abbrev pub type : ℕ
type = 142
