-- Document 01 "What crosses over" and "What comes back": the kind of each token, and the code and detail of each ending, by which an error
-- ends a reading.
use Rattle.std.specs.Prelude.{ℕ, ◌+◌, ◌≤◌, true, false}
use Rattle.token.specs.Kinds as K
use Rattle.token.specs.declared.StringKind.{StringKind}
use Rattle.token.specs.declared.StringKind.TheVariants as S
use Rattle.token.specs.declared.Token.{Token}
use Rattle.token.specs.declared.Token.TheVariants as T
use Rattle.token.specs.declared.Ending.{Ending}
use Rattle.token.specs.declared.Ending.TheVariants as E

-- Reference 2.4.1, the original's `StringKind`: the kind of a string by its prefix: none, f, b, r, rf, rb, u
unfoldable pub string_kind : StringKind → ℕ
string_kind S.String = K.string
string_kind S.FString = K.f_string
string_kind S.Bytes = K.bytes
string_kind S.RawString = K.raw_string
string_kind S.RawFString = K.raw_f_string
string_kind S.RawBytes = K.raw_bytes
string_kind S.Unicode = K.unicode

-- the kind of a token; an operator and a keyword carry theirs
abbrev pub kind_of : Token → ℕ
kind_of T.Newline = K.newline
kind_of T.Indent = K.indent
kind_of T.Dedent = K.dedent
kind_of T.Name = K.name
kind_of T.Int = K.int
kind_of T.Float = K.float
kind_of T.Complex = K.complex
kind_of T.Comment = K.comment
kind_of T.NonLogicalNewline = K.non_logical_newline
kind_of (T.Str k true) = string_kind k + K.tripled
kind_of (T.Str k false) = string_kind k
kind_of (T.Operator n) = n
kind_of (T.Keyword n) = n

-- document 01 "What comes back": the first code of an ending, the last, and the one that tells a character
abbrev pub first_error_code : ℕ
first_error_code = 20

abbrev pub last_error_code : ℕ
last_error_code = 33

abbrev pub unrecognized : ℕ
unrecognized = 26

-- the original's `LexicalErrorType` is 20 to 27, and what its `OtherError` says 28 to 32; document 01 adds 33
unfoldable pub code_of : Ending → ℕ
code_of E.StringError = first_error_code
code_of E.Eof = 21
code_of E.NestingError = 22
code_of E.IndentationError = 23
code_of E.TabError = 24
code_of E.TabsAfterSpaces = 25
code_of (E.UnrecognizedToken c) = unrecognized
code_of E.LineContinuationError = 27
code_of E.EolInString = 28
code_of E.InvalidSyntax = 29
code_of E.InvalidDecimal = 30
code_of E.InvalidToken = 31
code_of E.NoDigits = 32
code_of E.TooDeep = last_error_code

-- so an error's code is one of 20 to 33
abbrev pub IsErrorCode : ℕ → Type 0
IsErrorCode c = (first_error_code ≤ c) × (c ≤ last_error_code)

-- document 01 "What comes back": the character's number for 26, otherwise 0
unfoldable pub detail_of : Ending → ℕ
detail_of E.StringError = 0
detail_of E.Eof = 0
detail_of E.NestingError = 0
detail_of E.IndentationError = 0
detail_of E.TabError = 0
detail_of E.TabsAfterSpaces = 0
detail_of (E.UnrecognizedToken c) = c
detail_of E.LineContinuationError = 0
detail_of E.EolInString = 0
detail_of E.InvalidSyntax = 0
detail_of E.InvalidDecimal = 0
detail_of E.InvalidToken = 0
detail_of E.NoDigits = 0
detail_of E.TooDeep = 0
