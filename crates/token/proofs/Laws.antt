-- Between which numbers the kind of a string is; which codes and details endings have.
-- Assumes nothing.
use Prim.Native.Nat.{◌≤◌}
use mathlib.Core.Path.{◌≡◌, refl}
use native.Mathlib.Omega.{arith}
use Rattle.token.specs.Kinds as K
use Rattle.token.specs.declared.StringKind.{StringKind}
use Rattle.token.specs.declared.StringKind.TheVariants as S
use Rattle.token.specs.declared.Ending.{Ending}
use Rattle.token.specs.declared.Ending.TheVariants as E
use Rattle.token.specs.Codes.{string_kind, code_of, IsErrorCode, unrecognized, detail_of}

pub string_between : (k : StringKind) → (K.string ≤ string_kind k) × (string_kind k ≤ K.unicode)
unfolding string_kind
string_between S.String = (omega arith, omega arith)
string_between S.FString = (omega arith, omega arith)
string_between S.Bytes = (omega arith, omega arith)
string_between S.RawString = (omega arith, omega arith)
string_between S.RawFString = (omega arith, omega arith)
string_between S.RawBytes = (omega arith, omega arith)
string_between S.Unicode = (omega arith, omega arith)

-- an ending's code is one of 20 to 33, and its detail is 0 but for 26
pub ending_told : (w : Ending) → IsErrorCode (code_of w) × ((code_of w ≡ unrecognized → ⊥) → detail_of w ≡ 0)
unfolding code_of detail_of
ending_told E.StringError = ((omega arith, omega arith), λ _. refl)
ending_told E.Eof = ((omega arith, omega arith), λ _. refl)
ending_told E.NestingError = ((omega arith, omega arith), λ _. refl)
ending_told E.IndentationError = ((omega arith, omega arith), λ _. refl)
ending_told E.TabError = ((omega arith, omega arith), λ _. refl)
ending_told E.TabsAfterSpaces = ((omega arith, omega arith), λ _. refl)
ending_told (E.UnrecognizedToken c) = ((omega arith, omega arith), λ n. absurd (n refl))
ending_told E.LineContinuationError = ((omega arith, omega arith), λ _. refl)
ending_told E.EolInString = ((omega arith, omega arith), λ _. refl)
ending_told E.InvalidSyntax = ((omega arith, omega arith), λ _. refl)
ending_told E.InvalidDecimal = ((omega arith, omega arith), λ _. refl)
ending_told E.InvalidToken = ((omega arith, omega arith), λ _. refl)
ending_told E.NoDigits = ((omega arith, omega arith), λ _. refl)
ending_told E.TooDeep = ((omega arith, omega arith), λ _. refl)
