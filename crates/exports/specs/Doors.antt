-- The doors for C and Rust: their version, and a character's classes in one number.
use Rattle.std.specs.Prelude.{ℕ, ◌+◌, Bool, true, false}
use Rattle.classes.specs.Classes.{is_identifier_start, is_identifier_continuation, is_emoji}

-- the version of these doors, so that a caller can tell whether it was built for them
abbrev pub version : ℕ
version = 5

-- a number where a test holds, else 0
abbrev pub bit : Bool → ℕ → ℕ
bit true n = n
bit false n = 0

-- 1 for a start of identifiers, 2 for a continuation, 4 for an emoji, added up
unfoldable pub class_of : ℕ → ℕ
class_of c = bit (is_identifier_start c) 1 + bit (is_identifier_continuation c) 2 + bit (is_emoji c) 4
