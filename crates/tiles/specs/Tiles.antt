-- Document 02 items 1 and 8, "none is left out": records in order, and what lies between them.
use Rattle.std.specs.Prelude.{ℕ, ◌+◌, ◌≤◌, ◌≡◌, List, [], ◌∷◌, get_or}
use Prim.Native.Char.{code}
use Rattle.utf8.specs.Utf8.{no_byte}
use Rattle.records.specs.Records.{Spanned}
use Rattle.tiles.specs.Notes.{CommentIn, NewlineIn}

-- Reference 2.1.9 and 2.1.5: only spaces, tabs, form feeds and continuations, a backslash and one newline each
pub data Blank (t : List ℕ) : ℕ → ℕ → Type 0 where
  none : {i : ℕ} → Blank t i i
  space : {i j : ℕ} → get_or t i no_byte ≡ code " " → Blank t (i + 1) j → Blank t i j
  tab : {i j : ℕ} → get_or t i no_byte ≡ code "\t" → Blank t (i + 1) j → Blank t i j
  feed : {i j : ℕ} → get_or t i no_byte ≡ code "\u{c}" → Blank t (i + 1) j → Blank t i j
  join : {i j k : ℕ} → get_or t i no_byte ≡ code "\\" → NewlineIn t (i + 1) j → Blank t j k → Blank t i k

-- the same with comments and newlines between them: where records of kinds 7 and 8 are left out
pub data BlankOrNotes (t : List ℕ) : ℕ → ℕ → Type 0 where
  blank : {i j : ℕ} → Blank t i j → BlankOrNotes t i j
  comment : {i j k l : ℕ} → Blank t i j → CommentIn t j k → BlankOrNotes t k l → BlankOrNotes t i l
  newline : {i j k l : ℕ} → Blank t i j → NewlineIn t j k → BlankOrNotes t k l → BlankOrNotes t i l

-- records from one byte to another: each starts at or behind the end of the one before, and only a gap lies between
abbrev pub Tiled : (ℕ → ℕ → Type 0) → ℕ → List Spanned → ℕ → Type 0
Tiled Gap from [] to = Gap from to
Tiled Gap from (r ∷ rs) to = (from ≤ r.start) × (r.start ≤ r.end) × Gap from r.start × Tiled Gap r.end rs to
