-- Document 01 "What crosses over" and "What comes back", document 02 item 4: a token with its places, a record, and the two shapes of
-- what is lent: a row of numbers, four per record, and a list of records, which is looked at as the row of its numbers.
use Rattle.std.specs.Prelude.{ℕ, zero, suc, ◌+◌, ◌*◌, ◌/◌, List, [], ◌∷◌, ◌++◌, length, get_or, set}
use Rattle.token.specs.declared.Record.{Record}
use Rattle.token.specs.declared.Token.{Token}
use Rattle.token.specs.Codes.{kind_of}
use Rattle.lines.specs.Lines.{line_at}

-- what a reading lists, the original's `Spanned`: a kind, and the bytes where it starts and ends
pub record Spanned : Type 0 where
  pub kind : ℕ
  pub start : ℕ
  pub end : ℕ

-- one by its parts
abbrev pub spanned : ℕ → ℕ → ℕ → Spanned
spanned k s e = record { kind = k; start = s; end = e }

-- one of a token: its kind is that of the token
abbrev pub spanned_of : Token → ℕ → ℕ → Spanned
spanned_of k s e = spanned (kind_of k) s e

-- one with a number added to both places
abbrev pub moved_by : ℕ → Spanned → Spanned
moved_by n x = spanned x.kind (n + x.start) (n + x.end)

-- a record: a kind, the bytes where it starts and ends, and its line
abbrev pub rec : ℕ → ℕ → ℕ → ℕ → Record
rec k s e l = record { kind = k; start = s; end = e; line = l }

-- document 02 item 4: the record of what is listed of a text: the start is added to both places, and the line is that of its first byte
abbrev pub record_in : List ℕ → ℕ → Spanned → Record
record_in t start x = rec x.kind (start + x.start) (start + x.end) (line_at t x.start)

-- what a record says but for its line
abbrev pub span_of : Record → Spanned
span_of r = spanned r.kind r.start r.end

-- the numbers of a record, in their order
abbrev pub record_numbers : Record → List ℕ
record_numbers r = r.kind ∷ r.start ∷ r.end ∷ r.line ∷ []

-- how many they are
abbrev pub stride : ℕ
stride = 4

-- how many records so many numbers hold
abbrev pub room_of : ℕ → ℕ
room_of n = n / stride

-- how many records a row holds
abbrev pub room : List ℕ → ℕ
room row = room_of (length row)

-- the record at an index of a row
unfoldable pub rec_at : List ℕ → ℕ → Record
rec_at row i = rec (get_or row (stride * i) 0) (get_or row (stride * i + 1) 0) (get_or row (stride * i + 2) 0) (get_or row (stride * i + 3) 0)

-- so many records from an index on
unfoldable pub recs_in : List ℕ → ℕ → ℕ → List Record
recs_in row i zero = []
recs_in row i (suc n) = rec_at row i ∷ recs_in row (i + 1) n

-- a record written at its index in a row
unfoldable pub set_rec : List ℕ → ℕ → Record → List ℕ
set_rec row i r = set (set (set (set row (stride * i) r.kind) (stride * i + 1) r.start) (stride * i + 2) r.end) (stride * i + 3) r.line

-- what is listed of a text, written as its record
abbrev pub put1 : List ℕ → ℕ → List ℕ → ℕ → Spanned → List ℕ
put1 t start row i x = set_rec row i (record_in t start x)

-- one after another
unfoldable pub puts : List ℕ → ℕ → List ℕ → ℕ → List Spanned → List ℕ
puts t start row i [] = row
puts t start row i (x ∷ xs) = puts t start (put1 t start row i x) (i + 1) xs

-- the row of a list
unfoldable pub flat : List Record → List ℕ
flat [] = []
flat (r ∷ rs) = record_numbers r ++ flat rs
