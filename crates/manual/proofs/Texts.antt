-- What the examples of docs/DEFINITION.md are written with. A text of ASCII is a string: its characters are its bytes.
use Prim.Native.Nat.{ℕ, zero, suc, ◌*◌}
use Prim.Native.String.{String}
use mathlib.Core.List.{List, [], ◌∷◌}
use Rattle.utf8.specs.Chars.{letters}
use Rattle.window.specs.Place.{Place, place_at}
use Rattle.token.specs.declared.Record.{Record}
use Rattle.records.specs.Records.{stride, rec_at, recs_in}
use Rattle.reading.specs.Answers.{measure_answer, read_answer, read_row}
use Rattle.rereading.specs.Rereads.{reread_answer, reread_row}
use Rattle.edit_theorem.specs.Calls.{ReadCall, RereadCall}

-- the first place of a text
abbrev pub start : String → Place
start s = place_at (letters s) 0

-- a row of so many zeros
abbrev pub zeros : ℕ → List ℕ
zeros zero = []
zeros (suc n) = 0 ∷ zeros n

-- so many numbers in their order, the first one given; from 7000 on, those of a row that no record of an example has
abbrev pub numbers_from : ℕ → ℕ → List ℕ
numbers_from first zero = []
numbers_from first (suc n) = first ∷ numbers_from (suc first) n

-- the records that a text has in a mode, read at start 0 into a row with room for them
abbrev pub records : ℕ → String → List Record
records mode s =
    let t = letters s in
    let n = (measure_answer t mode 0).count in
    recs_in (read_row t mode 0 (zeros (stride * n))) 0 n

-- the kind of the first of them
abbrev pub first_kind : ℕ → String → ℕ
first_kind mode s = (rec_at (read_row (letters s) mode 0 (zeros 99)) 0).kind

-- a text read in mode 0 at start 0 into a row
abbrev pub read_of : String → List ℕ → ReadCall ℕ
read_of s row = let t = letters s in record { text = t; mode = 0; start = 0; lent = row; answer = read_answer t 0 0 row; left = read_row t 0 0 row }

-- another text read again behind it, with so many first bytes in common
abbrev pub reread_of : String → ℕ → ReadCall ℕ → RereadCall ℕ
reread_of s a old =
    let t = letters s in
    let n = old.answer.count in
    record { text = t; mode = 0; lent = old.left; count = n; common = a; answer = reread_answer t 0 old.left n a; left = reread_row t 0 old.left n a }
