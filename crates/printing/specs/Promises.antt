-- What is printed: which records, and the bytes of their lines and of an answer's. Standard output does not say what it holds, so that of
-- the bytes that reach it nothing is said (docs/DECISIONS.md).
use Rattle.std.specs.Prelude.{ℕ, zero, suc, eqb, min, List, [], ◌∷◌, ◌++◌}
use Prim.Native.Char.{code}
use Rattle.std.specs.Fmt.{decimal}
use Rattle.choice.specs.Choice.{choose}
use Rattle.token.specs.declared.Record.{Record}
use Rattle.records.specs.Records.{rec_at, room}
use Rattle.answers.specs.declared.Answer.{Answer}
use Rattle.answers.specs.Answers.{no_room}

-- how many records are printed beside an answer: those that it counts, as far as the row has room for them; code 4 counts records that
-- are needed, and none is written
unfoldable pub printed : ℕ → Answer → ℕ
printed room a = choose (eqb a.code no_room) (λ _. 0) (λ _. min room a.count)

-- four numbers in decimal, with a space between, and a newline
abbrev pub line : ℕ → ℕ → ℕ → ℕ → List ℕ
line a b c d = decimal a ++ (code " " ∷ (decimal b ++ (code " " ∷ (decimal c ++ (code " " ∷ (decimal d ++ (code "\n" ∷ [])))))))

-- the line of a record, and that of an answer
abbrev pub record_line : Record → List ℕ
record_line r = line r.kind r.start r.end r.line

abbrev pub answer_line : Answer → List ℕ
answer_line a = line a.code a.count a.place a.detail

-- the lines of a row's first records
unfoldable pub record_lines : List ℕ → ℕ → List ℕ
record_lines row zero = []
record_lines row (suc n) = record_lines row n ++ record_line (rec_at row n)

-- what is printed of a row and an answer
abbrev pub lines : List ℕ → Answer → List ℕ
lines row a = record_lines row (printed (room row) a) ++ answer_line a
