-- A frame of the fixed list, and whether a reading answers as it says. The form of a frame stands at the head of
-- oracle/answers/src/bin/make-list.rs: nine numbers, the text, the records.
use Rattle.std.specs.Prelude.{ℕ, ◌+◌, ◌*◌, ◌/◌, min, ◌≡◌, ◌⊎◌, List, [], ◌∷◌, Bool, true, false, length, get_or, take, replicate, ltb, eqb, ◌&&◌}
use Rattle.choice.specs.Choice.{choose, both}
use Rattle.records.specs.Records.{stride}
use Rattle.answers.specs.declared.Answer.{Answer}
use Rattle.reading.specs.Answers.{read_answer, read_row}
use Rattle.answers.specs.Answers.{answer}
use Rattle.replay.specs.declared.Outcome.{Outcome}
use Rattle.replay.specs.declared.Outcome.TheVariants.{Same, Different, Cut, Over}

-- the number that four bytes hold, the lowest first
abbrev pub word : ℕ → ℕ → ℕ → ℕ → ℕ
word a b c d = a + 256 * (b + 256 * (c + 256 * d))

-- the number of the four bytes from a place on; 0 where they are not all there
unfoldable pub number_at : List ℕ → ℕ → ℕ
number_at b at = choose (ltb (length b) (at + 4)) (λ _. 0) (λ _. word (get_or b at 0) (get_or b (at + 1) 0) (get_or b (at + 2) 0) (get_or b (at + 3) 0))

-- a record's bytes in the list: four a number
abbrev pub record_bytes : ℕ
record_bytes = 4 * stride

-- what a row holds before a reading, to see that the rest of it stays as it was
abbrev pub filled : ℕ
filled = 0xa5a5a5a5

-- the number that a row must hold at an index: that of the records' bytes, and behind them what it was filled with
unfoldable pub due_at : List ℕ → ℕ → ℕ
due_at records i = choose (ltb i (length records / 4)) (λ _. number_at records (4 * i)) (λ _. filled)

-- the numbers of a row, the first of which has the index i, are as they must be
unfoldable pub due_from : List ℕ → ℕ → List ℕ → Bool
due_from records i [] = true
due_from records i (n ∷ row) = choose (eqb n (due_at records i)) (λ _. due_from records (i + 1) row) (λ _. false)

-- a row holds the records, and nothing new behind them
unfoldable pub is_held : List ℕ → List ℕ → Bool
is_held records row = choose (ltb (length row) (length records / 4)) (λ _. false) (λ _. due_from records 0 row)

-- the answer in a frame's head
unfoldable pub answer_in : List ℕ → Answer
answer_in head = answer (number_at head 20) (number_at head 24) (number_at head 28) (number_at head 32)

-- two answers are the same
abbrev pub is_same : Answer → Answer → Bool
is_same a b = eqb a.code b.code && (eqb a.count b.count && (eqb a.place b.place && eqb a.detail b.detail))

-- a reading of a frame's text, in its mode, at its start and into a row, answers as the frame says
unfoldable pub agreed : List ℕ → List ℕ → List ℕ → List ℕ → Bool
agreed head text records row =
    both (is_same (read_answer text (number_at head 0) (number_at head 4) row) (answer_in head)) (is_held records (read_row text (number_at head 0) (number_at head 4) row))

-- what comes of a question that came whole: whether the answers agree or differ
unfoldable pub verdict : Bool → Outcome
verdict b = choose b (λ _. Same) (λ _. Different)

-- a row of so many numbers, filled
abbrev pub fresh : ℕ → List ℕ
fresh n = replicate n filled

-- what comes of a frame whose text and records were read: the verdict, unless the list is cut short
abbrev pub Asked : (head text records : List ℕ) (room : ℕ) → Outcome → Type 0
Asked head text records room r = (r ≡ Cut) ⊎ (r ≡ verdict (agreed head text records (fresh room)))

-- a frame in its buffers, where each part is as long as the head says, or as there is room for
unfoldable pub framed : (head text records : List ℕ) → ℕ → Bool
framed head text records room =
    agreed head (take (min (number_at head 12) (length text)) text) (take (min (number_at head 16) (length records / record_bytes) * record_bytes) records)
    (fresh (min (number_at head 8) room))

-- what comes of a frame: the verdict, unless the list is cut short or over
abbrev pub Framed : (head text records : List ℕ) (room : ℕ) → Outcome → Type 0
Framed head text records room r = ((r ≡ Cut) ⊎ (r ≡ Over)) ⊎ (r ≡ verdict (framed head text records room))
