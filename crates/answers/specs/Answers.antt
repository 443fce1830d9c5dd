-- Document 01 "What comes back": what every call answers, and the codes of its refusals. The codes of errors, 20 to 33, are in
-- token/specs/Codes.
use Rattle.std.specs.Prelude.{ℕ, List, [], ◌∷◌, Bool, ltb, get_or, Result, Ok, Err, ⊤}
use Rattle.choice.specs.Choice.{choose}
use Rattle.utf8.specs.declared.Fault.{Fault}
use Rattle.utf8.specs.Utf8.{fault_number}
use Rattle.records.specs.Records.{room}
use Rattle.answers.specs.declared.Answer.{Answer}
use Rattle.answers.specs.declared.Refusal.{Refusal}
use Rattle.answers.specs.declared.Refusal.TheVariants.{TooLong, UnknownMode, IllFormed, NoRoom, WrongEdit, Unsound}

-- an answer: its code, count, place and detail
abbrev pub answer : ℕ → ℕ → ℕ → ℕ → Answer
answer c n p d = record { code = c; count = n; place = p; detail = d }

-- an answer's numbers in a row
abbrev pub numbers_of : Answer → List ℕ
numbers_of a = a.code ∷ a.count ∷ a.place ∷ a.detail ∷ []

-- the answer that a row of four numbers tells
abbrev pub answer_in : List ℕ → Answer
answer_in l = answer (get_or l 0 0) (get_or l 1 0) (get_or l 2 0) (get_or l 3 0)

-- the codes of refusals; 0 refuses nothing. Code 1: the text is too long, or its places do not fit 32 bits
abbrev pub too_long : ℕ
too_long = 1

-- code 2: there is no such mode
abbrev pub unknown_mode : ℕ
unknown_mode = 2

-- code 3: ill-formed UTF-8 (RFC 3629)
abbrev pub ill_formed : ℕ
ill_formed = 3

-- code 4: more records than there is room for
abbrev pub no_room : ℕ
no_room = 4

-- code 5: more old records than there are or can be, or more bytes unchanged than the text has
abbrev pub wrong_edit : ℕ
wrong_edit = 5

-- code 6: what is kept is unsound
abbrev pub unsound : ℕ
unsound = 6

-- code 34 (document 02 item 3): more brackets are open than may be
abbrev pub too_many_open : ℕ
too_many_open = 34

-- a refusal that says no more than its code
abbrev pub refusal : ℕ → Answer
refusal c = answer c 0 0 0

-- code 5 refuses an old count above what the row or list that is lent holds
abbrev pub is_above : (space old : ℕ) → Bool
is_above space old = ltb space old

-- code 3, with the place of the first ill-formed sequence; document 02 item 2: the detail is its fault
abbrev pub ill_formed_at : ℕ → Fault → Answer
ill_formed_at p f = answer ill_formed 0 p (fault_number f)

-- code 4, with how many records would be needed
abbrev pub no_room_for : ℕ → Answer
no_room_for n = answer no_room n 0 0

-- what a call answers that is refused
abbrev pub answer_of : Refusal → Answer
answer_of TooLong = refusal too_long
answer_of UnknownMode = refusal unknown_mode
answer_of (IllFormed p f) = ill_formed_at p f
answer_of (NoRoom n) = no_room_for n
answer_of WrongEdit = refusal wrong_edit
answer_of Unsound = refusal unsound

-- an answer with code 0 where nothing is refused, else the refusal's
abbrev pub told : Result ⊤ Refusal → Answer
told (Ok _) = refusal 0
told (Err r) = answer_of r

-- code 0, with a place that was looked for: an index, or the old count
abbrev pub found_at : ℕ → Answer
found_at p = answer 0 0 p 0

-- code 34, with the index of the record that would open one too many
abbrev pub too_many_open_at : ℕ → Answer
too_many_open_at i = answer too_many_open 0 i 0

-- document 02 item 5: code 4 exactly when the records outnumber the row, else the same
abbrev pub in_room : List ℕ → Answer → Answer
in_room row a = choose (ltb (room row) a.count) (λ _. no_room_for a.count) (λ _. a)
