-- Document 01, demand 3: re-reading after an edit gives what a whole reading of the new text gives, into a list of equal length. Here are
-- the calls that it speaks of, what makes an edit of two of them, and what is the same then.
use Rattle.std.specs.Prelude.{ℕ, ◌≤◌, ◌≡◌, List, map, length, take}
use Rattle.token.specs.declared.Record.{Record}
use Rattle.records.specs.Records.{Spanned, span_of, recs_in}
use Rattle.answers.specs.declared.Answer.{Answer}
use Rattle.answers.specs.Codes.{HasRecords}
use Rattle.reading.specs.Answers.{read_answer, read_row}
use Rattle.rereading.specs.Rereads.{reread_answer, reread_row}

-- a call that a contract allows: its arguments, its result, and its parameters at exit
pub record Call {K : Type 0} {A R E : K → Type 0} (Post : (κs : K) → A κs → R κs → E κs → Type 0) : Type 0 where
  pub lifetimes : K
  pub given : A lifetimes
  pub result : R lifetimes
  pub exit : E lifetimes
  pub allowed : Post lifetimes given result exit

-- a reading: the text, the mode, the start and what was lent to it; its answer, and what it left there. A row has numbers, a list records
pub record ReadCall (A : Type 0) : Type 0 where
  pub text : List ℕ
  pub mode : ℕ
  pub start : ℕ
  pub lent : List A
  pub answer : Answer
  pub left : List A

-- a re-reading: it has no start, but the old count, and how many first bytes are unchanged (document 01's A)
pub record RereadCall (A : Type 0) : Type 0 where
  pub text : List ℕ
  pub mode : ℕ
  pub lent : List A
  pub count : ℕ
  pub common : ℕ
  pub answer : Answer
  pub left : List A

-- a reading as `read` makes it
pub record IsReading (c : ReadCall ℕ) : Type 0 where
  pub answer : c.answer ≡ read_answer c.text c.mode c.start c.lent
  pub left : c.left ≡ read_row c.text c.mode c.start c.lent

-- a re-reading as `reread` makes it
pub record IsRereading (c : RereadCall ℕ) : Type 0 where
  pub answer : c.answer ≡ reread_answer c.text c.mode c.lent c.count c.common
  pub left : c.left ≡ reread_row c.text c.mode c.lent c.count c.common

-- a re-reading taken as a reading of its text at 0
abbrev pub as_reading : {A : Type 0} → RereadCall A → ReadCall A
as_reading c = record { text = c.text; mode = c.mode; start = 0; lent = c.lent; answer = c.answer; left = c.left }

-- an edit: the old text was read at 0, and the answer has records; the re-reading was lent what that left, with its mode and its count;
-- and the first `common` bytes, within both texts, are the same
pub record Edit {A : Type 0} (old : ReadCall A) (again : RereadCall A) : Type 0 where
  pub start : old.start ≡ 0
  pub records : HasRecords old.answer
  pub lent : again.lent ≡ old.left
  pub mode : again.mode ≡ old.mode
  pub count : again.count ≡ old.answer.count
  pub in_old : again.common ≤ length old.text
  pub in_new : again.common ≤ length again.text
  pub same : take again.common old.text ≡ take again.common again.text

-- a whole reading of the new text at 0, in the same mode, into a row or list of equal length
pub record Anew {A : Type 0} (again : RereadCall A) (anew : ReadCall A) : Type 0 where
  pub start : anew.start ≡ 0
  pub text : anew.text ≡ again.text
  pub mode : anew.mode ≡ again.mode
  pub long : length anew.lent ≡ length again.lent

-- the records that an answer counts, in a row and in a list
abbrev pub in_row : Answer → List ℕ → List Record
in_row r row = recs_in row 0 r.count

abbrev pub in_list : Answer → List Record → List Record
in_list r list = take r.count list

-- what those of a row say but for their lines, which are those of their starts (`lines_right` in edit_theorem/proofs/RowHolds)
abbrev pub spans_in_row : Answer → List ℕ → List Spanned
spans_in_row r row = map span_of (in_row r row)

-- it has the same answer, and the same records if it has any; and the same is left where the same was lent. `counted` finds the records
pub record Same {A : Type 0} (counted : Answer → List A → List Record) (again : RereadCall A) (anew : ReadCall A) : Type 0 where
  pub answer : again.answer ≡ anew.answer
  pub records : HasRecords anew.answer → counted again.answer again.left ≡ counted anew.answer anew.left
  pub left : again.lent ≡ anew.lent → again.left ≡ anew.left

-- of rows, and of lists
abbrev pub SameReading : RereadCall ℕ → ReadCall ℕ → Type 0
SameReading again anew = Same in_row again anew

abbrev pub SameList : RereadCall Record → ReadCall Record → Type 0
SameList again anew = Same in_list again anew
