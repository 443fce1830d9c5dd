-- Document 01 "What comes back": which codes there are, and what comes with each.
use Rattle.std.specs.Prelude.{ℕ, ◌+◌, ◌<◌, ◌≤◌, ◌≡◌, List, ◌⊎◌}
use Rattle.utf8.specs.declared.Fault.{Fault}
use Rattle.utf8.specs.Utf8.{IsFault}
use Rattle.utf8.specs.Faults.{FaultIn, Faulty}
use Rattle.token.specs.Codes.{first_error_code, unrecognized, IsErrorCode}
use Rattle.answers.specs.declared.Answer.{Answer}
use Rattle.answers.specs.Answers.{too_long, unknown_mode, ill_formed, ill_formed_at, no_room, wrong_edit, refusal, found_at, too_many_open_at}

-- a code of a call whose refusals are 1 to `last`: 0, a refusal's or an error's
abbrev pub IsCode : (last code : ℕ) → Type 0
IsCode last c = (c ≤ last) ⊎ IsErrorCode c

-- a refusal's
abbrev pub IsRefusal : (last code : ℕ) → Type 0
IsRefusal last c = (0 < c) × (c ≤ last)

-- an answer with records: the text's end, or an error's
abbrev pub HasRecords : Answer → Type 0
HasRecords r = (r.code ≡ 0) ⊎ (first_error_code ≤ r.code)

-- document 01's table, for a call with such refusals and a text that ends at `end`: code 0 has that place; a detail have 26 and, by
-- document 02 item 2, code 3, whose detail is a fault; a refusal's count is 0 but for code 4, and its place is 0 but for code 3
pub record InTable (last end : ℕ) (r : Answer) : Type 0 where
  pub code : IsCode last r.code
  pub read : r.code ≡ 0 → r.place ≡ end
  pub detail : (r.code ≡ unrecognized → ⊥) → (r.code ≡ ill_formed → ⊥) → r.detail ≡ 0
  pub fault : r.code ≡ ill_formed → IsFault r.detail
  pub count : IsRefusal last r.code → (r.code ≡ no_room → ⊥) → r.count ≡ 0
  pub place : IsRefusal last r.code → (r.code ≡ ill_formed → ⊥) → r.place ≡ 0

-- document 02 item 2: code 3 comes with the place and the fault that the text has, and only so; and it comes wherever the text has one,
-- unless code 1 or 2 comes first
pub record TellsFault (t : List ℕ) (start : ℕ) (r : Answer) : Type 0 where
  pub faulty : Faulty t
  pub same : r ≡ ill_formed_at (start + faulty.place) faulty.fault

pub record FaultTold (t : List ℕ) (start : ℕ) (r : Answer) : Type 0 where
  pub told : r.code ≡ ill_formed → TellsFault t start r
  pub given : (p : ℕ) (f : Fault) → FaultIn t p f → (r.code ≡ too_long) ⊎ (r.code ≡ unknown_mode) ⊎ (r ≡ ill_formed_at (start + p) f)

-- document 01's table, of an audit: code 5, or code 0 or, by document 02 item 3, code 34 with a place and nothing else
abbrev pub AuditInTable : Answer → Type 0
AuditInTable r = (r ≡ refusal wrong_edit) ⊎ (r ≡ found_at r.place) ⊎ (r ≡ too_many_open_at r.place)
