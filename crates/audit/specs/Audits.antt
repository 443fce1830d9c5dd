-- Document 02 item 3, which amends document 01 "Bracket audit": a closer is right only if it closes the latest opener that is still
-- open, of its own kind. The original has no audit.
use Rattle.std.specs.Prelude.{ℕ, suc, List, [], ◌∷◌, Bool, false, eqb, ltb, length, drop}
use Rattle.choice.specs.Choice.{choose}
use Rattle.token.specs.declared.Record.{Record}
use Rattle.token.specs.Brackets.{is_opener, is_closer, opener_of}
use Rattle.answers.specs.declared.Answer.{Answer}
use Rattle.answers.specs.Answers.{refusal, wrong_edit, is_above, found_at, too_many_open_at}
use Rattle.records.specs.Records.{recs_in, room}

-- so many openers may be open
abbrev pub most_open : ℕ
most_open = 200

-- whether a closer closes the latest of the open openers, whose kinds stand in a stack
unfoldable pub closes_latest : ℕ → List ℕ → Bool
closes_latest k [] = false
closes_latest k (latest ∷ opened) = eqb latest (opener_of k)

-- the answer to the records from the index i on, these openers being open: the index of the first wrong closer, or of the opener of
-- one bracket too many (code 34), whichever comes first; else that behind the last record
unfoldable pub audit_from : (i : ℕ) (opened : List ℕ) → List Record → Answer
audit_from i opened [] = found_at i
audit_from i opened (r ∷ rs) =
    choose (is_opener r.kind)
    (λ _. choose (ltb (length opened) most_open) (λ _. audit_from (suc i) (r.kind ∷ opened) rs) (λ _. too_many_open_at i))
    (λ _. choose (is_closer r.kind)
    (λ _. choose (closes_latest r.kind opened) (λ _. audit_from (suc i) (drop 1 opened) rs) (λ _. found_at i))
    (λ _. audit_from (suc i) opened rs))

-- the answer to an audit of a row and its old count: code 5 for a count above the room; at first no bracket is open
unfoldable pub audit_of : List ℕ → ℕ → Answer
audit_of row old = choose (is_above (room row) old) (λ _. refusal wrong_edit) (λ _. audit_from 0 [] (recs_in row 0 old))
