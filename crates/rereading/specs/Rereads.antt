-- Document 01 "Re-reading after an edit": what is kept, whether it is sound, the levels rebuilt, and where the reading goes on.
-- The original has no such call.
use Rattle.std.specs.Prelude.{ℕ, zero, suc, ◌+◌, ◌-◌, List, [], ◌∷◌, Bool, true, false, length, get_or, drop, ltb, eqb, Option, None, Some}
use Prim.Native.Char.{code}
use Rattle.choice.specs.Choice.{choose, both}
use Rattle.lines.specs.Lines.{is_line_end, line_at}
use Rattle.token.specs.declared.Record.{Record}
use Rattle.token.specs.Kinds as K
use Rattle.indentation.specs.declared.Level.{Level}
use Rattle.indentation.specs.Levels.{level, most_levels}
use Rattle.answers.specs.declared.Answer.{Answer}
use Rattle.reading.specs.Modes.{lists_notes}
use Rattle.reading.specs.Answers.{Plan, refuse, go, whole_plan, text_refusal, unless, plan_answer, plan_row}
use Rattle.answers.specs.Answers.{refusal, wrong_edit, unsound, is_above}
use Rattle.records.specs.Limits.{most_records}
use Rattle.records.specs.Records.{rec_at, recs_in, room}
use Rattle.rereading.specs.declared.Effect.{Effect}
use Rattle.rereading.specs.declared.Effect.TheVariants.{Opens, Closes, Stays}

-- a cut: a Newline that ends below `a`, the number of first bytes that are unchanged (document 01's A)
unfoldable pub is_cut : ℕ → Record → Bool
is_cut a r = both (eqb r.kind K.newline) (ltb r.end a)

-- a record before k kept ones is kept too; before none, only if it is a cut
abbrev pub or_cut : Bool → ℕ → ℕ
or_cut b (suc k) = suc (suc k)
or_cut true zero = 1
or_cut false zero = 0

-- how many records are kept: those up to the last cut, 0 where there is none
unfoldable pub kept_up_to : ℕ → List Record → ℕ
kept_up_to a [] = 0
kept_up_to a (r ∷ rs) = or_cut (is_cut a r) (kept_up_to a rs)

-- of n bytes of the text from i on, how many at their start are b
unfoldable pub run_length : List ℕ → ℕ → ℕ → ℕ → ℕ
run_length t b i zero = 0
run_length t b i (suc n) = choose (eqb (get_or t i 0) b) (λ _. suc (run_length t b (i + 1) n)) (λ _. 0)

-- an Indent from s to e, with so many tabs and then spaces, where so many levels are open: it covers one or more bytes, no others,
-- and opens no 101st level
unfoldable pub indent_of : ℕ → ℕ → ℕ → ℕ → ℕ → Option Effect
indent_of depth s e tabs spaces =
    choose (eqb s e) (λ _. None)
    (λ _. choose (eqb (s + tabs + spaces) e)
    (λ _. choose (ltb depth most_levels) (λ _. Some (Opens (level tabs spaces))) (λ _. None))
    (λ _. None))

-- the same of the text's bytes: tabs, then spaces
unfoldable pub indent_in : List ℕ → ℕ → ℕ → ℕ → Option Effect
indent_in t depth s e = let tabs = run_length t (code "\t") s (e - s) in indent_of depth s e tabs (run_length t (code " ") (s + tabs) (e - (s + tabs)))

-- what a kept record does to so many open levels, where the cut ends at e; none if it is unsound
unfoldable pub effect_of : List ℕ → ℕ → ℕ → Record → Option Effect
effect_of t e depth r =
    choose (ltb r.end r.start) (λ _. None)
    (λ _. choose (ltb e r.end) (λ _. None)
    (λ _. choose (eqb r.kind K.indent) (λ _. indent_in t depth r.start r.end)
    (λ _. choose (eqb r.kind K.dedent) (λ _. choose (eqb depth 0) (λ _. None) (λ _. Some Closes))
    (λ _. Some Stays))))

-- levels rebuilt, or unsound records
pub data Built : Type 0 where
  broken : Built
  built : List Level → Built

-- what an effect makes of the open levels `ls`; `k` goes on with them
unfoldable pub applied : Option Effect → List Level → (List Level → Built) → Built
applied None ls k = broken
applied (Some (Opens l)) ls k = k (l ∷ ls)
applied (Some Closes) ls k = k (drop 1 ls)
applied (Some Stays) ls k = k ls

-- the levels that are open after kept records, innermost first
unfoldable pub rebuild : List ℕ → ℕ → List Record → List Level → Built
rebuild t e [] ls = built ls
rebuild t e (r ∷ rs) ls = applied (effect_of t e (length ls) r) ls (rebuild t e rs)

-- a line ends at e: e is above 0, and the byte before it is the last of a line end
unfoldable pub ends_line : List ℕ → ℕ → Bool
ends_line t e = choose (eqb e 0) (λ _. false) (λ _. is_line_end (get_or t (e - 1) 0) (get_or t e 0))

-- document 02 item 4: a record's line is the number of line ends that end at or before its start
unfoldable pub has_its_line : List ℕ → Record → Bool
has_its_line t r = eqb r.line (line_at t r.start)

-- k records stand, and the reading goes on at e, a line's start, with notes by the mode; a soft keyword may stand first
unfoldable pub go_on : ℕ → ℕ → ℕ → Built → Plan
go_on mode k e broken = refuse (refusal unsound)
go_on mode k e (built ls) = go k e (lists_notes mode) true ls

-- with k records kept, the last of them the cut: code 6 unless a line ends at its end, its line is right (document 02 item 4), and all kept
-- records are sound; no other record's line is looked at
unfoldable pub cut_plan : List ℕ → ℕ → List ℕ → ℕ → Record → Plan
cut_plan t mode row k cut =
    choose (ends_line t cut.end)
    (λ _. choose (has_its_line t cut)
    (λ _. go_on mode k cut.end (rebuild t cut.end (recs_in row 0 k) []))
    (λ _. refuse (refusal unsound)))
    (λ _. refuse (refusal unsound))

-- without a cut the text is read whole
unfoldable pub kept_plan : List ℕ → ℕ → List ℕ → ℕ → Plan
kept_plan t mode row k = choose (eqb k 0) (λ _. whole_plan t mode) (λ _. cut_plan t mode row k (rec_at row (k - 1)))

-- code 5, or 0 where it does not apply: an old count above the row's room, or above what any reading writes; A above the text's length;
-- `text` is the text's length, `list` the row's room
unfoldable pub edit_refusal : (text list old a : ℕ) → Answer
edit_refusal text list old a =
    choose (is_above list old) (λ _. refusal wrong_edit)
    (λ _. choose (ltb most_records old) (λ _. refusal wrong_edit)
    (λ _. choose (ltb text a) (λ _. refusal wrong_edit)
    (λ _. refusal 0)))

-- re-reading works at start 0; codes 1, 2, 3, then 5, then 6, each by `unless`; code 4 is the reading's own
unfoldable pub reread_plan : List ℕ → ℕ → List ℕ → ℕ → ℕ → Plan
reread_plan t mode row old a =
    unless (text_refusal t mode 0)
    (λ _. unless (edit_refusal (length t) (room row) old a) (λ _. kept_plan t mode row (kept_up_to a (recs_in row 0 old))))

-- a re-reading's answer
unfoldable pub reread_answer : List ℕ → ℕ → List ℕ → ℕ → ℕ → Answer
reread_answer t mode row old a = plan_answer t 0 row (reread_plan t mode row old a)

-- the row after a re-reading
unfoldable pub reread_row : List ℕ → ℕ → List ℕ → ℕ → ℕ → List ℕ
reread_row t mode row old a = plan_row t 0 row (reread_plan t mode row old a)
