-- Each way through the public calls.
-- Assumes nothing.
use Prim.Native.Nat.{ℕ, ◌+◌, ◌≤◌}
use mathlib.Core.Path.{◌≡◌, sym, ◌∙◌, ap, subst}
use mathlib.Core.List.{List}
use mathlib.Core.Bool.{Bool}
use native.Mathlib.Omega.{arith}
use borrow.Author.Tests.{eq-eqb, ne_eqb, eqb-true, ltb-false, leb-false}
use lib.ListN.{length}
use lib.Dec.{ltb, leb, eqb}
use Rattle.lines.specs.Lines.{line_at}
use Rattle.lines.proofs.Laws.{line_start_lem}
use Rattle.lines.proofs.Chars.{char_line}
use Rattle.choice.proofs.Laws.{choose_keeps}
use Rattle.stacks.specs.Promises.{stack_in}
use Rattle.utf8.proofs.Laws.{Here}
use Rattle.window.specs.Place.{Place, place_at, nth, text_start, bom}
use Rattle.window.proofs.Laws.{here, slid_here}
use Rattle.indentation.specs.declared.Level.{Level}
use Rattle.indentation.specs.Levels.{most_levels}
use Rattle.indentation.specs.Promises.{stack}
use Rattle.records.specs.Limits.{most_bytes, places}
use Rattle.answers.specs.declared.Answer.{Answer}
use Rattle.reading.specs.Modes.{last_mode, lists_notes, starts_line}
use Rattle.reading.specs.Answers.{Plan, refuse, go, plan_answer, plan_row, whole_plan, text_refusal, unless, read_plan, read_answer, read_row}
use Rattle.reading.specs.Promises.{Readable, FinishOk, Finished}

-- the reading starts within its text
pub text_start_within : (t : List ℕ) → (text_start t).at ≤ length t
unfolding text_start
text_start_within t =
    choose_keeps (λ (p : Place). p.at ≤ length t) (eqb (nth (place_at t 0) 0) bom)
    (λ e.
    let h : Here t 0 bom = here t 0 bom (eqb-true _ _ e) (λ z. omega arith) in
    omega (arith, h.fits, ap (λ (p : Place). p.at) (slid_here t 0 bom h)))
    (λ _. omega arith)

-- and no line ends before it: a BOM is none
pub text_start_line : (t : List ℕ) → 0 ≡ line_at t (text_start t).at
unfolding text_start
text_start_line t =
    choose_keeps (λ (p : Place). 0 ≡ line_at t p.at) (eqb (nth (place_at t 0) 0) bom)
    (λ e.
    let h : Here t 0 bom = here t 0 bom (eqb-true _ _ e) (λ z. omega arith) in
    let l = char_line t 0 bom _ h.list (λ z. omega arith) (λ z. omega arith) in
    sym (ap (λ (p : Place). line_at t p.at) (sym (slid_here t 0 bom h)) ∙ l ∙ line_start_lem t))
    (λ _. sym (line_start_lem t))

-- a text that no code refuses is small, and its places fit
pub readable : (t : List ℕ) (mode start : ℕ) (r : Answer) → r ≡ text_refusal t mode start → r.code ≡ 0 → Readable t start
unfolding text_refusal
readable t mode start r q e =
    choose_keeps P (ltb most_bytes (length t)) (λ _ z. absurd (omega arith))
    (λ a. choose_keeps P (leb places (start + length t)) (λ _ z. absurd (omega arith))
    (λ b. choose_keeps P (ltb last_mode mode) (λ _ z. absurd (omega arith))
    (λ _ _. record { small = ltb-false _ _ a; fits = leb-false _ _ b }))) (sym (ap (λ (x : Answer). x.code) q) ∙ e)
  where
    P : Answer → Type 0
    P x = x.code ≡ 0 → Readable t start

-- with code 0 a call goes on
pub unless_none : (r : Answer) (on : Unit {0} → Plan) → r.code ≡ 0 → unless r on ≡ on tt
unfolding unless
unless_none r on e = rw (eq-eqb _ _ e)

-- a code other than 0 refuses
pub unless_some : (r : Answer) (on : Unit {0} → Plan) → (r.code ≡ 0 → ⊥) → unless r on ≡ refuse r
unfolding unless
unless_some r on e = rw (ne_eqb _ _ e)

-- a text read from its start
module _ (t : List ℕ) (start from : ℕ) (ok : Readable t start) (f : place_at t from ≡ text_start t) (a : List Level) where
  -- it starts at the place that `text_start` says
  from_is : from ≡ (text_start t).at
  from_is = ap (λ (p : Place). p.at) f

  -- with no level open and no record before it
  pub whole_ok : length a ≡ most_levels → FinishOk t start a 0 from 0
  whole_ok l = record { within = omega (arith, from_is, text_start_within t); text = ok; open' = omega arith; levels = l; few = omega arith }

  pub whole_line : 0 ≡ line_at t from
  whole_line = text_start_line t ∙ ap (line_at t) (sym from_is)

  -- and does so by the whole plan
  pub whole_done : (mode : ℕ) (full line : Bool) (row row' : List ℕ) (r : Answer) → Finished t row row' start (go 0 from full line (stack a 0)) r → full ≡ lists_notes mode → line ≡ starts_line mode
      → Finished t row row' start (whole_plan t mode) r
  unfolding stack_in
  whole_done mode full line row row' r d k l = subst (λ (p : Plan). Finished t row row' start p r) (rw (← from_is, ← k, ← l)) d

-- a whole reading: refused, or read from its start
module _ (t : List ℕ) (mode start : ℕ) (r : Answer) (q : r ≡ text_refusal t mode start) where
  -- no code refuses: the plan is the whole reading's
  pub on : r.code ≡ 0 → whole_plan t mode ≡ read_plan t mode start
  unfolding read_plan
  on e = rw (← q) (sym (unless_none r (λ _. whole_plan t mode) e))

  -- a code refuses: the plan is that refusal
  pub off : (r.code ≡ 0 → ⊥) → refuse r ≡ read_plan t mode start
  unfolding read_plan
  off n = rw (← q) (sym (unless_some r (λ _. whole_plan t mode) n))

  module _ (row row' : List ℕ) (x : Answer) (d : Finished t row row' start (whole_plan t mode) x) (e : r.code ≡ 0) where
    -- a reading's answer
    pub read_answer_lem : x ≡ read_answer t mode start row
    unfolding read_answer
    read_answer_lem = d.answer ∙ ap (plan_answer t start row) (on e)

    -- and its row
    pub read_row_lem : row' ≡ read_row t mode start row
    unfolding read_row
    read_row_lem = d.records ∙ ap (plan_row t start row) (on e)

  module _ (row : List ℕ) (n : r.code ≡ 0 → ⊥) where
    -- a refusal is the answer
    pub refused_answer : r ≡ read_answer t mode start row
    unfolding read_answer plan_answer
    refused_answer = ap (plan_answer t start row) (off n)

    -- and leaves the row
    pub refused_row : row ≡ read_row t mode start row
    unfolding read_row plan_row
    refused_row = ap (plan_row t start row) (off n)
