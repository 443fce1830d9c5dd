-- Document 01 "Re-reading after an edit": kept records stay as given, even if wrong, their lines too; a refusal leaves the whole row as it was.
-- Assumes nothing.
use Prim.Native.Nat.{ℕ, ◌+◌, ◌<◌, ◌≤◌}
use mathlib.Core.Path.{◌≡◌, refl}
use mathlib.Core.List.{List}
use mathlib.Core.Bool.{Bool, true}
use native.Mathlib.Omega.{arith}
use borrow.Author.Tests.{eqb-true}
use lib.ListN.{length}
use lib.Dec.{ltb, eqb}
use Rattle.token.specs.Kinds as K
use Rattle.token.specs.Codes.{first_error_code}
use Rattle.token.specs.declared.Record.{Record}
use Rattle.records.proofs.Puts.{puts_below}
use Rattle.choice.proofs.Laws.{choose_keeps}
use Rattle.rounds.specs.Rounds.{Reading}
use Rattle.soft_keywords.specs.SoftKeywords.{soften}
use Rattle.records.specs.Records.{rec_at, recs_in, room}
use Rattle.answers.specs.declared.Answer.{Answer}
use Rattle.reading.specs.Answers.{Plan, refuse, text_refusal, unless, written, plan_row}
use Rattle.reading.proofs.Refusals.{refused_same}
use Rattle.rereading.specs.Rereads.{kept_up_to, Built, broken, built, ends_line, has_its_line, go_on, cut_plan, kept_plan, edit_refusal, reread_plan, reread_answer, reread_row}
use Rattle.rereading.proofs.Cuts.{kept_above}

module _ (t : List ℕ) (mode : ℕ) (row : List ℕ) (old a : ℕ) where
  abbrev kept : ℕ
  kept = kept_up_to a (recs_in row 0 old)

  -- a row that has the kept records of the row at entry
  record Has (x : List ℕ) : Type 0 where
    at : (i : ℕ) → i < kept → rec_at x i ≡ rec_at row i

  -- the row itself
  same : Has row
  same = record { at = λ i h. refl }

  -- a plan that leaves such a row
  record Keeps (p : Plan) : Type 0 where
    after : Has (plan_row t 0 row p)

  -- a refusal
  refuse_keeps : (r : Answer) → Keeps (refuse r)
  unfolding plan_row
  refuse_keeps r = record { after = same }

  -- a reading written from the cut on, if there is room
  written_keeps : (line : Bool) (r : Reading) → Has (written t 0 row kept line r)
  unfolding written
  written_keeps line r =
      choose_keeps Has (ltb (room row) (kept + length r.recs)) (λ _. same) (λ _. record { at = puts_below t 0 (soften line r.recs) row kept })

  -- reading on behind the cut, or code 6
  go_keeps : (e : ℕ) (b : Built) → Keeps (go_on mode kept e b)
  unfolding go_on plan_row
  go_keeps e broken = refuse_keeps _
  go_keeps e (built ls) = record { after = written_keeps true _ }

  -- the same where a line ends at the cut and its line is right, else code 6
  cut_keeps : (r : Record) → Keeps (cut_plan t mode row kept r)
  unfolding cut_plan
  cut_keeps r = choose_keeps Keeps (ends_line t r.end) (λ _. choose_keeps Keeps (has_its_line t r) (λ _. go_keeps r.end _) (λ _. refuse_keeps _)) (λ _. refuse_keeps _)

  -- without a cut there is nothing to keep
  kept_keeps : Keeps (kept_plan t mode row kept)
  unfolding kept_plan
  kept_keeps =
      choose_keeps Keeps (eqb kept 0) (λ z. record { after = record { at = λ i h. absurd (omega (arith, eqb-true kept 0 z)) } }) (λ _. cut_keeps _)

  -- and no other refusal writes
  unless_keeps : (r : Answer) (on : Unit {0} → Plan) → Keeps (on tt) → Keeps (unless r on)
  unfolding unless
  unless_keeps r on k = choose_keeps Keeps (eqb r.code 0) (λ _. k) (λ _. refuse_keeps r)

  -- for any row and count: every record up to the cut is as it was
  pub keeps : (i : ℕ) → i < kept → rec_at (reread_row t mode row old a) i ≡ rec_at row i
  unfolding reread_row reread_plan
  keeps = (unless_keeps (text_refusal t mode 0) _ (unless_keeps (edit_refusal (length t) (room row) old a) _ kept_keeps)).after.at

  -- so a counted Newline that ends below A keeps every record up to it
  pub keeps_every : (i : ℕ) → i < old → (rec_at row i).kind ≡ K.newline → (rec_at row i).end < a → (j : ℕ) → j ≤ i → rec_at (reread_row t mode row old a) j ≡ rec_at row j
  keeps_every i h k l j m = keeps j (omega (arith, kept_above row a old i h k l))

  -- codes 1 to 6 leave the whole row
  pub refused_row : 0 < (reread_answer t mode row old a).code → (reread_answer t mode row old a).code < first_error_code → reread_row t mode row old a ≡ row
  unfolding reread_answer reread_row
  refused_row h l = refused_same t 0 row (reread_plan t mode row old a) h l
