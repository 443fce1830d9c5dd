-- The plan that a list's cut and levels give is the re-reading's of its row; and what is finished of that plan is the re-reading of the
-- list.
-- Assumes nothing.
use Prim.Native.Nat.{ℕ, ◌+◌}
use mathlib.Core.Path.{◌≡◌, refl, sym}
use mathlib.Core.List.{List}
use mathlib.Core.Bool.{true}
use Rattle.std.specs.Prelude.{None, Some}
use lib.ListN.{length, get_or}
use Rattle.token.specs.declared.Record.{Record}
use Rattle.records.specs.Records.{flat}
use Rattle.records.specs.Promises.{blank}
use Rattle.records.specs.Rooms.{flat_room}
use Rattle.records.proofs.Flats.{flat_rec}
use Rattle.indentation.specs.Promises.{stack}
use Rattle.answers.specs.declared.Answer.{Answer}
use Rattle.answers.specs.Answers.{refusal, unsound}
use Rattle.reading.specs.Modes.{lists_notes}
use Rattle.reading.specs.Answers.{refuse, go, whole_plan, text_refusal}
use Rattle.reading.specs.Promises.{Finished}
use Rattle.rereading.specs.declared.Open.{Open}
use Rattle.rereading.specs.Rereads.{edit_refusal, reread_plan}
use Rattle.rereading.specs.Promises.{CutOf, Rebuilt, above_cut}
use Rattle.rereading.proofs.Plans.{plan_whole, plan_line, plan_built, plan_on, done_answer, done_row}
use Rattle.list_rereading.specs.Door.{RereadsInto}

-- where codes 1, 2, 3 and 5 do not refuse the call
module _ (t : List ℕ) (mode : ℕ) (ys : List Record) (old a : ℕ) (p : refusal 0 ≡ text_refusal t mode 0) (q : refusal 0 ≡ edit_refusal (length t) (length ys) old a) where
  -- without a cut the text is read whole
  pub door_whole : CutOf (flat ys) a old None → whole_plan t mode ≡ reread_plan t mode (flat ys) old a
  door_whole cut = plan_whole t mode (flat ys) old a p (length ys) (sym (flat_room ys)) q cut

  -- the record at i is the cut
  module _ (i : ℕ) (cut : CutOf (flat ys) a old (Some i)) where
    abbrev c : Record
    c = get_or ys i blank

    -- no line ends there, or its line is wrong
    pub door_line : None ≡ above_cut t c → refuse (refusal unsound) ≡ reread_plan t mode (flat ys) old a
    door_line y = plan_line t mode (flat ys) old a p (length ys) (sym (flat_room ys)) q i cut c (sym (flat_rec ys i)) y

    module _ (n : ℕ) (y : Some n ≡ above_cut t c) where
      -- a kept record is unsound
      pub door_unsound : Rebuilt t c.end (flat ys) (i + 1) None → refuse (refusal unsound) ≡ reread_plan t mode (flat ys) old a
      door_unsound u = plan_built t mode (flat ys) old a p (length ys) (sym (flat_room ys)) q i cut c (sym (flat_rec ys i)) n y u

      -- the reading goes on there, with the levels rebuilt
      pub door_on : (o : Open) → Rebuilt t c.end (flat ys) (i + 1) (Some o) → go (i + 1) c.end (lists_notes mode) true (stack o.levels o.depth) ≡ reread_plan t mode (flat ys) old a
      door_on o u = plan_on t mode (flat ys) old a p (length ys) (sym (flat_room ys)) q i cut c (sym (flat_rec ys i)) n y o u (lists_notes mode) refl

-- what is finished of that plan is the re-reading of the list
pub door_into : (t : List ℕ) (mode old a : ℕ) (ys zs : List Record) (x : Answer) → Finished t (flat ys) (flat zs) 0 (reread_plan t mode (flat ys) old a) x → RereadsInto t mode ys old a x zs
door_into t mode old a ys zs x f = record { answer = done_answer t mode (flat ys) old a (flat zs) x f; records = done_row t mode (flat ys) old a (flat zs) x f }
