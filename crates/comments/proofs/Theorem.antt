-- Document 02 item 1: records of other kinds are the same with notes as without. The raw reading is one, with its notes, and both views are
-- drawn from it, so endings are the same; a reading is neat, and over neat records the second pass agrees.
-- Assumes nothing.
use Prim.Native.Nat.{ℕ, suc, ◌≤◌}
use mathlib.Core.Path.{◌≡◌, refl, ap}
use mathlib.Core.List.{List}
use mathlib.Core.Bool.{Bool, true, false}
use lib.ListN.{length}
use Rattle.records.specs.Records.{Spanned}
use Rattle.rounds.specs.Rounds.{State, raw_reading, listed_records, listed_reading, view}
use Rattle.rounds.proofs.Listed.{listed_full}
use Rattle.soft_keywords.specs.SoftKeywords.{soften}
use Rattle.reading.proofs.Calls.{text_start_within}
use Rattle.edit_theorem.proofs.RowHolds.{first}
use Rattle.comments.specs.Clear.{clear}
use Rattle.comments.specs.Alike.{AllAlike, none, one}
use Rattle.comments.proofs.Agree.{other_kinds, all_alike}
use Rattle.comments.proofs.Neat.{Outside, neat}

module _ (t : List ℕ) where
  outside : (line : Bool) → Outside line (first t)
  outside line = record { at_line_start = λ _. refl; flag = λ _. refl }

  -- both readings end alike
  pub same_ending : (s : State) → ((view true t s).code ≡ (view false t s).code) × ((view true t s).place ≡ (view false t s).place) × ((view true t s).detail ≡ (view false t s).detail)
  unfolding view listed_reading
  same_ending s = (refl, refl, refl)

  module _ (line : Bool) (s : State) where
    -- the records of either, by the raw records
    full_is : (view true t s).recs ≡ (raw_reading t s).recs
    unfolding view listed_reading
    full_is = listed_full (raw_reading t s).recs

    plain_is : (view false t s).recs ≡ listed_records false (raw_reading t s).recs
    unfolding view listed_reading
    plain_is = refl

    module _ (h : s.at ≤ length t) (o : Outside line s) where
      -- the theorem from any state on
      pub agree_from : clear line (raw_reading t s).recs ≡ true → listed_records false (soften line (view true t s).recs) ≡ soften line (view false t s).recs
      agree_from c = rw (full_is, plain_is) (other_kinds line (raw_reading t s).recs (neat t line s h o) c)

      pub alike_from : AllAlike (view false t s).recs (listed_records false (soften line (view true t s).recs)) (soften line (view false t s).recs)
      alike_from = rw (full_is, plain_is) (all_alike line (raw_reading t s).recs (neat t line s h o))

  -- THE THEOREM: on the premise, the records of other kinds are those of the reading without notes
  pub agree : (line : Bool) → clear line (raw_reading t (first t)).recs ≡ true → listed_records false (soften line (view true t (first t)).recs) ≡ soften line (view false t (first t)).recs
  agree line = agree_from line (first t) (text_start_within t) (outside line)

  -- without it they are as many, with the same starts and ends, and of the same kinds but for `type`
  pub alike : (line : Bool) → AllAlike (view false t (first t)).recs (listed_records false (soften line (view true t (first t)).recs)) (soften line (view false t (first t)).recs)
  alike line = alike_from line (first t) (text_start_within t) (outside line)

-- lists that are alike are as long
pub same_count : {rs xs ys : List Spanned} → AllAlike rs xs ys → length xs ≡ length ys
same_count none = refl
same_count (one a l) = ap suc (same_count l)
