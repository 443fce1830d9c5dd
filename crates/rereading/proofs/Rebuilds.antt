-- The levels rebuilt record by record: what is left to rebuild from the record j, with these levels, is the whole.
-- Assumes nothing.
use Prim.Native.Nat.{ℕ, ◌+◌, ◌-◌, ◌<◌, ◌≤◌}
use mathlib.Core.Path.{◌≡◌, sym, ◌∙◌, subst}
use mathlib.Core.List.{List, []}
use native.Mathlib.Omega.{arith}
use lib.ListN.{length, set, length-set}
use Rattle.std.specs.Prelude.{Option, None, Some}
use Rattle.stacks.specs.Promises.{stack_in}
use Rattle.stacks.proofs.Laws.{stack_length, stack_push, stack_left}
use Rattle.token.specs.declared.Record.{Record}
use Rattle.indentation.specs.declared.Level.{Level}
use Rattle.indentation.specs.Levels.{level, most_levels}
use Rattle.indentation.specs.Promises.{stack}
use Rattle.records.specs.Records.{rec_at, recs_in}
use Rattle.records.proofs.Recs.{recs_step, recs_none}
use Rattle.rereading.specs.declared.Effect.{Effect}
use Rattle.rereading.specs.declared.Effect.TheVariants.{Opens, Closes, Stays}
use Rattle.rereading.specs.Rereads.{effect_of, applied, rebuild}
use Rattle.rereading.specs.Promises.{Rebuilt}
use Rattle.rereading.proofs.Effects.{Tells, tells}

-- j of k records are built: d levels are open
pub record Going (t : List ℕ) (e : ℕ) (row : List ℕ) (k : ℕ) (a : List Level) (d j : ℕ) : Type 0 where
  pub few : d ≤ most_levels
  pub all : length a ≡ most_levels
  pub same : rebuild t e (recs_in row j (k - j)) (stack a d) ≡ rebuild t e (recs_in row 0 k) []

module _ (t : List ℕ) (e : ℕ) (row : List ℕ) (k : ℕ) (a : List Level) where
  pub going_all : length a ≡ most_levels → Going t e row k a 0 0
  unfolding stack_in
  going_all l = let z : k - 0 ≡ k = omega arith in record { few = omega arith; all = l; same = rw z }

  module _ (d j : ℕ) (inv : Going t e row k a d j) where
    -- no record is left
    pub going_none : k ≤ j → Rebuilt t e row k (Some (record { levels = a; depth = d }))
    unfolding rebuild
    going_none h = record { same = rw (recs_none row j k h) at inv.same; ok = (inv.few, inv.all) }

    -- the next record and its effect
    module _ (h : j < k) (r : Record) (q : r ≡ rec_at row j) (x : Option Effect) (u : x ≡ effect_of t e d r) where
      step : applied x (stack a d) (rebuild t e (recs_in row (j + 1) (k - (j + 1)))) ≡ rebuild t e (recs_in row 0 k) []
      unfolding rebuild
      step = rw u (rw (recs_step row j k h, stack_length, ← q) at inv.same)

      told : (z : Option Effect) → x ≡ z → Tells d z
      told z y = subst (Tells d) (sym u ∙ y) (tells t e d r)

      -- an unsound one
      pub going_broken : x ≡ None → Rebuilt t e row k None
      unfolding applied
      going_broken z = record { same = rw z at step; ok = tt }

      -- a level is opened only with fewer than the most
      pub opens_room : (l : Level) → x ≡ Some (Opens l) → d < most_levels
      opens_room l z = told (Some (Opens l)) z

      pub going_opens : (l : Level) → x ≡ Some (Opens l) → (a' : List Level) → a' ≡ set a d l → Going t e row k a' (d + 1) (j + 1)
      unfolding applied
      going_opens l z a' y =
          let o = opens_room l z in
          record { few = omega arith; all = rw y (length-set a d l ∙ inv.all); same = rw y (rw (stack_push (level 0 0) a d l (omega (arith, inv.all))) (rw z at step)) }

      -- a level is closed only with one open
      pub closes_some : x ≡ Some Closes → 1 ≤ d
      closes_some z = told (Some Closes) z

      pub going_closes : x ≡ Some Closes → Going t e row k a (d - 1) (j + 1)
      unfolding applied
      going_closes z =
          let o = closes_some z in
          let one : d - (d - 1) ≡ 1 = omega arith in
          record { few = omega (arith, inv.few); all = inv.all; same = rw (← stack_left (level 0 0) a d (d - 1) (omega arith), one) (rw z at step) }

      pub going_stays : x ≡ Some Stays → Going t e row k a d (j + 1)
      unfolding applied
      going_stays z = record { few = inv.few; all = inv.all; same = rw z at step }
