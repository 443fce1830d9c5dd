-- Each way through re-reading.
-- Assumes nothing.
use Prim.Native.Nat.{ℕ, ◌+◌, ◌-◌, ◌<◌, ◌≤◌}
use mathlib.Core.Path.{◌≡◌, refl, sym, ◌∙◌, ap, subst}
use mathlib.Core.List.{List, []}
use mathlib.Core.Bool.{Bool, true, false}
use native.Mathlib.Omega.{arith}
use borrow.Author.Tests.{ne_eqb, ltb-false}
use lib.ListN.{length}
use lib.Dec.{ltb, eqb}
use Rattle.std.specs.Prelude.{None, Some}
use Rattle.choice.specs.Choice.{choose}
use Rattle.choice.proofs.Laws.{choose_keeps}
use Rattle.lines.specs.Lines.{line_at}
use Rattle.token.specs.declared.Record.{Record}
use Rattle.indentation.specs.Promises.{stack}
use Rattle.answers.specs.declared.Answer.{Answer}
use Rattle.answers.specs.declared.Refusal.{Refusal}
use Rattle.answers.specs.Answers.{unsound, refusal, answer_of, is_above}
use Rattle.answers.proofs.Laws.{refuses}
use Rattle.reading.specs.Modes.{lists_notes}
use Rattle.reading.specs.Answers.{Plan, refuse, go, whole_plan, text_refusal, unless, plan_answer, plan_row}
use Rattle.records.specs.Limits.{most_records}
use Rattle.reading.specs.Promises.{Readable, FinishOk, Finished}
use Rattle.records.specs.Records.{room, rec_at, recs_in}
use Rattle.reading.proofs.Calls.{readable, unless_none, unless_some}
use Rattle.rereading.specs.declared.Open.{Open}
use Rattle.rereading.specs.Rereads.{kept_up_to, rebuild, ends_line, has_its_line, go_on, cut_plan, kept_plan, edit_refusal, reread_plan, reread_answer, reread_row}
use Rattle.rereading.specs.Promises.{CutOf, KeptOk, Rebuilt, above_cut, AboveOk}

-- what code 5 leaves
pub record Editable (text list old a : ℕ) : Type 0 where
  pub room : old ≤ list
  pub few : old ≤ most_records
  pub within : a ≤ text

-- with code 0 the old count and A are as they must be
pub editable : (text list old a : ℕ) (r : Answer) → r ≡ edit_refusal text list old a → r.code ≡ 0 → Editable text list old a
unfolding edit_refusal
editable text list old a r q e =
    choose_keeps P (is_above list old) (λ _ z. absurd (omega arith))
    (λ x. choose_keeps P (ltb most_records old) (λ _ z. absurd (omega arith))
    (λ y. choose_keeps P (ltb text a) (λ _ z. absurd (omega arith))
    (λ w z. record { room = ltb-false _ _ x; few = ltb-false _ _ y; within = ltb-false _ _ w }))) (sym (ap (λ (x : Answer). x.code) q) ∙ e)
  where
    P : Answer → Type 0
    P x = x.code ≡ 0 → Editable text list old a

-- a text that codes 1 to 3 leave
pub text_ok : (t : List ℕ) (mode : ℕ) → refusal 0 ≡ text_refusal t mode 0 → Readable t 0
text_ok t mode p = readable t mode 0 (refusal 0) p refl

-- a refusal leaves the row
refused : (t row : List ℕ) (x : Answer) → Finished t row row 0 (refuse x) x
unfolding plan_answer plan_row
refused t row x = record { answer = refl; records = refl }

module _ (t : List ℕ) (mode : ℕ) (row : List ℕ) (old a : ℕ) where
  -- a plan that is the re-reading's
  done : (p : Plan) → p ≡ reread_plan t mode row old a → (row' : List ℕ) (x : Answer) → Finished t row row' 0 p x → Finished t row row' 0 (reread_plan t mode row old a) x
  done p e row' x f = subst (λ (w : Plan). Finished t row row' 0 w x) e f

  off : (x : Answer) → refuse x ≡ reread_plan t mode row old a → Finished t row row 0 (reread_plan t mode row old a) x
  off x e = done (refuse x) e row x (refused t row x)

  -- codes 1, 2 and 3
  pub off_text : (r : Refusal) → answer_of r ≡ text_refusal t mode 0 → Finished t row row 0 (reread_plan t mode row old a) (answer_of r)
  unfolding reread_plan
  off_text r q = off (answer_of r) plan
    where
      plan : refuse (answer_of r) ≡ reread_plan t mode row old a
      plan = rw (← q) (sym (unless_some (answer_of r) _ (refuses r (answer_of r) refl)))

  module _ (p : refusal 0 ≡ text_refusal t mode 0) where
    on : unless (edit_refusal (length t) (room row) old a) (λ _. kept_plan t mode row (kept_up_to a (recs_in row 0 old))) ≡ reread_plan t mode row old a
    unfolding reread_plan
    on = rw (← p) (sym (unless_none (refusal 0) _ refl))

    module _ (space : ℕ) (s : space ≡ room row) where
      -- code 5
      pub off_edit : (r : Refusal) → answer_of r ≡ edit_refusal (length t) space old a → Finished t row row 0 (reread_plan t mode row old a) (answer_of r)
      off_edit r q = off (answer_of r) (sym (unless_some (answer_of r) _ (refuses r (answer_of r) refl)) ∙ (rw (← s, ← q) at on))

      -- nothing refuses
      module _ (q : refusal 0 ≡ edit_refusal (length t) space old a) where
        edit : Editable (length t) space old a
        edit = editable (length t) space old a (refusal 0) q refl

        pub old_held : old ≤ room row
        old_held = omega (arith, edit.room)

        keeps_on : kept_plan t mode row (kept_up_to a (recs_in row 0 old)) ≡ reread_plan t mode row old a
        keeps_on = sym (unless_none (refusal 0) _ refl) ∙ (rw (← s, ← q) at on)

        -- without a cut the text is read whole
        pub plan_whole : CutOf row a old None → whole_plan t mode ≡ reread_plan t mode row old a
        unfolding kept_plan
        plan_whole cut = rw (← cut.kept) at keeps_on

        pub on_whole : CutOf row a old None → (row' : List ℕ) (x : Answer) → Finished t row row' 0 (whole_plan t mode) x → Finished t row row' 0 (reread_plan t mode row old a) x
        on_whole cut row' x f = done (whole_plan t mode) (plan_whole cut) row' x f

        -- a cut
        module _ (i : ℕ) (cut : CutOf row a old (Some i)) where
          pub cut_held : i < room row
          cut_held = omega (arith, cut.few, old_held)

          module _ (r : Record) (z : r ≡ rec_at row i) where
            at_cut : cut_plan t mode row (i + 1) r ≡ reread_plan t mode row old a
            unfolding kept_plan
            at_cut =
                let e : i + 1 - 1 ≡ i = omega arith in
                let n : eqb (i + 1) 0 ≡ false = ne_eqb (i + 1) 0 (λ y. omega arith) in
                rw (← cut.kept, n, e, ← z) at keeps_on

            low : r.end < a
            low = let e : i + 1 - 1 ≡ i = omega arith in rw z (rw e at (cut.low (omega arith)))

            pub end_within : AboveOk t r
            end_within = record { end = omega (arith, low, edit.within) }

            pub kept_ok : KeptOk t r.end row (i + 1)
            kept_ok = record { end = omega (arith, low, edit.within); held = omega (arith, cut_held) }

            -- no line ends there, or the cut's line is wrong
            pub plan_line : None ≡ above_cut t r → refuse (refusal unsound) ≡ reread_plan t mode row old a
            unfolding above_cut cut_plan
            plan_line y = by (ends_line t r.end) (has_its_line t r) y ∙ at_cut
              where
                by : (b c : Bool) → None ≡ choose b (λ _. choose c (λ _. Some (line_at t r.end)) (λ _. None)) (λ _. None)
                    → refuse (refusal unsound) ≡ choose b (λ _. choose c (λ _. go_on mode (i + 1) r.end (rebuild t r.end (recs_in row 0 (i + 1)) [])) (λ _. refuse (refusal unsound))) (λ _. refuse (refusal unsound))
                by true true w = absurd (let k : ◌≡◌ {A = ℕ} 0 1 = cc in omega arith)
                by true false w = refl
                by false c w = refl

            pub off_line : None ≡ above_cut t r → Finished t row row 0 (reread_plan t mode row old a) (refusal unsound)
            off_line y = off (refusal unsound) (plan_line y)

            -- so many lines stand above the cut's end
            module _ (n : ℕ) (y : Some n ≡ above_cut t r) where
              record Sets : Type 0 where
                line : n ≡ line_at t r.end
                plan : cut_plan t mode row (i + 1) r ≡ go_on mode (i + 1) r.end (rebuild t r.end (recs_in row 0 (i + 1)) [])

              sets : Sets
              unfolding above_cut cut_plan
              sets = by (ends_line t r.end) (has_its_line t r) refl refl y
                where
                  by : (b c : Bool) → ends_line t r.end ≡ b → has_its_line t r ≡ c → Some n ≡ choose b (λ _. choose c (λ _. Some (line_at t r.end)) (λ _. None)) (λ _. None) → Sets
                  by true true v u w = record { line = cc; plan = rw (v, u) }
                  by true false v u w = absurd (let k : ◌≡◌ {A = ℕ} 0 1 = cc in omega arith)
                  by false c v u w = absurd (let k : ◌≡◌ {A = ℕ} 0 1 = cc in omega arith)

              pub on_line : n ≡ line_at t r.end
              on_line = sets.line

              -- a kept record is unsound
              pub plan_built : Rebuilt t r.end row (i + 1) None → refuse (refusal unsound) ≡ reread_plan t mode row old a
              unfolding go_on
              plan_built u = plan ∙ sym sets.plan ∙ at_cut
                where
                  plan : refuse (refusal unsound) ≡ go_on mode (i + 1) r.end (rebuild t r.end (recs_in row 0 (i + 1)) [])
                  plan = rw (← u.same)

              pub off_built : Rebuilt t r.end row (i + 1) None → Finished t row row 0 (reread_plan t mode row old a) (refusal unsound)
              off_built u = off (refusal unsound) (plan_built u)

              -- the reading goes on there
              module _ (o : Open) (u : Rebuilt t r.end row (i + 1) (Some o)) where
                pub go_ok : FinishOk t 0 o.levels o.depth r.end (i + 1)
                go_ok = record { within = omega (arith, end_within.end); text = text_ok t mode p; open' = u.ok.0; levels = u.ok.1; few = omega (arith, cut.few, edit.few) }

                pub plan_on : (full : Bool) → full ≡ lists_notes mode → go (i + 1) r.end full true (stack o.levels o.depth) ≡ reread_plan t mode row old a
                unfolding go_on
                plan_on full m = plan ∙ sym sets.plan ∙ at_cut
                  where
                    plan : go (i + 1) r.end full true (stack o.levels o.depth) ≡ go_on mode (i + 1) r.end (rebuild t r.end (recs_in row 0 (i + 1)) [])
                    plan = rw (← u.same, m)

                pub on_built : (full : Bool) → full ≡ lists_notes mode → (row' : List ℕ) (x : Answer) → Finished t row row' 0 (go (i + 1) r.end full true (stack o.levels o.depth)) x
                    → Finished t row row' 0 (reread_plan t mode row old a) x
                on_built full m row' x f = done (go (i + 1) r.end full true (stack o.levels o.depth)) (plan_on full m) row' x f

  -- the answer and the row
  module _ (row' : List ℕ) (x : Answer) (f : Finished t row row' 0 (reread_plan t mode row old a) x) where
    pub done_answer : x ≡ reread_answer t mode row old a
    unfolding reread_answer
    done_answer = f.answer

    pub done_row : row' ≡ reread_row t mode row old a
    unfolding reread_row
    done_row = f.records
