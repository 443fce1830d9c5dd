-- Re-reading from a row that holds an old text's records: the plan reads on where the whole reading of the new text stands. The kept
-- records' lines are those of the new text too: they start before A, and so far the texts agree.
-- Assumes nothing.
use Prim.Native.Nat.{ℕ, suc, ◌+◌, ◌-◌, ◌<◌, ◌≤◌}
use mathlib.Core.Path.{◌≡◌, refl, sym, ◌∙◌, ap, subst}
use mathlib.Core.List.{List, [], ◌∷◌, ◌++◌, map, append_assoc, map-append}
use mathlib.Core.Bool.{Bool, true}
use mathlib.Core.Logic.{inl, inr, ⊎_elim}
use native.Mathlib.Omega.{arith}
use borrow.Author.Tests.{eq-eqb, ne_eqb, le-ltb}
use lib.Dec.{ltb, eqb}
use lib.ListN.{length, take, length-append, length-map}
use lib.Seq.{take_at}
use Rattle.choice.specs.Choice.{choose}
use Rattle.choice.proofs.Laws.{choose_both}
use Rattle.lines.specs.Lines.{is_line_end, line_at}
use Rattle.lines.proofs.Laws.{line_near}
use Rattle.window.specs.Place.{text_start}
use Rattle.window.proofs.Near.{Ended, same_at, text_start_beside, ended_too, near_cut}
use Rattle.window.proofs.Near.Beside.{beside}
use Rattle.token.specs.Kinds.{newline}
use Rattle.token.specs.declared.Record.{Record}
use Rattle.indentation.specs.declared.Level.{Level}
use Rattle.rounds.specs.Rounds.{state, Reading, prefixed, view}
use Rattle.soft_keywords.specs.SoftKeywords.{soften}
use Rattle.soft_keywords.proofs.Second.{soften_length, soften_block}
use Rattle.records.specs.Records.{Spanned, record_in, puts, rec_at, recs_in, room}
use Rattle.records.specs.Promises.{blank}
use Rattle.records.proofs.Puts.{puts_append, puts_same}
use Rattle.answers.specs.declared.Answer.{Answer}
use Rattle.reading.specs.Modes.{lists_notes, starts_line}
use Rattle.reading.specs.Answers.{Plan, go, answered, written, plan_answer, plan_row, whole_plan, text_refusal, unless, read_plan, read_answer, read_row}
use Rattle.answers.specs.Answers.{answer, refusal, no_room_for}
use Rattle.records.specs.Limits.{most_records}
use Rattle.reading.proofs.Calls.{text_start_within}
use Rattle.rereading.specs.Rereads.{kept_up_to, built, rebuild, ends_line, has_its_line, go_on, cut_plan, kept_plan, edit_refusal, reread_plan, reread_answer, reread_row}
use Rattle.edit_theorem.proofs.Trace.{Later}
use Rattle.edit_theorem.proofs.Views.{ViewCut, view_trace}
use Rattle.edit_theorem.proofs.Rows.{last, last_row, Stands, last_soft}
use Rattle.records.proofs.Recs.{length_recs, recs_take}
use Rattle.edit_theorem.proofs.Spans.{kept_spans_lem, kept_spans, rebuild_spans, same_lines}
use Rattle.edit_theorem.proofs.Kept.{kept_soft, rebuild_soft, Found, found}
use Rattle.edit_theorem.proofs.RowHolds.{first}

-- a line ends where re-reading looks for its end
ends_line_lem : (t : List ℕ) (e : ℕ) → 0 < e → Ended t e → ends_line t e ≡ true
unfolding ends_line is_line_end
ends_line_lem t e h (inl b) = let n : e ≡ 0 → ⊥ = omega arith in rw (ne_eqb _ _ n, eq-eqb _ _ b)
ends_line_lem t e h (inr b) = let n : e ≡ 0 → ⊥ = omega arith in rw (ne_eqb _ _ n, b.0, ne_eqb _ _ b.1)

-- plans that say the same, under the same refusals
unless_same : {A : Type 0} (f : Plan → A) (r : Answer) (p q : Plan) → f p ≡ f q → f (unless r (λ _. p)) ≡ f (unless r (λ _. q))
unfolding unless
unless_same {A} f r p q e = choose_both (λ (x y : Plan). f x ≡ f y) (eqb r.code 0) (λ _. e) (λ _. refl)

module _ (before after : List ℕ) (mode : ℕ) (row : List ℕ) (old a : ℕ) (same : take a before ≡ take a after) (a₁ : a ≤ length before) (a₂ : a ≤ length after)
    (enough : old ≤ room row) (few : old ≤ most_records) (holds : recs_in row 0 old ≡ map (record_in before 0) (soften (starts_line mode) (view (lists_notes mode) before (first before)).recs)) where
  abbrev line : Bool
  line = starts_line mode

  abbrev full : Bool
  full = lists_notes mode

  abbrev kept : ℕ
  kept = kept_up_to a (recs_in row 0 old)

  -- the cut in the row is that of the old text's raw records
  raw_cut : kept ≡ kept_spans_lem a (view full before (first before)).recs
  raw_cut = ap (kept_up_to a) holds ∙ kept_spans a before (soften line (view full before (first before)).recs) ∙ kept_soft a line (view full before (first before)).recs

  -- a plan that reads on where the whole reading of the new text stands, behind records that the row has
  record Goes (p : Plan) : Type 0 where
    front : List Spanned
    at : ℕ
    next : Bool
    levels : List Level
    plan : p ≡ go (length front) at full next levels
    reads : view full after (first after) ≡ prefixed front (view full after (state at true 0 levels))
    given : recs_in row 0 (length front) ≡ map (record_in after 0) (soften line front)
    rest : soften line (front ++ (view full after (state at true 0 levels)).recs) ≡ soften line front ++ soften next (view full after (state at true 0 levels)).recs

  -- without a cut the text is read whole
  none : kept ≡ 0 → Goes (kept_plan after mode row kept)
  unfolding kept_plan recs_in soften prefixed
  none e = record { front = []; at = (text_start after).at; next = line; levels = []; plan = rw (eq-eqb _ _ e); reads = refl; given = refl; rest = refl }

  cut_plan_lem : (k : ℕ) (N : Spanned) → (k ≡ 0 → ⊥) → Stands after N (rec_at row (k - 1)) → ends_line after N.end ≡ true
      → (ls : List Level) → rebuild after N.end (recs_in row 0 k) [] ≡ built ls → kept_plan after mode row k ≡ go k N.end full true ls
  unfolding kept_plan cut_plan has_its_line go_on
  cut_plan_lem k N z E l ls B =
      let L : eqb (rec_at row (k - 1)).line (line_at after (rec_at row (k - 1)).start) ≡ true = eq-eqb _ _ (E.line ∙ ap (line_at after) (sym E.start)) in
      rw (ne_eqb _ _ z, L, E.end, l, B)

  some : Found a (view full before (first before)).recs kept → Goes (kept_plan after mode row kept)
  some f =
      let N = f.line in
      let K = f.pre ++ N ∷ [] in
      let x = view_trace full before after a same a₁ a₂ (first before) (text_start_within before) (omega arith) f.pre f.post N f.shape f.kind f.low in
      let c = x.0 in
      let b : (text_start after).at ≡ (text_start before).at =
      same_at (text_start_beside before after (beside (near_cut before after a N.end same f.low 0 (omega (arith, c.above)) x.1.ended))) in
      let m : kept ≡ length K = omega (arith, f.count, length-append f.pre (N ∷ [])) in
      let e₁ : f.pre ++ N ∷ f.post ≡ K ++ f.post = sym (append_assoc f.pre (N ∷ []) f.post) in
      let D = map (record_in before 0) in
      let R : recs_in row 0 old ≡ D (soften line K) ++ D (soften true f.post) =
      holds ∙ ap (λ (l : List Spanned). D (soften line l)) f.shape ∙ ap D (soften_block line f.pre f.post N f.kind) ∙ map-append (record_in before 0) (soften line K) (soften true f.post) in
      let n : length (D (soften line K)) ≡ length K = length-map (soften line K) (record_in before 0) ∙ soften_length line K in
      let h : length K ≤ old = omega (arith, length_recs row 0 old, ap (λ (l : List Record). length l) R, length-append (D (soften line K)) (D (soften true f.post))) in
      let g : recs_in row 0 (length K) ≡ map (record_in after 0) (soften line K) =
      recs_take row 0 (length K) old h ∙ ap (take (length K)) R ∙ take_at (D (soften line K)) (D (soften true f.post)) (length K) n
      ∙ same_lines before after N.end (λ p l. line_near before after a p same (omega (arith, f.low))) after (soften line K) [] c.held (rebuild_soft after N.end line K [] ∙ c.levels) in
      record {
        front = K;
        at = N.end;
        next = true;
        levels = c.held;
        plan = plan_some f.pre N c x.1 f.kind f.low m g;
        reads = ap (λ (i : ℕ). view full after (state i true 0 [])) b ∙ c.reads;
        given = g;
        rest = ap (soften line) (append_assoc f.pre (N ∷ []) _) ∙ soften_block line f.pre _ N f.kind;
      }
    where
      plan_some : (pre : List Spanned) (N : Spanned) (c : ViewCut full after (first before) pre N) → Later before (first before) N → N.kind ≡ newline → N.end < a → kept ≡ length (pre ++ N ∷ [])
          → recs_in row 0 (length (pre ++ N ∷ [])) ≡ map (record_in after 0) (soften line (pre ++ N ∷ [])) → kept_plan after mode row kept ≡ go (length (pre ++ N ∷ [])) N.end full true c.held
      plan_some pre N c x z l m g =
          let K = pre ++ N ∷ [] in
          let n : length K ≡ suc (length K - 1) = omega (arith, length-append pre (N ∷ [])) in
          let w : length K ≡ 0 → ⊥ = omega arith in
          let y : 0 + (length K - 1) ≡ length K - 1 = omega arith in
          let q : last blank (map (record_in after 0) (soften line K)) ≡ rec_at row (length K - 1) =
          ap (last blank) (sym g) ∙ ap (λ (i : ℕ). last blank (recs_in row 0 i)) n ∙ last_row row (length K - 1) 0 blank ∙ ap (rec_at row) y in
          let B : rebuild after N.end (recs_in row 0 (length K)) [] ≡ built c.held =
          ap (λ (l : List Record). rebuild after N.end l []) g ∙ rebuild_spans after N.end after (soften line K) [] ∙ rebuild_soft after N.end line K [] ∙ c.levels in
          rw m (cut_plan_lem (length K) N w (subst (Stands after N) q (last_soft after line pre N blank)) (ends_line_lem after N.end (omega (arith, x.above)) (ended_too before after a N.end same l x.ended)) c.held B)

  all : Goes (kept_plan after mode row kept)
  all = ⊎_elim (λ e. none (raw_cut ∙ e)) (λ f. some (subst (Found a (view full before (first before)).recs) (sym raw_cut) f)) (found a (view full before (first before)).recs)

  abbrev F : List Spanned
  F = all.front

  abbrev W : Reading
  W = view full after (state all.at true 0 all.levels)

  count : length F + length W.recs ≡ 0 + length (F ++ W.recs)
  count = omega (arith, length-append F W.recs)

  -- the kept records written again, and the others behind them
  rows : puts after 0 row (length F) (soften all.next W.recs) ≡ puts after 0 row 0 (soften line (F ++ W.recs))
  rows =
      let l = soften_length line F in
      let p : puts after 0 row 0 (soften line F) ≡ row = puts_same after 0 (soften line F) row 0 (ap (recs_in row 0) l ∙ all.given) in
      let n : 0 + length (soften line F) ≡ length F = omega (arith, l) in
      let q : puts after 0 row 0 (soften line F ++ soften all.next W.recs) ≡ puts after 0 row (length F) (soften all.next W.recs) =
      puts_append after 0 (soften line F) (soften all.next W.recs) row 0 ∙ rw (p, n) in
      sym (ap (puts after 0 row 0) all.rest ∙ q)

  -- reading on behind the cut answers and leaves what reading the whole text does
  kept_answer : plan_answer after 0 row (kept_plan after mode row kept) ≡ plan_answer after 0 row (whole_plan after mode)
  unfolding plan_answer answered prefixed
  kept_answer =
      ap (plan_answer after 0 row) all.plan
      ∙ ap (λ (n : ℕ). choose (ltb (room row) n) (λ _. no_room_for n) (λ _. answer W.code n (0 + W.place) W.detail)) count
      ∙ ap (answered after 0 row 0) (sym all.reads)

  kept_row : plan_row after 0 row (kept_plan after mode row kept) ≡ plan_row after 0 row (whole_plan after mode)
  unfolding plan_row written prefixed
  kept_row =
      ap (plan_row after 0 row) all.plan
      ∙ ap (λ (n : ℕ). choose (ltb (room row) n) (λ _. row) (λ _. puts after 0 row (length F) (soften all.next W.recs))) count
      ∙ ap (λ (l : List ℕ). choose (ltb (room row) (0 + length (F ++ W.recs))) (λ _. row) (λ _. l)) rows
      ∙ ap (written after 0 row 0 line) (sym all.reads)

  -- code 5 does not apply, and codes 1 to 3 apply to both
  edit_none : edit_refusal (length after) (room row) old a ≡ refusal 0
  unfolding edit_refusal
  edit_none = rw (le-ltb _ _ enough, le-ltb _ _ few, le-ltb _ _ a₂)

  edit_plan : reread_plan after mode row old a ≡ unless (text_refusal after mode 0) (λ _. kept_plan after mode row kept)
  unfolding reread_plan unless
  edit_plan = rw edit_none

  pub edit_answer : reread_answer after mode row old a ≡ read_answer after mode 0 row
  unfolding reread_answer read_answer read_plan
  edit_answer = ap (plan_answer after 0 row) edit_plan ∙ unless_same (plan_answer after 0 row) (text_refusal after mode 0) _ _ kept_answer

  pub edit_row : reread_row after mode row old a ≡ read_row after mode 0 row
  unfolding reread_row read_row read_plan
  edit_row = ap (plan_row after 0 row) edit_plan ∙ unless_same (plan_row after 0 row) (text_refusal after mode 0) _ _ kept_row
