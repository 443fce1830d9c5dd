-- The trace of a reading with its notes or without, up to a Newline that ends below a.
-- Assumes nothing.
use Prim.Native.Nat.{ℕ, ◌<◌, ◌≤◌}
use mathlib.Core.Path.{◌≡◌, refl, sym, ◌∙◌, ap}
use mathlib.Core.List.{List, [], ◌∷◌, ◌++◌}
use mathlib.Core.Bool.{Bool, true, false}
use mathlib.Core.Logic.{◌⊎◌, inl, inr, ⊎_elim}
use native.Mathlib.Omega.{arith}
use borrow.Author.Tests.{ne_eqb}
use lib.Dec.{ltb}
use Rattle.std.specs.Prelude.{Option, None, Some}
use lib.ListN.{length, take}
use Rattle.choice.proofs.Laws.{choose_keeps}
use Rattle.token.specs.Kinds as K
use Rattle.records.specs.Records.{Spanned}
use Rattle.indentation.specs.declared.Level.{Level}
use Rattle.lexer.specs.Steps.{is_note, is_listed}
use Rattle.rounds.specs.Rounds.{State, state, prefixed, raw_reading, listed_records, listed_reading, view}
use Rattle.rounds.proofs.Listed.{listed_nil, listed_yes, listed_no, note_kinds, unlisted, listed_append, listed_reading_prefixed}
use Rattle.rereading.specs.declared.Effect.{Effect}
use Rattle.rereading.specs.declared.Effect.TheVariants.{Opens, Closes, Stays}
use Rattle.rereading.specs.Rereads.{effect_of, Built, built, applied, rebuild}
use Rattle.edit_theorem.proofs.Spans.{bare, rebuild_spans_lem, not_broken}
use Rattle.edit_theorem.proofs.Newlines.{nil_no, head_eq, tail_eq}
use Rattle.edit_theorem.proofs.Trace.{Later, trace}
use Rattle.indentation.specs.Levels.{most_levels}

-- ---- a record that is listed stands in the raw list, between what is listed on its two sides
pub record Stands (full : Bool) (rs pre post : List Spanned) (N : Spanned) : Type 0 where
  pub front : List Spanned
  pub back : List Spanned
  pub shape : rs ≡ front ++ N ∷ back
  pub before : listed_records full front ≡ pre
  pub behind : listed_records full back ≡ post

pub stands : (full : Bool) (rs pre post : List Spanned) (N : Spanned) → listed_records full rs ≡ pre ++ N ∷ post → Stands full rs pre post N
stands full [] pre post N e = absurd (nil_no pre post N (sym (listed_nil full) ∙ e))
stands full (r ∷ rs) pre post N e = go (is_listed full r.kind) refl pre e (λ p. stands full rs p post N)
  where
    go : (b : Bool) → is_listed full r.kind ≡ b → (pre : List Spanned) → listed_records full (r ∷ rs) ≡ pre ++ N ∷ post
        → ((p : List Spanned) → listed_records full rs ≡ p ++ N ∷ post → Stands full rs p post N) → Stands full (r ∷ rs) pre post N
    go false l pre e ih =
        let s = ih pre (sym (listed_no full r rs l) ∙ e) in
        record { front = r ∷ s.front; back = s.back; shape = ap (λ (x : List Spanned). r ∷ x) s.shape; before = listed_no full r s.front l ∙ s.before; behind = s.behind }
    go true l [] e ih =
        let q = sym (listed_yes full r rs l) ∙ e in
        record { front = []; back = rs; shape = ap (λ (x : Spanned). x ∷ rs) (head_eq _ _ _ _ q); before = listed_nil full; behind = tail_eq _ _ _ _ q }
    go true l (p ∷ pre) e ih =
        let q = sym (listed_yes full r rs l) ∙ e in
        let s = ih pre (tail_eq _ _ _ _ q) in
        record {
          front = r ∷ s.front;
          back = s.back;
          shape = ap (λ (x : List Spanned). r ∷ x) s.shape;
          before = listed_yes full r s.front l ∙ ap (λ (x : List Spanned). r ∷ x) s.before ∙ ap (λ (x : Spanned). x ∷ pre) (head_eq _ _ _ _ q);
          behind = s.behind;
        }

-- ---- notes rebuild nothing
abbrev Idle : Option Effect → Type 0
Idle x = (x ≡ None) ⊎ (x ≡ Some Stays)

note_idle : (t : List ℕ) (e d : ℕ) (r : Spanned) → is_note r.kind ≡ true → Idle (effect_of t e d (bare r))
unfolding effect_of
note_idle t e d r h =
    let k = note_kinds r.kind h in
    let a : r.kind ≡ K.indent → ⊥ = λ z. ⊎_elim (λ y. omega arith) (λ y. omega arith) k in
    let b : r.kind ≡ K.dedent → ⊥ = λ z. ⊎_elim (λ y. omega arith) (λ y. omega arith) k in
    choose_keeps Idle (ltb r.end r.start) (λ _. inl refl)
    (λ _. choose_keeps Idle (ltb e r.end) (λ _. inl refl) (λ _. rw (ne_eqb _ _ a, ne_eqb _ _ b) (inr refl)))

rebuild_cons : (t : List ℕ) (e : ℕ) (r : Spanned) (rs : List Spanned) (ls : List Level) → rebuild_spans_lem t e (r ∷ rs) ls ≡ applied (effect_of t e (length ls) (bare r)) ls (rebuild_spans_lem t e rs)
unfolding rebuild
rebuild_cons t e r rs ls = refl

act_on : (z : Option Effect) (ls : List Level) (k k' : List Level → Built) (x : List Level) → ((l : List Level) → k l ≡ built x → k' l ≡ built x) → applied z ls k ≡ built x → applied z ls k' ≡ built x
unfolding applied
act_on None ls k k' x ih h = h
act_on (Some (Opens y)) ls k k' x ih h = ih _ h
act_on (Some Closes) ls k k' x ih h = ih _ h
act_on (Some Stays) ls k k' x ih h = ih _ h

idle_on : (z : Option Effect) (ls : List Level) (k k' : List Level → Built) (x : List Level) → ((l : List Level) → k l ≡ built x → k' l ≡ built x) → Idle z → applied z ls k ≡ built x → k' ls ≡ built x
unfolding applied
idle_on z ls k k' x ih (inl u) h = absurd (not_broken x (rw u at h))
idle_on z ls k k' x ih (inr u) h = ih ls (rw u at h)

-- records that rebuild levels rebuild the same without their notes
pub rebuild_listed : (full : Bool) (t : List ℕ) (e : ℕ) (x : List Level) (rs : List Spanned) (ls : List Level) → rebuild_spans_lem t e rs ls ≡ built x → rebuild_spans_lem t e (listed_records full rs) ls ≡ built x
unfolding rebuild
rebuild_listed full t e x [] ls h = rw (listed_nil full) h
rebuild_listed full t e x (r ∷ rs) ls h = go (is_listed full r.kind) refl h (λ l. rebuild_listed full t e x rs l)
  where
    acts : (z : Option Effect) → applied z ls (rebuild_spans_lem t e rs) ≡ built x → ((l : List Level) → rebuild_spans_lem t e rs l ≡ built x → rebuild_spans_lem t e (listed_records full rs) l ≡ built x) → applied z ls (rebuild_spans_lem t e (listed_records full rs)) ≡ built x
    acts z h ih = act_on z ls (rebuild_spans_lem t e rs) (rebuild_spans_lem t e (listed_records full rs)) x ih h

    go : (b : Bool) → is_listed full r.kind ≡ b → applied (effect_of t e (length ls) (bare r)) ls (rebuild_spans_lem t e rs) ≡ built x
        → ((l : List Level) → rebuild_spans_lem t e rs l ≡ built x → rebuild_spans_lem t e (listed_records full rs) l ≡ built x) → rebuild_spans_lem t e (listed_records full (r ∷ rs)) ls ≡ built x
    go true l h ih = ap (λ (y : List Spanned). rebuild_spans_lem t e y ls) (listed_yes full r rs l) ∙ rebuild_cons t e r (listed_records full rs) ls ∙ acts (effect_of t e (length ls) (bare r)) h ih
    go false l h ih =
        ap (λ (y : List Spanned). rebuild_spans_lem t e y ls) (listed_no full r rs l)
        ∙ idle_on (effect_of t e (length ls) (bare r)) ls (rebuild_spans_lem t e rs) (rebuild_spans_lem t e (listed_records full rs)) x ih (note_idle t e (length ls) r (unlisted full r.kind l)) h

-- ---- the trace, as it is listed
pub record ViewCut (full : Bool) (t : List ℕ) (s : State) (pre : List Spanned) (N : Spanned) : Type 0 where
  pub held : List Level
  pub reads : view full t s ≡ prefixed (pre ++ N ∷ []) (view full t (state N.end true 0 held))
  pub levels : rebuild_spans_lem t N.end (pre ++ N ∷ []) s.levels ≡ built held
  pub above : s.at < N.end

line_listed : (full : Bool) (N : Spanned) → N.kind ≡ K.newline → is_listed full N.kind ≡ true
unfolding is_listed is_note
line_listed full N k = rw k

-- THE law of the trace, for a reading with its notes or without
pub view_trace : (full : Bool) (t₁ t₂ : List ℕ) (a : ℕ) → take a t₁ ≡ take a t₂ → a ≤ length t₁ → a ≤ length t₂ → (s : State) → s.at ≤ length t₁ → length s.levels ≤ most_levels
    → (pre post : List Spanned) (N : Spanned) → (view full t₁ s).recs ≡ pre ++ N ∷ post → N.kind ≡ K.newline → N.end < a → ViewCut full t₂ s pre N × Later t₁ s N
unfolding view listed_reading
view_trace full t₁ t₂ a same a₁ a₂ s h m pre post N e k b =
    let p = stands full (raw_reading t₁ s).recs pre post N e in
    let x = trace t₁ t₂ a same a₁ a₂ s h m p.front p.back N p.shape k b in
    let c = x.0 in
    let z : listed_records full (p.front ++ N ∷ []) ≡ pre ++ N ∷ [] = listed_append full p.front (N ∷ []) ∙ ap (λ (y : List Spanned). y ++ listed_records full (N ∷ [])) p.before ∙ ap (λ (y : List Spanned). pre ++ y) (listed_yes full N [] (line_listed full N k) ∙ ap (λ (y : List Spanned). N ∷ y) (listed_nil full)) in (
      record {
        held = c.held;
        reads = ap (listed_reading full) c.reads ∙ listed_reading_prefixed full (p.front ++ N ∷ []) _ ∙ ap (λ (y : List Spanned). prefixed y (listed_reading full (raw_reading t₂ (state N.end true 0 c.held)))) z;
        levels = ap (λ (y : List Spanned). rebuild_spans_lem t₂ N.end y s.levels) (sym z) ∙ rebuild_listed full t₂ N.end c.held (p.front ++ N ∷ []) s.levels c.levels;
        above = c.above;
      },
      x.1,
    )
