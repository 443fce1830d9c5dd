-- The trace of a reading up to a Newline that ends below a: it is the same for both texts.
-- Assumes nothing.
use Prim.Native.Nat.{ℕ, zero, suc, ◌-◌, ◌<◌, ◌≤◌}
use mathlib.Core.Path.{◌≡◌, refl, sym, ◌∙◌, ap, subst}
use mathlib.Core.List.{List, [], ◌∷◌, ◌++◌, append_assoc, append-nil}
use mathlib.Core.Bool.{true}
use mathlib.Core.Logic.{inl, inr, ⊎_elim}
use native.Mathlib.Omega.{arith}
use lib.ListN.{length, take}
use Rattle.window.proofs.Near.{Ended, near_cut}
use Rattle.indentation.specs.declared.Level.{Level}
use Rattle.rounds.specs.Rounds.{State, state, Outcome, error, more, end, round, Reading, prefixed, follow, raw_reading}
use Rattle.records.specs.Records.{Spanned, spanned}
use Rattle.rounds.proofs.Fuel.{Fwd, round_fwd, reading_round}
use Rattle.rereading.specs.Rereads.{built, rebuild}
use Rattle.edit_theorem.proofs.Spans.{rebuild_spans_lem}
use Rattle.edit_theorem.proofs.Local.{Went, NearUpto, round_too}
use Rattle.edit_theorem.proofs.Levels.{Rebuilds, round_rebuilds}
use Rattle.edit_theorem.proofs.Newlines.{Ends, Sort, round_sort, nil_no, no_line, all_at, split, only}
use Rattle.indentation.specs.Levels.{most_levels}
use Rattle.token.specs.Kinds as K

-- a round's records before others
lead : (x y z : List Spanned) (r : Reading) → prefixed x (prefixed (y ++ z) r) ≡ prefixed ((x ++ y) ++ z) r
unfolding prefixed
lead x y z r = simp append_assoc

-- a round's records and next state by other names
renamed : (t : List ℕ) (s : State) {x y : List Spanned} {u v : State} → x ≡ y → u ≡ v → raw_reading t s ≡ prefixed x (raw_reading t u) → raw_reading t s ≡ prefixed y (raw_reading t v)
renamed t s {x} {y} {u} {v} p q e = e ∙ ap (λ (z : List Spanned). prefixed z (raw_reading t u)) p ∙ ap (λ (z : State). prefixed y (raw_reading t z)) q

-- a Newline among a reading's records ends after the reading's start, and a line ends there
pub record Later (t : List ℕ) (s : State) (N : Spanned) : Type 0 where
  pub above : s.at < N.end
  pub ended : Ended t N.end

-- a Newline is not the one that is put in at the text's end
abbrev pub InText : List ℕ → Spanned → Type 0
InText t N = N.start ≡ length t → N.end ≡ length t → ⊥

module _ (t : List ℕ) where
  later_in : (n : ℕ) (s : State) → s.at ≤ length t → length t - s.at < n → (pre post : List Spanned) (N : Spanned) → (raw_reading t s).recs ≡ pre ++ N ∷ post → N.kind ≡ K.newline → InText t N
      → Later t s N
  unfolding follow prefixed
  later_in zero s h l pre post N e k b = absurd (omega arith)
  later_in (suc n) s h l pre post N e k b =
      go (round t s) (round_fwd t s h) (round_sort t s h) (sym (ap (λ (r : Reading). r.recs) (reading_round t s h)) ∙ e) (λ s'. later_in n s')
    where
      go : (o : Outcome) → Fwd s.at (length t) o → Sort t o → (follow o (raw_reading t)).recs ≡ pre ++ N ∷ post
          → ((s' : State) → s'.at ≤ length t → length t - s'.at < n → (pre post : List Spanned) (N : Spanned) → (raw_reading t s').recs ≡ pre ++ N ∷ post → N.kind ≡ K.newline → InText t N → Later t s' N)
          → Later t s N
      go (error w p) f z y ih = absurd (nil_no pre post N y)
      go (end rs p) f z y ih = let a = all_at p pre post rs N y z k in absurd (b (a.0 ∙ f) (a.1 ∙ f))
      go (more rs s') f z y ih =
          ⊎_elim
          (λ i. ⊎_elim (λ m. absurd (no_line pre i.rest rs N i.left m k))
          (λ m. let o = only m.pend pre i.rest (spanned K.newline m.from s'.at) N m.none k (sym m.shape ∙ i.left) in
          let q : N.end ≡ s'.at = ap (λ (r : Spanned). r.end) o.same in
          record { above = omega (arith, f.0); ended = subst (Ended t) (sym q) m.ended }) z)
          (λ i. let r = ih s' f.1 (omega arith) i.rest post N i.right k b in record { above = omega (arith, r.above); ended = r.ended })
          (split rs (raw_reading t s').recs pre post N y)

  pub later : (s : State) → s.at ≤ length t → (pre post : List Spanned) (N : Spanned) → (raw_reading t s).recs ≡ pre ++ N ∷ post → N.kind ≡ K.newline → InText t N → Later t s N
  later s h = later_in (suc (length t)) s h (omega arith)

-- readings of two texts that have read the records up to a Newline: they go on at a line's start with the levels that are rebuilt from them
pub record Cut (t₁ t₂ : List ℕ) (s : State) (pre : List Spanned) (N : Spanned) : Type 0 where
  pub held : List Level
  pub first : raw_reading t₁ s ≡ prefixed (pre ++ N ∷ []) (raw_reading t₁ (state N.end true 0 held))
  pub reads : raw_reading t₂ s ≡ prefixed (pre ++ N ∷ []) (raw_reading t₂ (state N.end true 0 held))
  pub levels : rebuild_spans_lem t₂ N.end (pre ++ N ∷ []) s.levels ≡ built held
  pub above : s.at < N.end

module _ (t₁ t₂ : List ℕ) (N : Spanned) (k : N.kind ≡ K.newline) (within : InText t₁ N) (fits : N.end ≤ length t₂) (near : NearUpto t₁ t₂ N.end) where
  -- a round of the first text up to the cut, seen in the second
  seen : (s : State) (rs : List Spanned) (s' : State) → s.at ≤ length t₁ → s.at ≤ length t₂ → round t₁ s ≡ more rs s' → Went N.end (more rs s')
      → (round t₂ s ≡ more rs s') × (raw_reading t₁ s ≡ prefixed rs (raw_reading t₁ s')) × (raw_reading t₂ s ≡ prefixed rs (raw_reading t₂ s'))
  unfolding follow
  seen s rs s' h₁ h₂ e l =
      let q : round t₂ s ≡ more rs s' = round_too t₁ t₂ N.end near s h₁ (subst (Went N.end) (sym e) l) ∙ e in
      (q, reading_round t₁ s h₁ ∙ rw e, reading_round t₂ s h₂ ∙ rw q)

  rebuilt : (s : State) (rs : List Spanned) (s' : State) → s.at ≤ length t₂ → length s.levels ≤ most_levels → round t₂ s ≡ more rs s' → Rebuilds t₂ N.end s.levels (more rs s')
  rebuilt s rs s' h m e = subst (Rebuilds t₂ N.end s.levels) e (round_rebuilds t₂ N.end s h m)

  cut_here : (s : State) (rs : List Spanned) (s' : State) (pre rest : List Spanned) → s.at ≤ length t₁ → s.at ≤ length t₂ → length s.levels ≤ most_levels → round t₁ s ≡ more rs s' → s.at < s'.at
      → rs ≡ pre ++ N ∷ rest → Ends t₁ rs s' → Cut t₁ t₂ s pre N
  unfolding rebuild
  cut_here s rs s' pre rest h₁ h₂ m e f q n =
      let o = only n.pend pre rest (spanned K.newline n.from s'.at) N n.none k (sym n.shape ∙ q) in
      let z : N.end ≡ s'.at = ap (λ (r : Spanned). r.end) o.same in
      let w = seen s rs s' h₁ h₂ e (inr (omega arith, ap (λ (x : State). x.at_line_start) n.at_line_start)) in
      let v : rs ≡ pre ++ N ∷ [] = q ∙ ap (λ (r : List Spanned). pre ++ N ∷ r) o.none in
      let y : s' ≡ state N.end true 0 s'.levels = n.at_line_start ∙ ap (λ (i : ℕ). state i true 0 s'.levels) (sym z) in
      let r = rebuilt s rs s' h₂ m w.0 in
      record {
        held = s'.levels;
        first = renamed t₁ s v y w.1;
        reads = renamed t₂ s v y w.2;
        levels = ap (λ (x : List Spanned). rebuild_spans_lem t₂ N.end x s.levels) (sym v ∙ sym (append-nil rs)) ∙ r.1 (omega arith) [];
        above = omega arith;
      }

  cut_on : (s : State) (rs : List Spanned) (s' : State) (pre' : List Spanned) → s.at ≤ length t₁ → s.at ≤ length t₂ → length s.levels ≤ most_levels → round t₁ s ≡ more rs s' → s.at < s'.at
      → s'.at < N.end → (length s'.levels ≤ most_levels → Cut t₁ t₂ s' pre' N) → Cut t₁ t₂ s (rs ++ pre') N
  cut_on s rs s' pre' h₁ h₂ m e f l d =
      let w = seen s rs s' h₁ h₂ e (inl l) in
      let r = rebuilt s rs s' h₂ m w.0 in
      let c = d r.0 in
      record {
        held = c.held;
        first = w.1 ∙ ap (prefixed rs) c.first ∙ lead rs pre' (N ∷ []) _;
        reads = w.2 ∙ ap (prefixed rs) c.reads ∙ lead rs pre' (N ∷ []) _;
        levels = ap (λ (x : List Spanned). rebuild_spans_lem t₂ N.end x s.levels) (append_assoc rs pre' (N ∷ [])) ∙ r.1 (omega arith) (pre' ++ N ∷ []) ∙ c.levels;
        above = omega arith;
      }

  follows : (n : ℕ) (s : State) → s.at ≤ length t₁ → s.at ≤ length t₂ → length s.levels ≤ most_levels → length t₁ - s.at < n → (pre post : List Spanned) → (raw_reading t₁ s).recs ≡ pre ++ N ∷ post → Cut t₁ t₂ s pre N
  unfolding follow prefixed
  follows zero s h₁ h₂ m l pre post e = absurd (omega arith)
  follows (suc n) s h₁ h₂ m l pre post e =
      go (round t₁ s) refl (round_fwd t₁ s h₁) (round_sort t₁ s h₁) (sym (ap (λ (r : Reading). r.recs) (reading_round t₁ s h₁)) ∙ e) (λ s'. follows n s')
    where
      go : (o : Outcome) → round t₁ s ≡ o → Fwd s.at (length t₁) o → Sort t₁ o → (follow o (raw_reading t₁)).recs ≡ pre ++ N ∷ post
          → ((s' : State) → s'.at ≤ length t₁ → s'.at ≤ length t₂ → length s'.levels ≤ most_levels → length t₁ - s'.at < n → (pre post : List Spanned) → (raw_reading t₁ s').recs ≡ pre ++ N ∷ post → Cut t₁ t₂ s' pre N)
          → Cut t₁ t₂ s pre N
      go (error w p) q f z y ih = absurd (nil_no pre post N y)
      go (end rs p) q f z y ih = let a = all_at p pre post rs N y z k in absurd (within (a.0 ∙ f) (a.1 ∙ f))
      go (more rs s') q f z y ih =
          ⊎_elim
          (λ i. ⊎_elim (λ x. absurd (no_line pre i.rest rs N i.left x k)) (λ x. cut_here s rs s' pre i.rest h₁ h₂ m q f.0 i.left x) z)
          (λ i. let x = (later t₁ s' f.1 i.rest post N i.right k within).above in
          subst (λ (u : List Spanned). Cut t₁ t₂ s u N) (sym i.left)
          (cut_on s rs s' i.rest h₁ h₂ m q f.0 x (λ v. ih s' f.1 (omega arith) v (omega arith) i.rest post i.right)))
          (split rs (raw_reading t₁ s').recs pre post N y)

  -- THE law of the trace: the second text's reading has the first one's records up to the Newline
  pub trace_near : (s : State) → s.at ≤ length t₁ → length s.levels ≤ most_levels → (pre post : List Spanned) → (raw_reading t₁ s).recs ≡ pre ++ N ∷ post → Cut t₁ t₂ s pre N
  trace_near s h m pre post e =
      let x = later t₁ s h pre post N e k within in
      follows (suc (length t₁)) s h (omega (arith, x.above)) m (omega arith) pre post e

-- the same of texts that agree on their first bytes, beyond the Newline
pub trace : (t₁ t₂ : List ℕ) (a : ℕ) → take a t₁ ≡ take a t₂ → a ≤ length t₁ → a ≤ length t₂ → (s : State) → s.at ≤ length t₁ → length s.levels ≤ most_levels
    → (pre post : List Spanned) (N : Spanned) → (raw_reading t₁ s).recs ≡ pre ++ N ∷ post → N.kind ≡ K.newline → N.end < a → Cut t₁ t₂ s pre N × Later t₁ s N
trace t₁ t₂ a same a₁ a₂ s h m pre post N e k b =
    let w : InText t₁ N = λ _ z. omega arith in
    let x = later t₁ s h pre post N e k w in
    (trace_near t₁ t₂ N k w (omega arith) (λ at l. near_cut t₁ t₂ a N.end same b at l x.ended) s h m pre post e, x)
