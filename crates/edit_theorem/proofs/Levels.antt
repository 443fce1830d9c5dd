-- What a round does to the levels: those of its next state are rebuilt from its records and the text's bytes.
-- Assumes nothing.
use Prim.Native.Nat.{ℕ, zero, suc, ◌+◌, ◌-◌, ◌<◌, ◌≤◌}
use Prim.Native.Char.{code}
use mathlib.Core.Path.{◌≡◌, refl, sym, ◌∙◌, ap, subst}
use mathlib.Core.List.{List, [], ◌∷◌, ◌++◌, append_assoc}
use mathlib.Core.Bool.{Bool, true, false}
use mathlib.Core.Logic.{◌⊎◌, inl, inr, ⊎_elim}
use native.Mathlib.Omega.{arith}
use native.Mathlib.Nat.{add-zero}
use borrow.Author.Tests.{eq-eqb, ne_eqb, lt-ltb, le-ltb}
use Rattle.std.specs.Prelude.{Some}
use lib.ListN.{length, get_or, drop, replicate, length-drop, length-replicate}
use lib.Seq.{get_or-drop, drop-drop, drop_at}
use Rattle.choice.proofs.Laws.{choose_keeps}
use Rattle.window.specs.Place.{place_at}
use Rattle.indentation.specs.declared.Level.{Level}
use Rattle.std.specs.Prelude.{Result, Ok, Err}
use Rattle.token.specs.declared.Ending.{Ending}
use Rattle.indentation.specs.declared.LevelChange.{LevelChange}
use Rattle.indentation.specs.declared.LevelChange.TheVariants as S
use Rattle.indentation.specs.Notes.{notes}
use Rattle.indentation.proofs.NoteLaws.{Upto, notes_upto}
use Rattle.indentation.specs.Levels.{level, most_levels}
use Rattle.indentation.proofs.Bounds.{Lined, Counted, blanks_counted}
use Rattle.lexer.specs.declared.Step.{Step}
use Rattle.lexer.specs.declared.Step.TheVariants as T
use Rattle.lexer.proofs.Goes.{Goes, step_goes}
use Rattle.rounds.specs.Rounds.{State, Outcome, error, more, end, dedents, with_item, at_level, line_start, round}
use Rattle.records.specs.Records.{Spanned, spanned}
use Rattle.rounds.proofs.Margins.{by_blanks, ChangeOk, change_ok}
use Rattle.rereading.specs.declared.Effect.TheVariants.{Opens}
use Rattle.rereading.specs.Rereads.{run_length, indent_of, indent_in, effect_of, applied, rebuild}
use Rattle.edit_theorem.proofs.Spans.{rebuild_spans_lem}
use Rattle.token.specs.Kinds as K

-- ---- the bytes of an Indent
-- so many bytes b, with nothing or another byte behind them, are a run of that many
module _ (t : List ℕ) (b : ℕ) where
  run_front : (k n i : ℕ) (r : List ℕ) → drop i t ≡ replicate k b ++ r → (n ≡ 0) ⊎ (get_or r 0 0 ≡ b → ⊥) → run_length t b i (k + n) ≡ k
  unfolding run_length
  run_front zero zero i r e o = refl
  run_front zero (suc n) i r e (inl z) = absurd (omega arith)
  run_front zero (suc n) i r e (inr f) =
      let z : 0 + suc n ≡ suc n = omega arith in
      let g : get_or t i 0 ≡ get_or r 0 0 = sym (get_or-drop i t 0 0 ∙ rw add-zero) ∙ ap (λ l. get_or l 0 0) e in
      rw (z, ne_eqb (get_or t i 0) b (λ q. f (sym g ∙ q)))
  run_front (suc k) n i r e o =
      let z : suc k + n ≡ suc (k + n) = omega arith in
      let g : get_or t i 0 ≡ b = sym (get_or-drop i t 0 0 ∙ rw add-zero) ∙ ap (λ l. get_or l 0 0) e in
      let d : drop (i + 1) t ≡ replicate k b ++ r = sym (drop-drop 1 i t) ∙ ap (drop 1) e in
      rw (z, eq-eqb _ _ g) (ap suc (run_front k n (i + 1) r d o))

-- tabs and then spaces right before the byte p open a level
indent_opens : (t : List ℕ) (p tabs spaces depth : ℕ) → tabs + spaces ≤ p → 0 < tabs + spaces → depth < most_levels
    → drop (p - (tabs + spaces)) t ≡ replicate tabs (code "\t") ++ (replicate spaces (code " ") ++ drop p t) → indent_in t depth (p - (tabs + spaces)) p ≡ Some (Opens (level tabs spaces))
unfolding indent_in indent_of
indent_opens t p tabs spaces depth h z d bytes =
    let s = p - (tabs + spaces) in
    let w : p - s ≡ tabs + spaces = omega arith in
    let first : run_length t (code "\t") s (tabs + spaces) ≡ tabs = run_front t (code "\t") tabs spaces s (replicate spaces (code " ") ++ drop p t) bytes (none spaces) in
    let v : p - (s + tabs) ≡ spaces + 0 = omega arith in
    let on : drop (s + tabs) t ≡ replicate spaces (code " ") ++ drop p t = sym (drop-drop tabs s t) ∙ ap (drop tabs) bytes ∙ drop_at (replicate tabs (code "\t")) _ tabs (length-replicate tabs (code "\t")) in
    let second : run_length t (code " ") (s + tabs) (spaces + 0) ≡ spaces = run_front t (code " ") spaces 0 (s + tabs) (drop p t) on (inl refl) in
    let n : s ≡ p → ⊥ = omega arith in
    let sum : s + tabs + spaces ≡ p = omega arith in
    rw (w, first, v, second, ne_eqb _ _ n, eq-eqb _ _ sum, lt-ltb _ _ d)
  where
    none : (m : ℕ) → (m ≡ 0) ⊎ (get_or (replicate m (code " ") ++ drop p t) 0 0 ≡ code "\t" → ⊥)
    none zero = inl refl
    none (suc m) = inr (λ e. omega arith)

-- ---- kept records
module _ (t : List ℕ) (e : ℕ) where
  keep_other : (r : Spanned) (x : List Spanned) (ls : List Level) → r.start ≤ r.end → r.end ≤ e → (r.kind ≡ K.indent → ⊥) → (r.kind ≡ K.dedent → ⊥) → rebuild_spans_lem t e (r ∷ x) ls ≡ rebuild_spans_lem t e x ls
  unfolding rebuild applied effect_of
  keep_other r x ls h l n m = rw (le-ltb _ _ h, le-ltb _ _ l, ne_eqb _ _ n, ne_eqb _ _ m)

  keep_dedent : (p : ℕ) (x : List Spanned) (y : Level) (ls : List Level) → p ≤ e → rebuild_spans_lem t e (spanned K.dedent p p ∷ x) (y ∷ ls) ≡ rebuild_spans_lem t e x ls
  unfolding rebuild applied effect_of
  keep_dedent p x y ls l = let n : suc (length ls) ≡ 0 → ⊥ = omega arith in rw (le-ltb p p (omega arith), le-ltb _ _ l, ne_eqb _ _ n)

  keep_dedents : (p n : ℕ) (x : List Spanned) (ls : List Level) → p ≤ e → n ≤ length ls → rebuild_spans_lem t e (dedents n p ++ x) ls ≡ rebuild_spans_lem t e x (drop n ls)
  unfolding dedents
  keep_dedents p zero x ls l h = refl
  keep_dedents p (suc n) x [] l h = absurd (omega arith)
  keep_dedents p (suc n) x (y ∷ ls) l h = keep_dedent p (dedents n p ++ x) y ls l ∙ keep_dedents p n x ls l (omega arith)

  keep_indent : (p tabs spaces : ℕ) (x : List Spanned) (ls : List Level) → p ≤ e → tabs + spaces ≤ p → 0 < tabs + spaces → length ls < most_levels
      → drop (p - (tabs + spaces)) t ≡ replicate tabs (code "\t") ++ (replicate spaces (code " ") ++ drop p t)
      → rebuild_spans_lem t e (spanned K.indent (p - (tabs + spaces)) p ∷ x) ls ≡ rebuild_spans_lem t e x (level tabs spaces ∷ ls)
  unfolding rebuild applied effect_of
  keep_indent p tabs spaces x ls l h z d b =
      rw (le-ltb p (p - (tabs + spaces)) (omega arith), le-ltb _ _ l, indent_opens t p tabs spaces (length ls) h z d b)

  -- notes change no level
  keep_notes : (q : ℕ) (ns x : List Spanned) (ls : List Level) → Upto q ns → q ≤ e → rebuild_spans_lem t e (ns ++ x) ls ≡ rebuild_spans_lem t e x ls
  keep_notes q [] x ls u h = refl
  keep_notes q (n ∷ ns) x ls u h =
      keep_other n (ns ++ x) ls u.1 (omega (arith, u.2)) (λ z. ⊎_elim (λ k. omega arith) (λ k. omega arith) u.0) (λ z. ⊎_elim (λ k. omega arith) (λ k. omega arith) u.0)
      ∙ keep_notes q ns x ls u.3 h

-- ---- rounds
-- a round takes the levels rebuilt so far to those of the next state, of which there are at most 100
abbrev pub Rebuilds : List ℕ → ℕ → List Level → Outcome → Type 0
Rebuilds t e ls (error w p) = Unit
Rebuilds t e ls (more rs s) = (length s.levels ≤ most_levels) × (s.at ≤ e → (x : List Spanned) → rebuild_spans_lem t e (rs ++ x) ls ≡ rebuild_spans_lem t e x s.levels)
Rebuilds t e ls (end rs p) = Unit

module _ (t : List ℕ) (e : ℕ) where
  with_item_rebuilds : (pend : List Spanned) (f : Bool) (at nest to : ℕ) (ls₀ ls : List Level) (i : Step) → length ls ≤ most_levels
      → (at ≤ e → (x : List Spanned) → rebuild_spans_lem t e (pend ++ x) ls₀ ≡ rebuild_spans_lem t e x ls) → Goes at to nest i → Rebuilds t e ls₀ (with_item pend f at nest ls i)
  unfolding with_item
  with_item_rebuilds pend f at nest to ls₀ ls (T.Gap z) m p g = (m, λ h x. p (omega arith) x)
  with_item_rebuilds pend f at nest to ls₀ ls (T.Tok k z n) m p g =
      (m, λ h x. rw append_assoc (p (omega arith) _ ∙ keep_other t e (spanned k at z) x ls (omega arith) h (omega arith) (omega arith)))
  with_item_rebuilds pend f at nest to ls₀ ls (T.Newline z) m p g =
      (m, λ h x. rw append_assoc (p (omega arith) _ ∙ keep_other t e (spanned K.newline at z) x ls (omega arith) h (omega arith) (omega arith)))
  with_item_rebuilds pend f at nest to ls₀ ls (T.Error w q) m p g = tt
  with_item_rebuilds pend f at nest to ls₀ ls T.End m p g = tt

  at_level_rebuilds : (pre : List Spanned) (low at tabs spaces nest : ℕ) (ls : List Level) (z : Result LevelChange Ending) → ChangeOk (length ls) (tabs + spaces) z → length ls ≤ most_levels → at ≤ length t → Lined t low at tabs spaces → Upto at pre
      → Rebuilds t e ls (at_level t pre at tabs spaces nest ls z)
  unfolding at_level
  at_level_rebuilds pre low at tabs spaces nest ls (Ok S.Same) k m h l u = with_item_rebuilds pre true at nest _ ls ls _ m (λ b x. keep_notes t e at pre x ls u b) (step_goes t at nest h)
  at_level_rebuilds pre low at tabs spaces nest ls (Ok S.Indent) k m h l u =
      with_item_rebuilds _ true at nest _ ls _ _ (omega (arith, k.0)) (λ b x. rw append_assoc (keep_notes t e at pre _ ls u b ∙ keep_indent t e at tabs spaces x ls b (omega (arith, l.room)) k.1 k.0 l.bytes)) (step_goes t at nest h)
  at_level_rebuilds pre low at tabs spaces nest ls (Ok (S.DedentTo d)) k m h l u =
      with_item_rebuilds _ true at nest _ ls _ _ (omega (arith, length-drop (length ls - d) ls)) (λ b x. rw append_assoc (keep_notes t e at pre _ ls u b ∙ keep_dedents t e at (length ls - d) x ls b (omega arith))) (step_goes t at nest h)
  at_level_rebuilds pre low at tabs spaces nest ls (Err w) k m h l u = tt

  pub round_rebuilds : (s : State) → s.at ≤ length t → length s.levels ≤ most_levels → Rebuilds t e s.levels (round t s)
  unfolding round line_start
  round_rebuilds s h m =
      let P = Rebuilds t e s.levels in
      choose_keeps P s.at_line_start
      (λ _. by_blanks (λ r. P (line_start t (notes (place_at t s.at)) r s.nest s.levels)) t s.at h (λ b z w. tt)
      (λ b z w.
      let c : Counted t s.at (Ok b) = subst (Counted t s.at) z (blanks_counted t s.at h) in
      at_level_rebuilds (notes (place_at t s.at)) s.at b.at b.blanks.tabs b.blanks.spaces s.nest s.levels _ (change_ok s.levels b.blanks.tabs b.blanks.spaces m) m c.fits c.lined (notes_upto (place_at t s.at) b z)))
      (λ _. with_item_rebuilds [] false s.at s.nest _ s.levels s.levels _ m (λ _ x. refl) (step_goes t s.at s.nest h))
