-- A reading tiles its text: each round lays its records out from where it starts to where it leaves the reader, and the last one ends with
-- the text.
-- Assumes nothing.
use Prim.Native.Nat.{ℕ, zero, suc, ◌+◌, ◌-◌, ◌<◌, ◌≤◌}
use mathlib.Core.Path.{◌≡◌, sym, subst}
use mathlib.Core.List.{List, [], ◌∷◌, ◌++◌}
use mathlib.Core.Bool.{Bool, true, false}
use native.Mathlib.Omega.{arith}
use lib.ListN.{length, drop}
use Rattle.choice.specs.Choice.{choose}
use Rattle.choice.proofs.Laws.{choose_keeps}
use Rattle.window.specs.Place.{place_at}
use Rattle.token.specs.Kinds as K
use Rattle.indentation.specs.declared.Level.{Level}
use Rattle.std.specs.Prelude.{Result, Ok, Err}
use Rattle.token.specs.declared.Ending.{Ending}
use Rattle.indentation.specs.declared.LevelChange.{LevelChange}
use Rattle.indentation.specs.declared.LevelChange.TheVariants as S
use Rattle.indentation.specs.Levels.{level}
use Rattle.indentation.specs.Notes.{notes}
use Rattle.lexer.specs.declared.Step.{Step}
use Rattle.lexer.specs.declared.Step.TheVariants as T
use Rattle.lexer.proofs.Goes.{Goes, step_goes}
use Rattle.rounds.specs.Rounds.{last_end, State, Outcome, error, more, end, dedents, with_item, at_level, line_start, round, Reading, prefixed, follow, raw_reading}
use Rattle.records.specs.Records.{Spanned, spanned}
use Rattle.rounds.proofs.Margins.{by_blanks}
use Rattle.rounds.proofs.Fuel.{Fwd, round_fwd, reading_round}
use Rattle.token.proofs.Laws.{ending_told}
use Rattle.tiles.specs.Notes.{AllStand}
use Rattle.tiles.specs.Tiles.{Blank, Tiled}
use Rattle.tiles.specs.Tiles.Blank.{none}
use Rattle.tiles.proofs.Laid.{Laid, other_stands, laid_then, laid_before, laid_one, laid_dedents, laid_stand, laid_tiled, tiled_last, blank_le}
use Rattle.tiles.proofs.LineStarts.{Begins, line_start_lem}
use Rattle.tiles.proofs.Steps.{Covers, step_covers}

module _ (t : List ℕ) where
  -- what a round hands out is laid out from the byte a on
  abbrev LaidOut : ℕ → Outcome → Type 0
  LaidOut a (error w p) = Unit
  LaidOut a (more rs s) = Laid t a rs s.at
  LaidOut a (end rs p) = Laid t a rs p

  -- one record behind what is pending
  laid_next : (pend : List Spanned) (a k s e : ℕ) → Laid t a pend s → s ≤ e → (k ≡ K.comment → ⊥) → (k ≡ K.non_logical_newline → ⊥) → Laid t a (pend ++ spanned k s e ∷ []) e
  laid_next pend a k s e l h x y = laid_then t a s e pend (spanned k s e ∷ []) l (laid_one t k s e h (other_stands t k s e x y))

  with_item_laid : (pend : List Spanned) (f : Bool) (a at nest : ℕ) (ls : List Level) (i : Step) → Laid t a pend at → Goes at (length t) nest i → Covers t at i → LaidOut a (with_item pend f at nest ls i)
  unfolding with_item
  with_item_laid pend f a at nest ls (T.Gap e) l g c = laid_before t a at e pend l c
  with_item_laid pend f a at nest ls (T.Tok k e n) l g c = laid_then t a at e pend (spanned k at e ∷ []) l (laid_one t k at e (omega (arith, g.0)) c)
  with_item_laid pend f a at nest ls (T.Newline e) l g c = laid_next pend a 0 at e l (omega (arith, g.0)) (omega arith) (omega arith)
  with_item_laid pend f a at nest ls (T.Error w p) l g c = tt
  with_item_laid pend f a at nest ls T.End l g c =
      let X = choose f (λ _. []) (λ _. spanned K.newline at at ∷ []) in
      let x : Laid t at X at = choose_keeps (λ (rs : List Spanned). Laid t at rs at) f (λ _. none) (λ _. laid_next [] at 0 at at none (omega arith) (omega arith) (omega arith)) in
      laid_then t a at at (pend ++ X) (dedents (length ls) at) (laid_then t a at at pend X l x) (laid_dedents t (length ls) at)

  -- a line's start, with notes before the blanks that are counted
  at_level_laid : (pre : List Spanned) (a at tabs spaces nest : ℕ) (ls : List Level) (z : Result LevelChange Ending) → Laid t a pre (at - (tabs + spaces)) → Blank t (at - (tabs + spaces)) at → at ≤ length t
      → LaidOut a (at_level t pre at tabs spaces nest ls z)
  unfolding at_level
  at_level_laid pre a at x y nest ls (Ok S.Same) l b h =
      with_item_laid pre true a at nest ls _ (laid_before t a (at - (x + y)) at pre l b) (step_goes t at nest h) (step_covers t at nest h)
  at_level_laid pre a at x y nest ls (Ok S.Indent) l b h =
      with_item_laid (pre ++ spanned K.indent (at - (x + y)) at ∷ []) true a at nest (level x y ∷ ls) _ (laid_next pre a 1 (at - (x + y)) at l (omega arith) (omega arith) (omega arith)) (step_goes t at nest h) (step_covers t at nest h)
  at_level_laid pre a at x y nest ls (Ok (S.DedentTo d)) l b h =
      with_item_laid (pre ++ dedents (length ls - d) at) true a at nest (drop (length ls - d) ls) _
      (laid_then t a at at pre (dedents (length ls - d) at) (laid_before t a (at - (x + y)) at pre l b) (laid_dedents t (length ls - d) at)) (step_goes t at nest h) (step_covers t at nest h)
  at_level_laid pre a at x y nest ls (Err w) l b h = tt

  pub round_laid : (s : State) → s.at ≤ length t → LaidOut s.at (round t s)
  unfolding round line_start
  round_laid s h =
      let P = LaidOut s.at in
      let p = place_at t s.at in
      choose_keeps P s.at_line_start
      (λ _. by_blanks (λ r. P (line_start t (notes p) r s.nest s.levels)) t s.at h (λ m z w. tt)
      (λ m z w. let b : Begins t s.at (Ok m) (notes p) = subst (λ r. Begins t s.at r (notes p)) z (line_start_lem t s.at h) in
      at_level_laid (notes p) s.at m.at m.blanks.tabs m.blanks.spaces s.nest s.levels _ b.0 b.1 w.to))
      (λ _. with_item_laid [] false s.at s.at s.nest s.levels _ none (step_goes t s.at s.nest h) (step_covers t s.at s.nest h))

  -- a reading's records are laid out from where it starts, and a reading with code 0 ends with the text
  pub record Reaches (s : State) (r : Reading) : Type 0 where
    pub to : ℕ
    pub fits : to ≤ length t
    pub laid : Laid t s.at r.recs to
    pub all : r.code ≡ 0 → to ≡ length t

  reaches : (n : ℕ) (s : State) → s.at ≤ length t → length t - s.at < n → Reaches s (raw_reading t s)
  unfolding follow prefixed
  reaches zero s h l = absurd (omega arith)
  reaches (suc n) s h l = subst (Reaches s) (sym (reading_round t s h)) (go (round t s) (round_fwd t s h) (round_laid s h) (reaches n))
    where
      go : (o : Outcome) → Fwd s.at (length t) o → LaidOut s.at o → ((s' : State) → s'.at ≤ length t → length t - s'.at < n → Reaches s' (raw_reading t s'))
          → Reaches s (follow o (raw_reading t))
      go (error w p) f r ih = record { to = s.at; fits = h; laid = none; all = λ z. absurd (omega (arith, (ending_told w).0)) }
      go (more rs s') f r ih =
          let i = ih s' f.1 (omega arith) in
          record { to = i.to; fits = i.fits; laid = laid_then t s.at s'.at i.to rs (raw_reading t s').recs r i.laid; all = i.all }
      go (end rs p) f r ih = record { to = p; fits = omega arith; laid = r; all = λ _. f }

module _ (t : List ℕ) (s : State) (h : s.at ≤ length t) where
  pub reached : Reaches t s (raw_reading t s)
  reached = reaches t (suc (length t)) s h (omega arith)

  -- PROMISE: nothing else is added. Every record of kind 7 is a comment of the text, every one of kind 8 a newline
  pub nothing_added : AllStand t (raw_reading t s).recs
  nothing_added = laid_stand t s.at reached.to (raw_reading t s).recs reached.laid

  tiled : Tiled (Blank t) s.at (raw_reading t s).recs reached.to
  tiled = laid_tiled t s.at reached.to (raw_reading t s).recs reached.laid

  -- PROMISE: none is left out. In a reading with code 0 only blanks lie between records, up to the text's end
  pub none_left_out : (raw_reading t s).code ≡ 0 → Tiled (Blank t) s.at (raw_reading t s).recs (length t)
  none_left_out z = subst (Tiled (Blank t) s.at (raw_reading t s).recs) (reached.all z) tiled

  -- and in any reading up to the last record's end
  pub none_before_last : let e = last_end s.at (raw_reading t s).recs in Tiled (Blank t) s.at (raw_reading t s).recs e × (e ≤ length t)
  none_before_last =
      let n = tiled_last (Blank t) (λ i. none) (λ i j. blank_le) s.at reached.to (raw_reading t s).recs tiled in
      (n.0, omega (arith, n.1, reached.fits))
