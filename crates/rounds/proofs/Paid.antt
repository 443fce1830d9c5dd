-- No reading has more than two records for each byte, and one: a token and an Indent take a byte each, and each Dedent closes an Indent's level.
-- Assumes nothing.
use Prim.Native.Nat.{ℕ, zero, suc, ◌+◌, ◌-◌, ◌*◌, ◌<◌, ◌≤◌}
use mathlib.Core.Path.{◌≡◌, refl, sym, ap, subst}
use mathlib.Core.List.{List, [], ◌∷◌, ◌++◌}
use mathlib.Core.Bool.{Bool, true, false}
use native.Mathlib.Omega.{arith}
use lib.ListN.{length, length-append, length-drop}
use Rattle.choice.specs.Choice.{choose}
use Rattle.choice.proofs.Laws.{choose_keeps}
use Rattle.window.specs.Place.{place_at}
use Rattle.indentation.specs.declared.Level.{Level}
use Rattle.std.specs.Prelude.{Result, Ok, Err}
use Rattle.token.specs.declared.Ending.{Ending}
use Rattle.indentation.specs.declared.LevelChange.{LevelChange}
use Rattle.indentation.specs.declared.LevelChange.TheVariants as S
use Rattle.indentation.specs.Notes.{notes}
use Rattle.indentation.proofs.NoteLaws.{notes_few}
use Rattle.indentation.specs.Levels.{most_levels}
use Rattle.rounds.proofs.Margins.{by_blanks, ChangeOk, change_ok}
use Rattle.lexer.specs.declared.Step.{Step}
use Rattle.lexer.specs.declared.Step.TheVariants as T
use Rattle.lexer.proofs.Goes.{Goes, step_goes}
use Rattle.rounds.specs.Rounds.{State, Outcome, error, more, end, dedents, with_item, at_level, line_start, round, Reading, prefixed, follow, raw_reading, listed_reading, view}
use Rattle.records.specs.Records.{Spanned, spanned}
use Rattle.rounds.proofs.Fuel.{Fwd, round_fwd, reading_round}
use Rattle.rounds.proofs.Listed.{listed_short}
use Rattle.token.specs.Kinds as K

pub length_dedents : (n p : ℕ) → length (dedents n p) ≡ n
unfolding dedents
length_dedents zero p = refl
length_dedents (suc n) p = ap suc (length_dedents n p)

-- what a round hands out is paid by the bytes that it takes and the levels that it closes; n levels were open, and no more than 100 ever are
abbrev Paid : ℕ → ℕ → Outcome → Type 0
Paid a n (error w p) = Unit
Paid a n (more rs s) = (length rs + length s.levels + 2 * a ≤ 2 * s.at + n) × (length s.levels ≤ most_levels)
Paid a n (end rs p) = length rs + 2 * a ≤ 2 * p + n + 1

with_item_paid : (pend : List Spanned) (f : Bool) (a at nest to n : ℕ) (ls : List Level) (i : Step) → length pend + length ls + 2 * a ≤ 2 * at + n → length ls ≤ most_levels → Goes at to nest i → Paid a n (with_item pend f at nest ls i)
unfolding with_item
with_item_paid pend f a at nest to n ls (T.Gap e) h l g = omega arith
with_item_paid pend f a at nest to n ls (T.Tok k e m) h l g = omega (arith, length-append pend (spanned k at e ∷ []))
with_item_paid pend f a at nest to n ls (T.Newline e) h l g = omega (arith, length-append pend (spanned K.newline at e ∷ []))
with_item_paid pend f a at nest to n ls (T.Error w p) h l g = tt
with_item_paid pend f a at nest to n ls T.End h l g =
    let X = choose f (λ _. []) (λ _. spanned K.newline at at ∷ []) in
    let x : length X ≤ 1 = choose_keeps (λ (l : List Spanned). length l ≤ 1) f (λ _. omega arith) (λ _. omega arith) in
    omega (arith, length-append (pend ++ X) (dedents (length ls) at), length-append pend X, length_dedents (length ls) at)

module _ (t : List ℕ) where
  at_level_paid : (pre : List Spanned) (a at tabs spaces nest : ℕ) (ls : List Level) (z : Result LevelChange Ending) → ChangeOk (length ls) (tabs + spaces) z → length ls ≤ most_levels → length pre + a + (tabs + spaces) ≤ at → at ≤ length t
      → Paid a (length ls) (at_level t pre at tabs spaces nest ls z)
  unfolding at_level
  at_level_paid pre a at x y nest ls (Ok S.Same) k m h l = with_item_paid pre true a at nest _ (length ls) ls _ (omega arith) m (step_goes t at nest l)
  at_level_paid pre a at x y nest ls (Ok S.Indent) k m h l =
      with_item_paid _ true a at nest _ (length ls) _ _ (omega (arith, k, length-append pre (spanned K.indent (at - (x + y)) at ∷ []))) (omega (arith, k)) (step_goes t at nest l)
  at_level_paid pre a at x y nest ls (Ok (S.DedentTo d)) k m h l =
      with_item_paid _ true a at nest _ (length ls) _ _ (omega (arith, k, length-append pre (dedents (length ls - d) at), length_dedents (length ls - d) at, length-drop (length ls - d) ls))
      (omega (arith, length-drop (length ls - d) ls)) (step_goes t at nest l)
  at_level_paid pre a at x y nest ls (Err w) k m h l = tt

  round_paid : (s : State) → s.at ≤ length t → length s.levels ≤ most_levels → Paid s.at (length s.levels) (round t s)
  unfolding round line_start
  round_paid s h m =
      let P = Paid s.at (length s.levels) in
      choose_keeps P s.at_line_start
      (λ _. by_blanks (λ r. P (line_start t (notes (place_at t s.at)) r s.nest s.levels)) t s.at h (λ b e w. tt)
      (λ b e w. at_level_paid (notes (place_at t s.at)) s.at b.at b.blanks.tabs b.blanks.spaces s.nest s.levels _ (change_ok s.levels b.blanks.tabs b.blanks.spaces m) m (notes_few (place_at t s.at) b e) w.to))
      (λ _. with_item_paid [] false s.at s.at s.nest _ (length s.levels) s.levels _ (omega arith) m (step_goes t s.at s.nest h))

  -- at most twice the bytes that are left, a Dedent for each open level, and one
  pub total : (n : ℕ) (s : State) → s.at ≤ length t → length s.levels ≤ most_levels → length t - s.at < n
      → length (raw_reading t s).recs + 2 * s.at ≤ 2 * length t + length s.levels + 1
  unfolding follow prefixed
  total zero s h m l = absurd (omega arith)
  total (suc n) s h m l =
      subst (λ (r : Reading). length r.recs + 2 * s.at ≤ 2 * length t + length s.levels + 1) (sym (reading_round t s h))
      (go (round t s) (round_fwd t s h) (round_paid s h m) (total n))
    where
      go : (o : Outcome) → Fwd s.at (length t) o → Paid s.at (length s.levels) o
          → ((s' : State) → s'.at ≤ length t → length s'.levels ≤ most_levels → length t - s'.at < n → length (raw_reading t s').recs + 2 * s'.at ≤ 2 * length t + length s'.levels + 1)
          → length (follow o (raw_reading t)).recs + 2 * s.at ≤ 2 * length t + length s.levels + 1
      go (error w p) f q ih = omega arith
      go (more rs s') f q ih = omega (arith, ih s' f.1 q.1 (omega arith), length-append rs (raw_reading t s').recs)
      go (end rs p) f q ih = omega arith

  -- document 02, item 13: a whole reading's records never exceed twice the text's bytes plus one
  pub few : (s : State) → s.at ≤ length t → length s.levels ≤ most_levels → length (raw_reading t s).recs + 2 * s.at ≤ 2 * length t + length s.levels + 1
  few s h m = total (suc (length t)) s h m (omega arith)

  -- and so with its notes or without
  pub few_listed : (full : Bool) (s : State) → s.at ≤ length t → length s.levels ≤ most_levels
      → length (view full t s).recs + 2 * s.at ≤ 2 * length t + length s.levels + 1
  unfolding view listed_reading
  few_listed full s h m = omega (arith, few s h m, listed_short full (raw_reading t s).recs)
