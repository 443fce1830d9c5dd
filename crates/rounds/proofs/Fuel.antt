-- A round takes a byte or is the last, so the rounds that `raw_reading` allows are always enough: it unfolds round by round.
-- Assumes nothing.
use Prim.Native.Nat.{ℕ, zero, suc, ◌+◌, ◌-◌, ◌<◌, ◌≤◌}
use mathlib.Core.Path.{◌≡◌, refl, ◌∙◌, ap}
use mathlib.Core.List.{List, []}
use mathlib.Core.Bool.{Bool, true, false}
use native.Mathlib.Omega.{arith}
use native.Mathlib.Nat.{add-suc, add-zero}
use lib.ListN.{length}
use Rattle.choice.proofs.Laws.{choose_keeps}
use Rattle.window.specs.Place.{place_at}
use Rattle.records.specs.Records.{Spanned}
use Rattle.indentation.specs.declared.Level.{Level}
use Rattle.std.specs.Prelude.{Result, Ok, Err}
use Rattle.token.specs.declared.Ending.{Ending}
use Rattle.indentation.specs.declared.LevelChange.{LevelChange}
use Rattle.indentation.specs.declared.LevelChange.TheVariants as S
use Rattle.indentation.specs.Notes.{notes}
use Rattle.rounds.proofs.Margins.{by_blanks}
use Rattle.lexer.specs.declared.Step.{Step}
use Rattle.lexer.specs.declared.Step.TheVariants as T
use Rattle.lexer.proofs.Goes.{Goes, step_goes}
use Rattle.rounds.specs.Rounds.{State, Outcome, error, more, end, with_item, at_level, line_start, round, prefixed, follow, raw_rounds, raw_reading}

-- a round that goes on goes forward within the text; no round ends beyond it
abbrev pub Fwd : ℕ → ℕ → Outcome → Type 0
Fwd a n (error w p) = p ≤ n
Fwd a n (more rs s) = (a < s.at) × (s.at ≤ n)
Fwd a n (end rs p) = p ≡ n

with_item_fwd : (pend : List Spanned) (f : Bool) (a at n nest : ℕ) (ls : List Level) (i : Step) → a ≤ at → Goes at n nest i → Fwd a n (with_item pend f at nest ls i)
unfolding with_item
with_item_fwd pend f a at n nest ls (T.Gap e) h g = omega arith
with_item_fwd pend f a at n nest ls (T.Tok k e m) h g = omega arith
with_item_fwd pend f a at n nest ls (T.Newline e) h g = omega arith
with_item_fwd pend f a at n nest ls (T.Error w p) h g = g
with_item_fwd pend f a at n nest ls T.End h g = g.0

module _ (t : List ℕ) where
  at_level_fwd : (pre : List Spanned) (a at tabs spaces nest : ℕ) (ls : List Level) (z : Result LevelChange Ending) → a ≤ at → at ≤ length t → Fwd a (length t) (at_level t pre at tabs spaces nest ls z)
  unfolding at_level
  at_level_fwd pre a at x y nest ls (Ok S.Same) h k = with_item_fwd pre true a at (length t) nest ls _ h (step_goes t at nest k)
  at_level_fwd pre a at x y nest ls (Ok S.Indent) h k = with_item_fwd _ true a at (length t) nest _ _ h (step_goes t at nest k)
  at_level_fwd pre a at x y nest ls (Ok (S.DedentTo d)) h k = with_item_fwd _ true a at (length t) nest _ _ h (step_goes t at nest k)
  at_level_fwd pre a at x y nest ls (Err w) h k = k

  pub round_fwd : (s : State) → s.at ≤ length t → Fwd s.at (length t) (round t s)
  unfolding round line_start
  round_fwd s h =
      let P = Fwd s.at (length t) in
      choose_keeps P s.at_line_start
      (λ _. by_blanks (λ r. P (line_start t (notes (place_at t s.at)) r s.nest s.levels)) t s.at h (λ m e b. b.to)
      (λ m e b. at_level_fwd (notes (place_at t s.at)) s.at m.at m.blanks.tabs m.blanks.spaces s.nest s.levels _ (omega arith) b.to))
      (λ _. with_item_fwd [] false s.at s.at (length t) s.nest s.levels _ (omega arith) (step_goes t s.at s.nest h))

  -- one round more to go changes nothing where there are enough
  raw_one : (k : ℕ) (s : State) → s.at ≤ length t → length t - s.at < k → raw_rounds t (suc k) s ≡ raw_rounds t k s
  unfolding raw_rounds follow
  raw_one zero s h l = absurd (omega arith)
  raw_one (suc k) s h l = go (round t s) (round_fwd s h) (raw_one k)
    where
      go : (o : Outcome) → Fwd s.at (length t) o → ((s' : State) → s'.at ≤ length t → length t - s'.at < k → raw_rounds t (suc k) s' ≡ raw_rounds t k s')
          → follow o (raw_rounds t (suc k)) ≡ follow o (raw_rounds t k)
      go (error w p) f ih = refl
      go (more rs s') f ih = ap (prefixed rs) (ih s' f.1 (omega arith))
      go (end rs p) f ih = refl

  raw_add : (d k : ℕ) (s : State) → s.at ≤ length t → length t - s.at < k → raw_rounds t (k + d) s ≡ raw_rounds t k s
  raw_add zero k s h l = rw add-zero
  raw_add (suc d) k s h l = rw add-suc (raw_one (k + d) s h (omega arith) ∙ raw_add d k s h l)

  -- THE LAW: the reading from a state is its round, followed by the reading from the next state
  pub reading_round : (s : State) → s.at ≤ length t → raw_reading t s ≡ follow (round t s) (raw_reading t)
  unfolding raw_reading raw_rounds follow
  reading_round s h = go (round t s) (round_fwd s h)
    where
      go : (o : Outcome) → Fwd s.at (length t) o → follow o (raw_rounds t (length t - s.at)) ≡ follow o (λ s'. raw_rounds t (suc (length t - s'.at)) s')
      go (error w p) f = refl
      go (more rs s') f =
          let k = suc (length t - s'.at) in
          let e : length t - s.at ≡ k + (length t - s.at - k) = omega arith in
          ap (prefixed rs) (rw e (raw_add (length t - s.at - k) k s' f.1 (omega arith)))
      go (end rs p) f = refl
