-- A newline blocks look-ahead: a round that goes on to a place before the cut's end, or ends a line at or before it, is the same round of
-- both texts.
-- Assumes nothing.
use Prim.Native.Nat.{ℕ, ◌<◌, ◌≤◌}
use mathlib.Core.Path.{◌≡◌, sym, ◌∙◌, ap, subst}
use mathlib.Core.List.{List, []}
use mathlib.Core.Bool.{Bool, true, false}
use mathlib.Core.Logic.{◌⊎◌, inl, inr}
use native.Mathlib.Omega.{arith}
use lib.ListN.{length, drop}
use Rattle.choice.proofs.Laws.{choose_both, true_is_not_false}
use Rattle.utf8.specs.Chars.{chars}
use Rattle.window.specs.Place.{place_at}
use Rattle.window.proofs.Near.{Near}
use Rattle.window.proofs.Near.Beside.{beside}
use Rattle.records.specs.Records.{Spanned}
use Rattle.indentation.specs.declared.Level.{Level}
use Rattle.indentation.specs.declared.Margin.{Margin}
use Rattle.std.specs.Prelude.{Result, Ok, Err}
use Rattle.token.specs.declared.Ending.{Ending}
use Rattle.indentation.specs.declared.LevelChange.{LevelChange}
use Rattle.indentation.specs.declared.LevelChange.TheVariants as S
use Rattle.indentation.specs.Blanks.{blanks}
use Rattle.indentation.proofs.Local.{stop, blanks_near}
use Rattle.indentation.specs.Notes.{notes}
use Rattle.indentation.proofs.NoteLaws.{notes_near}
use Rattle.lexer.specs.declared.Step.{Step}
use Rattle.lexer.specs.declared.Step.TheVariants as T
use Rattle.lexer.specs.Steps.{step_at}
use Rattle.lexer.proofs.Goes.{Goes, step_goes}
use Rattle.lexer.proofs.Local.{Kept, step_near}
use Rattle.rounds.specs.Rounds.{State, Outcome, error, more, end, with_item, at_level, line_start, round}
use Rattle.rounds.proofs.Margins.{by_blanks}

-- a round goes on to a place before the cut's end, or ends a line at or before it
abbrev pub Went : ℕ → Outcome → Type 0
Went upto (error w p) = ⊥
Went upto (more rs s) = (s.at < upto) ⊎ ((s.at ≤ upto) × (s.at_line_start ≡ true))
Went upto (end rs p) = ⊥

-- its step is then one that both texts have
with_item_kept : (pend : List Spanned) (f : Bool) (upto at nest : ℕ) (ls : List Level) (i : Step) → Went upto (with_item pend f at nest ls i) → Kept upto i
unfolding with_item
with_item_kept pend f upto at nest ls (T.Gap e) (inl h) = h
with_item_kept pend f upto at nest ls (T.Gap e) (inr h) = absurd (true_is_not_false (sym h.1))
with_item_kept pend f upto at nest ls (T.Tok k e n) (inl h) = omega arith
with_item_kept pend f upto at nest ls (T.Tok k e n) (inr h) = h.0
with_item_kept pend f upto at nest ls (T.Newline e) (inl h) = omega arith
with_item_kept pend f upto at nest ls (T.Newline e) (inr h) = h.0
with_item_kept pend f upto at nest ls (T.Error w p) l = absurd l
with_item_kept pend f upto at nest ls T.End l = absurd l

kept_at : (upto at to nest : ℕ) (i : Step) → Goes at to nest i → Kept upto i → at < upto
kept_at upto at to nest (T.Gap e) g l = omega arith
kept_at upto at to nest (T.Tok k e n) g l = omega arith
kept_at upto at to nest (T.Newline e) g l = omega arith
kept_at upto at to nest (T.Error w p) g l = absurd l
kept_at upto at to nest T.End g l = absurd l

-- two texts are near at every byte before the cut's end
abbrev pub NearUpto : List ℕ → List ℕ → ℕ → Type 0
NearUpto t t' upto = (at : ℕ) → at < upto → Near upto at (chars (drop at t)) (chars (drop at t'))

module _ (t t' : List ℕ) (upto : ℕ) (near : NearUpto t t' upto) where
  -- the item of such a round starts before the cut's end and is the same
  with_item_too : (pend : List Spanned) (f : Bool) (at nest : ℕ) (ls : List Level) → at ≤ length t → Went upto (with_item pend f at nest ls (step_at t at nest))
      → (at < upto) × (with_item pend f at nest ls (step_at t' at nest) ≡ with_item pend f at nest ls (step_at t at nest))
  with_item_too pend f at nest ls h l =
      let k = with_item_kept pend f upto at nest ls (step_at t at nest) l in
      let b = kept_at upto at (length t) nest (step_at t at nest) (step_goes t at nest h) k in
      (b, ap (with_item pend f at nest ls) (step_near t t' upto at nest (near at b) k))

  at_level_too : (pre : List Spanned) (at tabs spaces nest : ℕ) (ls : List Level) (z : Result LevelChange Ending) → at ≤ length t → Went upto (at_level t pre at tabs spaces nest ls z)
      → (at < upto) × (at_level t' pre at tabs spaces nest ls z ≡ at_level t pre at tabs spaces nest ls z)
  unfolding at_level
  at_level_too pre at tabs spaces nest ls (Ok S.Same) h l = with_item_too pre true at nest ls h l
  at_level_too pre at tabs spaces nest ls (Ok S.Indent) h l = with_item_too _ true at nest _ h l
  at_level_too pre at tabs spaces nest ls (Ok (S.DedentTo d)) h l = with_item_too _ true at nest _ h l
  at_level_too pre at tabs spaces nest ls (Err w) h l = absurd l

  -- so are the blanks and the notes before it
  line_start_too : (at nest : ℕ) (ls : List Level) → at ≤ length t → Went upto (line_start t (notes (place_at t at)) (blanks (place_at t at)) nest ls)
      → line_start t' (notes (place_at t' at)) (blanks (place_at t' at)) nest ls ≡ line_start t (notes (place_at t at)) (blanks (place_at t at)) nest ls
  unfolding line_start
  line_start_too at nest ls h =
      by_blanks (λ r. Went upto (line_start t (notes (place_at t at)) r nest ls) → line_start t' (notes (place_at t' at)) (blanks (place_at t' at)) nest ls ≡ line_start t (notes (place_at t at)) r nest ls) t at h
      (λ m c w l. absurd l)
      (λ m c w l.
      let o = at_level_too (notes (place_at t at)) m.at m.blanks.tabs m.blanks.spaces nest ls _ w.to l in
      let b = beside (near at (omega (arith, o.0, w.after))) in
      let e : blanks (place_at t' at) ≡ Ok m = blanks_near b (subst (λ (r : Result Margin Margin). stop r < upto) (sym c) o.0) ∙ c in
      let n : notes (place_at t' at) ≡ notes (place_at t at) = notes_near b m c o.0 in
      ap (λ (x : Result Margin Margin). line_start t' (notes (place_at t' at)) x nest ls) e ∙ ap (λ (x : List Spanned). line_start t' x (Ok m) nest ls) n ∙ o.1)

  -- THE law of locality
  pub round_too : (s : State) → s.at ≤ length t → Went upto (round t s) → round t' s ≡ round t s
  unfolding round
  round_too s h =
      choose_both (λ (x x' : Outcome). Went upto x → x' ≡ x) s.at_line_start (λ _ l. line_start_too s.at s.nest s.levels h l)
      (λ _ l. (with_item_too [] false s.at s.nest s.levels h l).1)
