-- How a reading goes on within a line, step by step; and after a line's start.
-- Assumes nothing.
use Prim.Native.Nat.{ℕ, ◌≤◌}
use mathlib.Core.Path.{◌≡◌, refl, sym, ◌∙◌, ap, subst}
use mathlib.Core.List.{List, [], ◌∷◌, ◌++◌, append-nil, append_assoc}
use mathlib.Core.Bool.{Bool, true, false}
use native.Mathlib.Omega.{arith}
use Rattle.choice.proofs.Laws.{true_is_not_false}
use lib.ListN.{length}
use Rattle.token.specs.declared.Ending.{Ending}
use Rattle.token.specs.Codes.{code_of, detail_of}
use Rattle.indentation.specs.declared.Level.{Level}
use Rattle.lexer.specs.declared.Step.{Step}
use Rattle.lexer.specs.declared.Step.TheVariants as T
use Rattle.lexer.specs.declared.Seen.{Seen}
use Rattle.lexer.specs.declared.Seen.TheVariants as G
use Rattle.lexer.specs.Steps.{step_at, is_listed}
use Rattle.lexer.specs.Promises.{goes_on, Glanced}
use Rattle.rounds.specs.Rounds.{state, dedents, with_item, round, Reading, ended, prefixed, follow, raw_reading, listed_records, listed_reading, view}
use Rattle.records.specs.Records.{Spanned, spanned}
use Rattle.rounds.specs.Promises.{from_item}
use Rattle.rounds.proofs.Listed.{listed_append, listed_one, listed_none, listed_low, listed_dedents, listed_reading_prefixed, listed_reading_none}
use Rattle.rounds.proofs.Fuel.{reading_round}
use Rattle.token.specs.Kinds as K

module _ (full : Bool) (t : List ℕ) (at nest : ℕ) (ls : List Level) where
  -- within a line nothing is pending
  pub rest_from_item : at ≤ length t → view full t (state at false nest ls) ≡ from_item full t [] false at nest ls
  unfolding round view
  rest_from_item h = ap (listed_reading full) (reading_round t (state at false nest ls) h)

  module _ (pend : List Spanned) (fresh : Bool) where
    pub from_item_gap : (e : ℕ) → step_at t at nest ≡ T.Gap e → from_item full t pend fresh at nest ls ≡ prefixed (listed_records full pend) (view full t (state e false nest ls))
    unfolding with_item follow view
    from_item_gap e z = rw z (listed_reading_prefixed full pend _)

    -- a token that is listed, and one that is not
    pub from_item_tok : (k e n : ℕ) → step_at t at nest ≡ T.Tok k e n → is_listed full k ≡ true
        → from_item full t pend fresh at nest ls ≡ prefixed (listed_records full pend ++ spanned k at e ∷ []) (view full t (state e false n ls))
    unfolding with_item follow view
    from_item_tok k e n z l = rw z (listed_reading_prefixed full (pend ++ spanned k at e ∷ []) _ ∙ rw (listed_append full pend (spanned k at e ∷ []), listed_one full k at e l))

    pub from_item_note : (k e n : ℕ) → step_at t at nest ≡ T.Tok k e n → is_listed full k ≡ false → from_item full t pend fresh at nest ls ≡ prefixed (listed_records full pend) (view full t (state e false n ls))
    unfolding with_item follow view
    from_item_note k e n z l = rw z (listed_reading_prefixed full (pend ++ spanned k at e ∷ []) _ ∙ rw (listed_append full pend (spanned k at e ∷ []), listed_none full k at e l, append-nil))

    pub from_item_newline : (e : ℕ) → step_at t at nest ≡ T.Newline e → from_item full t pend fresh at nest ls ≡ prefixed (listed_records full pend ++ spanned K.newline at e ∷ []) (view full t (state e true nest ls))
    unfolding with_item follow view
    from_item_newline e z = rw z (listed_reading_prefixed full (pend ++ spanned K.newline at e ∷ []) _ ∙ rw (listed_append full pend (spanned K.newline at e ∷ []), listed_low full 0 at e (omega arith)))

    pub from_item_error : (w : Ending) (p : ℕ) → step_at t at nest ≡ T.Error w p → from_item full t pend fresh at nest ls ≡ ended [] (code_of w) p (detail_of w)
    unfolding with_item follow
    from_item_error w p z = rw z (listed_reading_none full (code_of w) p (detail_of w))

  -- at the text's end: a Newline is due within a line only
  pub from_item_end : (pend : List Spanned) → step_at t at nest ≡ T.End → from_item full t pend true at nest ls ≡ ended (listed_records full pend ++ dedents (length ls) at) 0 at 0
  unfolding with_item follow listed_reading
  from_item_end pend z = rw (z, append-nil, listed_append full pend (dedents (length ls) at), listed_dedents full (length ls) at)

  pub rest_over : step_at t at nest ≡ T.End → from_item full t [] false at nest ls ≡ ended (spanned K.newline at at ∷ dedents (length ls) at) 0 at 0
  unfolding with_item follow listed_reading
  rest_over z = rw (z, listed_append full (spanned K.newline at at ∷ []) (dedents (length ls) at), listed_low full 0 at at (omega arith), listed_dedents full (length ls) at)

-- no records before a reading leave it as it is
pub prefixed_none : (r : Reading) → prefixed [] r ≡ r
unfolding prefixed
prefixed_none r = refl

-- a step that goes on: a token, a Newline or a gap
abbrev pub On : Step → Type 0
On (T.Gap e) = Unit {0}
On (T.Tok k e n) = Unit {0}
On (T.Newline e) = Unit {0}
On (T.Error w p) = ⊥
On T.End = ⊥

pub prefixed_append : (xs ys : List Spanned) (r : Reading) → prefixed (xs ++ ys) r ≡ prefixed xs (prefixed ys r)
unfolding prefixed
prefixed_append xs ys r = rw append_assoc

on_prefixed : (t : List ℕ) (at nest : ℕ) (ls : List Level) (pend : List Spanned) (fresh : Bool) (s : Step) → On s
    → follow (with_item pend fresh at nest ls s) (raw_reading t) ≡ prefixed pend (follow (with_item [] false at nest ls s) (raw_reading t))
unfolding with_item follow
on_prefixed t at nest ls pend fresh (T.Gap e) o = ap (prefixed pend) (sym (prefixed_none _))
on_prefixed t at nest ls pend fresh (T.Tok k e n) o = prefixed_append pend (spanned k at e ∷ []) _
on_prefixed t at nest ls pend fresh (T.Newline e) o = prefixed_append pend (spanned K.newline at e ∷ []) _
on_prefixed t at nest ls pend fresh (T.Error w p) o = absurd o
on_prefixed t at nest ls pend fresh T.End o = absurd o

-- before such a step what is pending comes first
pub from_item_on : (full : Bool) (t : List ℕ) (at nest : ℕ) (ls : List Level) (pend : List Spanned) (fresh : Bool) → On (step_at t at nest)
    → from_item full t pend fresh at nest ls ≡ prefixed (listed_records full pend) (from_item full t [] false at nest ls)
from_item_on full t at nest ls pend fresh o = ap (listed_reading full) (go (step_at t at nest) o) ∙ listed_reading_prefixed full pend _
  where
    go : (s : Step) → On s → follow (with_item pend fresh at nest ls s) (raw_reading t) ≡ prefixed pend (follow (with_item [] false at nest ls s) (raw_reading t))
    go s o = on_prefixed t at nest ls pend fresh s o

-- a glance that tells a token, or the end of a line, tells such a step
pub glance_on : (t : List ℕ) (at nest : ℕ) (q : Seen) → Glanced t at nest q → (x : Bool) → goes_on q ≡ x → x ≡ true → On (step_at t at nest)
unfolding goes_on
glance_on t at nest G.Nothing g x f e = absurd (true_is_not_false (sym e ∙ sym f))
glance_on t at nest G.Blank g x f e = absurd (true_is_not_false (sym e ∙ sym f))
glance_on t at nest G.Newline g x f e = subst On (sym g.0) tt
glance_on t at nest (G.Token k) g x f e = subst On (sym g.token) tt
