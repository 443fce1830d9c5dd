-- Newlines of kind 8 stand in blank and comment lines or inside brackets: the notes of a line's start come before its tokens, and a newline
-- behind a token ends the line unless a bracket is open.
-- Assumes nothing.
use Prim.Native.Nat.{ℕ, zero, suc, ◌+◌, ◌-◌, ◌<◌, ◌≤◌}
use mathlib.Core.Path.{◌≡◌, refl, sym, subst}
use mathlib.Core.List.{List, [], ◌∷◌, ◌++◌, append-nil, append_assoc}
use mathlib.Core.Bool.{Bool, true, false}
use mathlib.Core.Logic.{inl, inr, ⊎_elim}
use native.Mathlib.Omega.{arith}
use borrow.Author.Tests.{eqb-false, ne_eqb}
use lib.Dec.{eqb}
use lib.ListN.{length, drop}
use Rattle.choice.specs.Choice.{choose}
use Rattle.choice.proofs.Laws.{choose_keeps}
use Rattle.window.specs.Place.{place_at}
use Rattle.token.specs.Kinds as K
use Rattle.token.specs.declared.Item.{Item}
use Rattle.token.specs.declared.Item.TheVariants as I
use Rattle.token.specs.Codes.{kind_of}
use Rattle.indentation.specs.declared.Level.{Level}
use Rattle.std.specs.Prelude.{Result, Ok, Err}
use Rattle.token.specs.declared.Ending.{Ending}
use Rattle.indentation.specs.declared.LevelChange.{LevelChange}
use Rattle.indentation.specs.declared.LevelChange.TheVariants as S
use Rattle.indentation.specs.Blanks.{blanks}
use Rattle.indentation.specs.Levels.{level}
use Rattle.indentation.specs.Notes.{notes}
use Rattle.indentation.proofs.NoteLaws.{Upto, notes_upto}
use Rattle.lexer.specs.declared.Step.{Step}
use Rattle.lexer.specs.declared.Step.TheVariants as T
use Rattle.lexer.specs.Items.{item_at}
use Rattle.token.specs.Brackets.{is_opener, is_closer}
use Rattle.lexer.specs.Steps.{is_note, nest_after, token_step, step_of, step_at}
use Rattle.lexer.proofs.Goes.{Goes, step_goes}
use Rattle.rounds.specs.Rounds.{State, Outcome, error, more, end, dedents, with_item, at_level, line_start, round, Reading, prefixed, follow, raw_reading}
use Rattle.records.specs.Records.{Spanned, spanned}
use Rattle.rounds.proofs.Margins.{by_blanks}
use Rattle.rounds.proofs.Fuel.{Fwd, round_fwd, reading_round}
use Rattle.tiles.specs.NonLogical.{only_notes_since, NonLogical}
use Rattle.tiles.proofs.Steps.{Shows, item_shows}

-- what holds behind a line's first token holds before it too
before : (nest : ℕ) (rs : List Spanned) → NonLogical false nest rs → NonLogical true nest rs
unfolding only_notes_since
before nest [] l = tt
before nest (r ∷ rs) l = ((λ _. inl refl), go (is_note r.kind) (before (nest_after nest r.kind) rs) l.1)
  where
    go : (b : Bool) → (NonLogical false (nest_after nest r.kind) rs → NonLogical true (nest_after nest r.kind) rs)
        → NonLogical (choose b (λ _. false) (λ _. eqb r.kind K.newline)) (nest_after nest r.kind) rs → NonLogical (choose b (λ _. true) (λ _. eqb r.kind K.newline)) (nest_after nest r.kind) rs
    go true f x = f x
    go false f x = x

lower : (f : Bool) (nest : ℕ) (rs : List Spanned) → NonLogical false nest rs → NonLogical f nest rs
lower true nest rs l = before nest rs l
lower false nest rs l = l

-- ---- records that lead from one line's place to another
abbrev Leads : Bool → ℕ → List Spanned → Bool → ℕ → Type 0
Leads f n rs g m = (ys : List Spanned) → NonLogical g m ys → NonLogical f n (rs ++ ys)

leads_then : (f g h : Bool) (n m o : ℕ) (xs ys : List Spanned) → Leads f n xs g m → Leads g m ys h o → Leads f n (xs ++ ys) h o
leads_then f g h n m o xs ys x y zs l = rw append_assoc (x (ys ++ zs) (y zs l))

-- notes, which are of kind 7 or 8
leads_notes : (q nest : ℕ) (ns : List Spanned) → Upto q ns → Leads true nest ns true nest
unfolding only_notes_since is_note nest_after is_opener is_closer
leads_notes q nest [] u ys l = l
leads_notes q nest (r ∷ ns) u ys l =
    let on = leads_notes q nest ns u.3 ys l in
    let P : ℕ → Type 0 = λ k. NonLogical (only_notes_since true k) (nest_after nest k) (ns ++ ys) in
    ((λ _. inl refl), ⊎_elim (λ e. subst P (sym e) on) (λ e. subst P (sym e) on) u.0)

-- an Indent, Dedents, a Newline
leads_indent : (f : Bool) (nest s e : ℕ) → Leads f nest (spanned K.indent s e ∷ []) false nest
unfolding only_notes_since is_note nest_after is_opener is_closer
leads_indent f nest s e ys l = ((λ z. absurd (omega arith)), l)

leads_dedents : (f : Bool) (nest n p : ℕ) → Leads f nest (dedents n p) false nest
unfolding dedents only_notes_since is_note nest_after is_opener is_closer
leads_dedents f nest zero p ys l = lower f nest ys l
leads_dedents f nest (suc n) p ys l = ((λ z. absurd (omega arith)), leads_dedents false nest n p ys l)

leads_line : (f : Bool) (nest s e : ℕ) → Leads f nest (spanned K.newline s e ∷ []) true nest
unfolding only_notes_since is_note nest_after is_opener is_closer
leads_line f nest s e ys l = ((λ z. absurd (omega arith)), l)

-- a token in a line
in_a_line : (k : ℕ) → 2 < k → only_notes_since false k ≡ false
unfolding only_notes_since
in_a_line k h = choose_keeps (λ (b : Bool). b ≡ false) (is_note k) (λ _. refl) (λ _. ne_eqb k 0 (omega arith))

leads_tok : (k nest n s e : ℕ) → 2 < k → (k ≡ K.non_logical_newline → 0 < nest) → nest_after nest k ≡ n → Leads false nest (spanned k s e ∷ []) false n
leads_tok k nest n s e h f z ys l = ((λ y. inr (f y)), rw (in_a_line k h, z) l)

-- ---- a token of kind 8 is inside brackets, and brackets are counted
abbrev Counts : ℕ → Step → Type 0
Counts nest (T.Gap e) = Unit
Counts nest (T.Tok k e n) = (k ≡ K.non_logical_newline → 0 < nest) × (nest_after nest k ≡ n)
Counts nest (T.Newline e) = Unit
Counts nest (T.Error w p) = Unit
Counts nest T.End = Unit

token_counts : (nest k e : ℕ) → (k ≡ K.non_logical_newline → ⊥) → Counts nest (token_step nest k e)
unfolding token_step nest_after is_opener is_closer
token_counts nest k e n =
    let C = Counts nest in
    choose_keeps C (eqb k K.newline) (λ _. choose_keeps C (eqb nest 0) (λ _. tt) (λ z. ((λ _. omega (arith, eqb-false nest 0 z)), refl)))
    (λ _. choose_keeps C (is_opener k) (λ o. ((λ z. absurd (n z)), rw o))
    (λ o. choose_keeps C (is_closer k) (λ c. choose_keeps C (eqb nest 0) (λ _. tt) (λ _. ((λ z. absurd (n z)), rw (o, c)))) (λ c. ((λ z. absurd (n z)), rw (o, c)))))

step_counts : (t : List ℕ) (at nest : ℕ) → at ≤ length t → Counts nest (step_at t at nest)
unfolding step_at step_of
step_counts t at nest h = go (item_at (place_at t at)) (item_shows t at h)
  where
    go : (i : Item) → Shows t at i → Counts nest (step_of at nest i)
    go (I.Tok k e) f = token_counts nest (kind_of k) e f.1
    go (I.Gap e) f = tt
    go I.End f = choose_keeps (Counts nest) (eqb nest 0) (λ _. tt) (λ _. tt)
    go (I.Error w e) f = tt

-- ---- rounds
module _ (t : List ℕ) where
  -- what a round hands out leads from where it starts to where it leaves the reader
  abbrev Turns : Bool → ℕ → Outcome → Type 0
  Turns f n (error w p) = Unit
  Turns f n (more rs s) = Leads f n rs s.at_line_start s.nest
  Turns f n (end rs p) = NonLogical f n rs

  with_item_turns : (pend : List Spanned) (f g : Bool) (at nest : ℕ) (ls : List Level) → Leads f nest pend false nest → at ≤ length t → Turns f nest (with_item pend g at nest ls (step_at t at nest))
  unfolding with_item
  with_item_turns pend f g at nest ls l h = go (step_at t at nest) (step_goes t at nest h) (step_counts t at nest h)
    where
      last : NonLogical false nest (choose g (λ _. []) (λ _. spanned K.newline at at ∷ []) ++ dedents (length ls) at)
      last =
          let D : (b : Bool) → NonLogical b nest (dedents (length ls) at) = λ b. rw append-nil at (leads_dedents b nest (length ls) at [] tt) in
          choose_keeps (λ (xs : List Spanned). NonLogical false nest (xs ++ dedents (length ls) at)) g (λ _. D false) (λ _. leads_line false nest at at (dedents (length ls) at) (D true))

      go : (i : Step) → Goes at (length t) nest i → Counts nest i → Turns f nest (with_item pend g at nest ls i)
      go (T.Gap e) x c = l
      go (T.Tok k e n) x c = leads_then f false false nest nest n pend (spanned k at e ∷ []) l (leads_tok k nest n at e x.3 c.0 c.1)
      go (T.Newline e) x c = leads_then f false true nest nest nest pend (spanned K.newline at e ∷ []) l (leads_line false nest at e)
      go (T.Error w p) x c = tt
      go T.End x c = rw append_assoc (l _ last)

  at_level_turns : (pre : List Spanned) (at tabs spaces nest : ℕ) (ls : List Level) (z : Result LevelChange Ending) → Leads true nest pre true nest → at ≤ length t → Turns true nest (at_level t pre at tabs spaces nest ls z)
  unfolding at_level
  at_level_turns pre at x y nest ls (Ok S.Same) l h = with_item_turns pre true true at nest ls (λ ys k. l ys (before nest ys k)) h
  at_level_turns pre at x y nest ls (Ok S.Indent) l h =
      with_item_turns (pre ++ spanned K.indent (at - (x + y)) at ∷ []) true true at nest (level x y ∷ ls) (leads_then true true false nest nest nest pre (spanned K.indent (at - (x + y)) at ∷ []) l (leads_indent true nest (at - (x + y)) at)) h
  at_level_turns pre at x y nest ls (Ok (S.DedentTo d)) l h =
      with_item_turns (pre ++ dedents (length ls - d) at) true true at nest (drop (length ls - d) ls)
      (leads_then true true false nest nest nest pre (dedents (length ls - d) at) l (leads_dedents true nest (length ls - d) at)) h
  at_level_turns pre at x y nest ls (Err w) l h = tt

  round_turns : (s : State) → s.at ≤ length t → Turns s.at_line_start s.nest (round t s)
  unfolding round line_start
  round_turns s h = go s.at_line_start
    where
      go : (b : Bool) → Turns b s.nest (choose b (λ _. line_start t (notes (place_at t s.at)) (blanks (place_at t s.at)) s.nest s.levels) (λ _. with_item [] false s.at s.nest s.levels (step_at t s.at s.nest)))
      go true =
          let p = place_at t s.at in
          by_blanks (λ r. Turns true s.nest (line_start t (notes p) r s.nest s.levels)) t s.at h (λ m z w. tt)
          (λ m z w. at_level_turns (notes p) m.at m.blanks.tabs m.blanks.spaces s.nest s.levels _ (leads_notes m.at s.nest (notes p) (notes_upto p m z)) w.to)
      go false = with_item_turns [] false false s.at s.nest s.levels (λ ys k. k) h

  turned : (n : ℕ) (s : State) → s.at ≤ length t → length t - s.at < n → NonLogical s.at_line_start s.nest (raw_reading t s).recs
  unfolding follow prefixed
  turned zero s h l = absurd (omega arith)
  turned (suc n) s h l =
      subst (λ (r : Reading). NonLogical s.at_line_start s.nest r.recs) (sym (reading_round t s h)) (go (round t s) (round_fwd t s h) (round_turns s h) (turned n))
    where
      go : (o : Outcome) → Fwd s.at (length t) o → Turns s.at_line_start s.nest o → ((s' : State) → s'.at ≤ length t → length t - s'.at < n → NonLogical s'.at_line_start s'.nest (raw_reading t s').recs)
          → NonLogical s.at_line_start s.nest (follow o (raw_reading t)).recs
      go (error w p) f x ih = tt
      go (more rs s') f x ih = x (raw_reading t s').recs (ih s' f.1 (omega arith))
      go (end rs p) f x ih = x

-- PROMISE: every newline of kind 8 ends a blank or comment line or is inside brackets
pub newlines_non_logical : (t : List ℕ) (s : State) → s.at ≤ length t → NonLogical s.at_line_start s.nest (raw_reading t s).recs
newlines_non_logical t s h = turned t (suc (length t)) s h (omega arith)
