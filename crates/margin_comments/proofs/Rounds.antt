-- A round, and a reading, of two texts with the same bytes behind a place: the same so many bytes further on, but for notes.
-- Assumes nothing.
use Prim.Native.Nat.{ℕ, zero, suc, ◌+◌, ◌-◌, ◌<◌, ◌≤◌}
use mathlib.Core.Path.{◌≡◌, refl, sym, ◌∙◌, ap, ap₂, subst}
use mathlib.Core.List.{List, [], ◌∷◌, ◌++◌, map}
use mathlib.Core.Bool.{Bool, true, false}
use native.Mathlib.Omega.{arith}
use native.Mathlib.Nat.{zero-add}
use borrow.Table.Elements.{map_app}
use lib.ListN.{length, drop}
use Rattle.choice.specs.Choice.{choose}
use Rattle.choice.proofs.Laws.{choose_both}
use Rattle.utf8.specs.Chars.{chars}
use Rattle.window.specs.Place.{place_at}
use Rattle.token.specs.Kinds as K
use Rattle.token.specs.declared.Ending.{Ending}
use Rattle.records.specs.Records.{Spanned, spanned, moved_by}
use Rattle.indentation.specs.declared.Level.{Level}
use Rattle.indentation.specs.declared.Margin.{Margin}
use Rattle.std.specs.Prelude.{Result, Ok, Err}
use Rattle.indentation.specs.declared.LevelChange.{LevelChange}
use Rattle.indentation.specs.declared.LevelChange.TheVariants as S
use Rattle.indentation.specs.Blanks.{counted, stopped, blanks}
use Rattle.indentation.specs.Levels.{change_of}
use Rattle.indentation.specs.Notes.{notes}
use Rattle.lexer.specs.declared.Step.{Step}
use Rattle.lexer.specs.declared.Step.TheVariants as T
use Rattle.lexer.specs.Steps.{step_at, is_listed}
use Rattle.rounds.specs.Rounds.{State, state, Outcome, error, more, end, dedents, with_item, at_level, line_start, round, Reading, ended, prefixed, follow, raw_reading, listed_records, listed_reading, view}
use Rattle.rounds.proofs.Listed.{listed_append, listed_reading_prefixed, listed_notes}
use Rattle.rounds.proofs.Margins.{by_blanks}
use Rattle.rounds.proofs.Fuel.{Fwd, round_fwd, reading_round}
use Rattle.margin_comments.proofs.Items.{moved_step, step_further}
use Rattle.margin_comments.proofs.Margins.{needed, moved_margin, blanks_further}

-- ---- a line's start needs no more of its blanks
module _ (t : List ℕ) (pre : List Spanned) (nest : ℕ) (ls : List Level) where
  -- blanks of which so much is known
  abbrev known : Result Margin ℕ → Result Margin Margin
  known (Ok m) = Ok m
  known (Err p) = stopped p 0 0

  by_needed : (r : Result Margin Margin) → line_start t pre r nest ls ≡ line_start t pre (known (needed r)) nest ls
  unfolding line_start
  by_needed (Ok m) = refl
  by_needed (Err m) = refl

  needs : (r r' : Result Margin Margin) → needed r' ≡ needed r → line_start t pre r nest ls ≡ line_start t pre r' nest ls
  needs r r' e = by_needed r ∙ ap (λ (x : Result Margin ℕ). line_start t pre (known x) nest ls) (sym e) ∙ sym (by_needed r')

module _ (d : ℕ) where
  -- ---- records
  abbrev pub all_moved_lem : List Spanned → List Spanned
  all_moved_lem rs = map (moved_by d) rs

  listed_moved : (rs : List Spanned) → listed_records false (all_moved_lem rs) ≡ all_moved_lem (listed_records false rs)
  unfolding listed_records
  listed_moved [] = refl
  listed_moved (r ∷ rs) =
      choose_both (λ (x y : List Spanned). x ≡ all_moved_lem y) (is_listed false r.kind) (λ _. ap (λ (l : List Spanned). moved_by d r ∷ l) (listed_moved rs)) (λ _. listed_moved rs)

  dedents_moved : (n p : ℕ) → dedents n (d + p) ≡ all_moved_lem (dedents n p)
  unfolding dedents
  dedents_moved zero p = refl
  dedents_moved (suc n) p = ap (λ (l : List Spanned). spanned K.dedent (d + p) (d + p) ∷ l) (dedents_moved n p)

  -- what is listed of two lists is the same but for its places
  abbrev ListedMoved : List Spanned → List Spanned → Type 0
  ListedMoved xs xs' = listed_records false xs' ≡ all_moved_lem (listed_records false xs)

  -- behind such lists, other records
  behind : (x x' y y' : List Spanned) → ListedMoved x x' → y' ≡ all_moved_lem y → ListedMoved (x ++ y) (x' ++ y')
  behind x x' y y' e f =
      listed_append false x' y'
      ∙ ap₂ (λ (u v : List Spanned). u ++ v) e (ap (listed_records false) f ∙ listed_moved y)
      ∙ sym (map_app (moved_by d) (listed_records false x) (listed_records false y))
      ∙ ap all_moved_lem (sym (listed_append false x y))

  -- ---- readings
  abbrev pub moved_reading : Reading → Reading
  moved_reading r = ended (all_moved_lem r.recs) r.code (d + r.place) r.detail

  prefixed_moved : (xs xs' : List Spanned) (r r' : Reading) → xs' ≡ all_moved_lem xs → r' ≡ moved_reading r → prefixed xs' r' ≡ moved_reading (prefixed xs r)
  unfolding prefixed
  prefixed_moved xs xs' r r' e f = ap₂ prefixed e f ∙ ap (λ (l : List Spanned). ended l r.code (d + r.place) r.detail) (sym (map_app (moved_by d) xs r.recs))

  -- ---- rounds
  abbrev pub moved_state : State → State
  moved_state s = state (d + s.at) s.at_line_start s.nest s.levels

  data Moved : Outcome → Outcome → Type 0 where
    errors : (w : Ending) (p : ℕ) → Moved (error w p) (error w (d + p))
    goes : {rs rs' : List Spanned} (s : State) → ListedMoved rs rs' → Moved (more rs s) (more rs' (moved_state s))
    ends : {rs rs' : List Spanned} (p : ℕ) → ListedMoved rs rs' → Moved (end rs p) (end rs' (d + p))

  with_item_moved : (pend pend' : List Spanned) (f : Bool) (at nest : ℕ) (ls : List Level) (i : Step) → ListedMoved pend pend'
      → Moved (with_item pend f at nest ls i) (with_item pend' f (d + at) nest ls (moved_step d i))
  unfolding with_item
  with_item_moved pend pend' f at nest ls (T.Gap e) m = goes (state e false nest ls) m
  with_item_moved pend pend' f at nest ls (T.Tok k e n) m = goes (state e false n ls) (behind pend pend' (spanned k at e ∷ []) _ m refl)
  with_item_moved pend pend' f at nest ls (T.Newline e) m = goes (state e true nest ls) (behind pend pend' (spanned K.newline at e ∷ []) _ m refl)
  with_item_moved pend pend' f at nest ls (T.Error w p) m = errors w p
  with_item_moved pend pend' f at nest ls T.End m =
      let X = choose f (λ _. []) (λ _. spanned K.newline at at ∷ []) in
      let X' = choose f (λ _. []) (λ _. spanned K.newline (d + at) (d + at) ∷ []) in
      let e : X' ≡ all_moved_lem X = choose_both (λ (x y : List Spanned). x ≡ all_moved_lem y) f (λ _. refl) (λ _. refl) in
      ends at (behind (pend ++ X) (pend' ++ X') (dedents (length ls) at) _ (behind pend pend' X X' m e) (dedents_moved (length ls) at))

  module _ (t t' : List ℕ) (floor : ℕ) (same : (i : ℕ) → floor ≤ i → drop (d + i) t' ≡ drop i t) where
    item_moved : (pend pend' : List Spanned) (f : Bool) (at nest : ℕ) (ls : List Level) → floor ≤ at → ListedMoved pend pend'
        → Moved (with_item pend f at nest ls (step_at t at nest)) (with_item pend' f (d + at) nest ls (step_at t' (d + at) nest))
    item_moved pend pend' f at nest ls h m =
        subst (λ (i : Step). Moved (with_item pend f at nest ls (step_at t at nest)) (with_item pend' f (d + at) nest ls i)) (sym (step_further d t t' at nest (same at h)))
        (with_item_moved pend pend' f at nest ls (step_at t at nest) m)

    at_level_moved : (pre pre' : List Spanned) (at tabs spaces nest : ℕ) (ls : List Level) (z : Result LevelChange Ending) → floor ≤ at → tabs + spaces ≤ at → ListedMoved pre pre'
        → Moved (at_level t pre at tabs spaces nest ls z) (at_level t' pre' (d + at) tabs spaces nest ls z)
    unfolding at_level
    at_level_moved pre pre' at tabs spaces nest ls (Ok S.Same) h k m = item_moved pre pre' true at nest ls h m
    at_level_moved pre pre' at tabs spaces nest ls (Ok S.Indent) h k m =
        let e : d + at - (tabs + spaces) ≡ d + (at - (tabs + spaces)) = omega arith in
        item_moved _ _ true at nest _ h (behind pre pre' (spanned K.indent (at - (tabs + spaces)) at ∷ []) _ m (ap (λ (i : ℕ). spanned K.indent i (d + at) ∷ []) e))
    at_level_moved pre pre' at tabs spaces nest ls (Ok (S.DedentTo n)) h k m =
        item_moved _ _ true at nest _ h (behind pre pre' (dedents (length ls - n) at) _ m (dedents_moved (length ls - n) at))
    at_level_moved pre pre' at tabs spaces nest ls (Err w) h k m = errors w at

    -- a line's start at any two bytes, where what is needed of the blanks is the same but for its place
    line_moved : (at at' nest : ℕ) (ls : List Level) → at ≤ length t → floor ≤ at → needed (blanks (place_at t' at')) ≡ needed (moved_margin d (blanks (place_at t at)))
        → Moved (round t (state at true nest ls)) (round t' (state at' true nest ls))
    unfolding round line_start
    line_moved at at' nest ls h k e =
        subst (Moved (line_start t (notes (place_at t at)) (blanks (place_at t at)) nest ls)) (needs t' (notes (place_at t' at')) nest ls _ _ e)
        (by_blanks (λ r. Moved (line_start t (notes (place_at t at)) r nest ls) (line_start t' (notes (place_at t' at')) (moved_margin d r) nest ls)) t at h
        (λ m _ w. errors _ m.at)
        (λ m _ w. at_level_moved (notes (place_at t at)) (notes (place_at t' at')) m.at m.blanks.tabs m.blanks.spaces nest ls (change_of ls m.blanks.tabs m.blanks.spaces) (omega (arith, w.after)) (omega (arith, w.after))
        (listed_notes (place_at t' at') ∙ ap all_moved_lem (sym (listed_notes (place_at t at))))))

    round_moved : (s : State) → s.at ≤ length t → floor ≤ s.at → Moved (round t s) (round t' (moved_state s))
    unfolding round
    round_moved s h k =
        let e : blanks (place_at t' (d + s.at)) ≡ moved_margin d (blanks (place_at t s.at)) =
        ap (λ (l : List ℕ). blanks (record { at = d + s.at; rest = chars l })) (same s.at k) ∙ blanks_further d (place_at t s.at) in
        choose_both Moved s.at_line_start (λ _. line_moved s.at (d + s.at) s.nest s.levels h k (ap needed e)) (λ _. item_moved [] [] false s.at s.nest s.levels k (listed_moved []))

    -- a round, and the reading behind it
    abbrev Goes : State → Type 0
    Goes s = view false t' (moved_state s) ≡ moved_reading (view false t s)

    follow_moved : {o o' : Outcome} (from : ℕ) → Moved o o' → Fwd from (length t) o → ((s : State) → from < s.at → s.at ≤ length t → Goes s)
        → listed_reading false (follow o' (raw_reading t')) ≡ moved_reading (listed_reading false (follow o (raw_reading t)))
    unfolding follow listed_reading listed_records view
    follow_moved from (errors w p) f ih = refl
    follow_moved from (goes {rs} {rs'} s m) f ih =
        listed_reading_prefixed false rs' (raw_reading t' (moved_state s)) ∙ prefixed_moved (listed_records false rs) _ (view false t s) _ m (ih s f.0 f.1)
        ∙ ap moved_reading (sym (listed_reading_prefixed false rs (raw_reading t s)))
    follow_moved from (ends p m) f ih = ap (λ (l : List Spanned). ended l 0 (d + p) 0) m

    module _ (longer : length t' ≡ d + length t) where
      reading_moved : (s s' : State) → s.at ≤ length t → s'.at ≤ length t' → Moved (round t s) (round t' s') → ((u : State) → s.at < u.at → u.at ≤ length t → Goes u) → view false t' s' ≡ moved_reading (view false t s)
      unfolding view
      reading_moved s s' h h' m ih =
          ap (listed_reading false) (reading_round t' s' h') ∙ follow_moved s.at m (round_fwd t s h) ih ∙ ap (λ (r : Reading). moved_reading (listed_reading false r)) (sym (reading_round t s h))

      all_moved : (n : ℕ) (s : State) → s.at ≤ length t → floor ≤ s.at → length t - s.at < n → Goes s
      all_moved zero s h k l = absurd (omega arith)
      all_moved (suc n) s h k l = reading_moved s (moved_state s) h (omega arith) (round_moved s h k) (λ u a b. all_moved n u b (omega arith) (omega arith))

      -- THE law of moving: from a line's start on all records are the same but for their place, where what the line's start needs of its blanks is
      pub view_moved : (at at' : ℕ) (ls : List Level) → at ≤ length t → at' ≤ length t' → floor ≤ at → needed (blanks (place_at t' at')) ≡ needed (moved_margin d (blanks (place_at t at)))
          → view false t' (state at' true 0 ls) ≡ moved_reading (view false t (state at true 0 ls))
      view_moved at at' ls h h' k e =
          reading_moved (state at true 0 ls) (state at' true 0 ls) h h' (line_moved at at' 0 ls h k e) (λ u a b. all_moved (suc (length t)) u b (omega arith) (omega arith))

-- moved by no byte
none_moved : (rs : List Spanned) → all_moved_lem 0 rs ≡ rs
none_moved [] = refl
none_moved (r ∷ rs) = rw (zero-add r.start, zero-add r.end, none_moved rs)

not_moved : (r : Result Margin Margin) → moved_margin 0 r ≡ r
not_moved (Ok m) = ap (λ (j : ℕ). counted j m.blanks.tabs m.blanks.spaces) (zero-add m.at)
not_moved (Err m) = ap (λ (j : ℕ). stopped j m.blanks.tabs m.blanks.spaces) (zero-add m.at)

-- from two bytes of a text the same is read where the same blanks are ahead, or a tab after a space at the same place
pub view_passed : (t : List ℕ) (at to : ℕ) (ls : List Level) → at ≤ length t → to ≤ length t → needed (blanks (place_at t to)) ≡ needed (blanks (place_at t at)) → view false t (state to true 0 ls) ≡ view false t (state at true 0 ls)
view_passed t at to ls h k e =
    let r = view false t (state at true 0 ls) in
    let m = view_moved 0 t t 0 (λ i _. ap (λ (j : ℕ). drop j t) (zero-add i)) (sym (zero-add (length t))) at to ls h k (omega arith)
    (e ∙ ap needed (sym (not_moved (blanks (place_at t at))))) in
    m ∙ ap₂ (λ (x : List Spanned) (j : ℕ). ended x r.code j r.detail) (none_moved r.recs) (zero-add r.place)
