-- A line's start read: what it leaves pending comes first, unless its first item is an ending.
-- Assumes nothing.
use Prim.Native.Nat.{ℕ, zero, suc, ◌+◌, ◌-◌, ◌^◌, ◌<◌, ◌≤◌}
use mathlib.Core.Path.{◌≡◌, refl, sym, ◌∙◌, ap, subst}
use mathlib.Core.List.{List, [], ◌∷◌, ◌++◌, append-nil, append_assoc}
use mathlib.Core.Bool.{Bool, true, false}
use mathlib.Core.Logic.{◌⊎◌, inl, inr}
use native.Mathlib.Omega.{arith}
use lib.ListN.{length}
use Rattle.choice.specs.Choice.{choose}
use Rattle.choice.proofs.Laws.{choose_keeps, true_is_not_false}
use Rattle.lines.specs.Lines.{line_at}
use Rattle.lines.specs.Promises.{Part, Ends}
use Rattle.lines.proofs.Laws.{line_most}
use Rattle.window.specs.Place.{Place, place_at}
use Rattle.token.specs.declared.Ending.{Ending}
use Rattle.token.specs.Kinds as K
use Rattle.token.specs.Codes.{code_of, detail_of}
use Rattle.indentation.specs.declared.Level.{Level}
use Rattle.indentation.specs.Levels.{top_of}
use Rattle.indentation.specs.Promises.{stack}
use Rattle.indentation.specs.Notes.{notes}
use Rattle.lexer.specs.declared.Step.{Step}
use Rattle.lexer.specs.declared.Step.TheVariants as T
use Rattle.lexer.specs.declared.Seen.{Seen}
use Rattle.lexer.specs.Steps.{step_at}
use Rattle.lexer.specs.Promises.{goes_on, Glanced}
use Rattle.lexer.proofs.Goes.{Goes, step_goes}
use Rattle.rounds.specs.Rounds.{state, dedents, with_item, Reading, ended, prefixed, round, follow, raw_reading, listed_records, listed_reading, view}
use Rattle.records.specs.Records.{Spanned, spanned}
use Rattle.rounds.specs.declared.Pending.{Pending}
use Rattle.std.specs.Prelude.{Result, Ok, Err}
use Rattle.rounds.specs.Promises.{opt, pending_records, pushed, levels_after, Below, StartedBelow, from_item}
use Rattle.rounds.proofs.Fuel.{reading_round}
use Rattle.rounds.proofs.Rests.{from_item_error, prefixed_append, On, glance_on}
use Rattle.rounds.proofs.Listed.{listed_append, listed_full, listed_notes, listed_pending, listed_reading_prefixed}
use Rattle.soft_keywords.specs.SoftKeywords.{soften}
use Rattle.soft_keywords.specs.Promises.{or_moved}
use Rattle.soft_keywords.proofs.Softens.{soften_start}
use Rattle.reader.specs.declared.Reader.{Reader}
use Rattle.reader.specs.Promises.{at_error, blanks_of, past_margin, softened, notes_left, due_left, items_left, left, busy, PendingOk, levels_of, Free, Kept, OpenReady, Opens}
use Rattle.reader.proofs.Gives.{stop_sound, stop_left, stop_busy}

-- ---- the line's first item
module _ (t : List ℕ) (c : Reader) where
  on_free : (x : Step) → On x → Free x
  on_free (T.Gap e) o = tt
  on_free (T.Tok k e m) o = tt
  on_free (T.Newline e) o = tt
  on_free (T.Error w p) o = o
  on_free T.End o = tt

  pub kept_glance : (q : Seen) → Glanced t c.at 0 q → (x : Bool) → goes_on q ≡ x → x ≡ true → Kept t c c
  kept_glance q g x f e = inl (record { free = on_free (step_at t c.at 0) (glance_on t c.at 0 q g x f e); is = refl })

  module _ (r : Step) (q : r ≡ step_at t c.at 0) where
    stays : (x : Step) → r ≡ x → Free x → Kept t c c
    stays x z f = inl (record { free = subst Free (sym z ∙ q) f; is = refl })

    pub kept_skip : (e : ℕ) → r ≡ T.Gap e → Kept t c c
    kept_skip e z = stays (T.Gap e) z tt

    pub kept_tok : (k e m : ℕ) → r ≡ T.Tok k e m → Kept t c c
    kept_tok k e m z = stays (T.Tok k e m) z tt

    pub kept_line : (e : ℕ) → r ≡ T.Newline e → Kept t c c
    kept_line e z = stays (T.Newline e) z tt

    pub kept_over : r ≡ T.End → Kept t c c
    kept_over z = stays T.End z tt

    pub kept_stop : (w : Ending) (p : ℕ) (o : Reader) → o ≡ at_error w p → r ≡ T.Error w p → Kept t c o
    kept_stop w p o e z = inr (record { why = w; where' = p; step = sym q ∙ z; is = e })

-- ---- what is pending comes first: where the item is no ending, or nothing of it is listed
first : (full : Bool) (t : List ℕ) (pend : List Spanned) (at nest : ℕ) (ls : List Level) (x : Step) → Free x ⊎ (listed_records full pend ≡ [])
    → listed_reading full (follow (with_item pend true at nest ls x) (raw_reading t)) ≡ prefixed (listed_records full pend) (listed_reading full (follow (with_item [] true at nest ls x) (raw_reading t)))
unfolding follow with_item prefixed listed_reading
first full t pend at nest ls (T.Gap e) o = listed_reading_prefixed full pend _
first full t pend at nest ls (T.Tok k e m) o = ap (listed_reading full) (prefixed_append pend (spanned k at e ∷ []) _) ∙ listed_reading_prefixed full pend _
first full t pend at nest ls (T.Newline e) o = ap (listed_reading full) (prefixed_append pend (spanned K.newline at e ∷ []) _) ∙ listed_reading_prefixed full pend _
first full t pend at nest ls (T.Error w p) (inl o) = absurd o
first full t pend at nest ls (T.Error w p) (inr o) = sym (ap (λ (l : List Spanned). prefixed l (listed_reading full (ended [] (code_of w) p (detail_of w)))) o)
first full t pend at nest ls T.End o = rw append-nil (ap (λ (l : List Spanned). ended l 0 at 0) (listed_append full pend (dedents (length ls) at)))

-- the notes of a line's start, where they are listed
notes_listed : (full : Bool) (p : Place) → choose full (λ _. notes p) (λ _. []) ≡ listed_records full (notes p)
notes_listed true p = sym (listed_full (notes p))
notes_listed false p = sym (listed_notes p)

-- an Indent covers one blank or more, so its blanks tell whether there is one
indent_told : (n w f : ℕ) → n ≤ w → opt (blanks_of n w) (spanned K.indent (f - blanks_of n w) f) ≡ opt n (spanned K.indent (f - w) f)
indent_told zero w f h = refl
indent_told (suc n) zero f h = absurd (omega arith)
indent_told (suc n) (suc w) f h = refl

pushed_told : (n w d : ℕ) (v : Level) (a : List Level) → n ≤ w → pushed (blanks_of n w) d v a ≡ pushed n d v a
pushed_told zero w d v a h = refl
pushed_told (suc n) zero d v a h = absurd (omega arith)
pushed_told (suc n) (suc w) d v a h = refl

blanks_fit : (n w f : ℕ) → w ≤ f → blanks_of n w ≤ f
blanks_fit zero w f h = omega arith
blanks_fit (suc n) w f h = h

blanks_few : (n w d : ℕ) → n ≤ d → 0 < blanks_of n w → 0 < d
blanks_few zero w d h k = absurd (omega arith)
blanks_few (suc n) w d h k = omega arith

-- the blanks of a new level are in one line, and so is none
blanks_line : (t : List ℕ) (n w f : ℕ) → line_at t (f - w) ≡ line_at t f → line_at t (f - blanks_of n w) ≡ line_at t f
blanks_line t zero w f e = let z : f - 0 ≡ f = omega arith in ap (line_at t) z
blanks_line t (suc n) w f e = e

-- nothing is due: notes are not listed, and no level opens or closes
not_due : (full : Bool) (n : ℕ) → or_moved full n ≡ false → (full ≡ false) × (n ≡ 0)
not_due full zero e = (e, refl)
not_due full (suc n) e = absurd (true_is_not_false e)

-- ---- a line's start
module _ (t : List ℕ) (a : List Level) (c : Reader) (rd : OpenReady t a c) where
  pub below : Below t a c.top c.depth c.at
  below = record { line = record { within = rd.sound.inside.to; few = rd.sound.open'; levels = rd.all }; top = rd.top rd.on }

  open_busy : busy c ≡ 3
  unfolding busy
  open_busy = rw (rd.on, rd.begins)

  -- what is left is a round and what follows it
  at_margin_lem : left t a c ≡ softened c.line (listed_reading c.full (follow (round t (state c.at true 0 (stack a c.depth))) (raw_reading t)))
  unfolding left view
  at_margin_lem = rw (rd.on, rd.begins) (ap (λ (r : Reading). softened c.line (listed_reading c.full r)) (reading_round t _ rd.sound.inside.to))

  stop_opens : (w : Ending) (p : ℕ) (o : Reader) → o ≡ at_error w p → p ≤ length t → left t a c ≡ ended [] (code_of w) p (detail_of w) → Opens t a c o
  stop_opens w p o e h z = subst (λ (x : Reader). Opens t a c x) (sym e) (record {
    sound = stop_sound t _ p _ h rd.sound.small;
    begun = refl;
    less = omega (arith, open_busy, stop_busy (code_of w) p (detail_of w));
    slot = λ k. absurd (omega arith);
    top = λ x. absurd (true_is_not_false (sym x));
    same = stop_left t _ _ p _ ∙ sym z;
  })

  module _ (s : Result Pending (Ending × ℕ)) (sd : StartedBelow t a c.depth c.at s) where
    pub opens_stop : (w : Ending) (p : ℕ) (o : Reader) → o ≡ at_error w p → s ≡ Err (w, p) → Opens t a c o
    unfolding follow soften listed_reading listed_records
    opens_stop w p o f e =
        let g : StartedBelow t a c.depth c.at (Err (w, p)) = subst (StartedBelow t a c.depth c.at) e sd in
        stop_opens w p o f g.start.0 (at_margin_lem ∙ ap (λ o. softened c.line (listed_reading c.full (follow o (raw_reading t)))) g.start.1)

    module _ (l : Pending) (e : s ≡ Ok l) where
      went : StartedBelow t a c.depth c.at (Ok l)
      went = subst (StartedBelow t a c.depth c.at) e sd

      pub lead_ok : PendingOk l
      lead_ok = record { few = omega (arith, went.start.0, rd.sound); wide = omega (arith, went.start.0, rd.sound) }

      pub lead_part : Part t c.at l.from
      lead_part = record { order = omega (arith, went.start.0.from); fits = went.start.0.to }

      module _ (n : ℕ) (counts : Ends t c.at l.from n) where
        -- the line of the first item
        abbrev above : ℕ
        above = c.above + n

        above_is : above ≡ line_at t l.from
        above_is = omega (arith, rd.sound.above, counts.count)

        pub lead_add : above < 2 ^ 64
        lead_add = omega (arith, above_is, line_most t l.from, went.start.0.to, rd.sound.small)

        pub lead_to : (o : Reader) → o ≡ past_margin c l above → o.at ≤ length t
        lead_to o f = subst (λ (x : Reader). x.at ≤ length t) (sym f) went.start.0.to

        -- the reader after it
        abbrev next : Reader
        next = past_margin c l above

        -- what the line's start hands out before its first item
        abbrev ahead : List Spanned
        ahead = notes (place_at t c.at) ++ pending_records l

        all : left t a c ≡ softened c.line (from_item c.full t ahead true l.from 0 (levels_after l a))
        all = at_margin_lem ∙ ap (λ o. softened c.line (listed_reading c.full (follow o (raw_reading t)))) went.start.1

        -- its notes where they are listed, and then what is pending
        ahead_listed : listed_records c.full ahead ≡ listed_records c.full (notes (place_at t c.at)) ++ pending_records l
        ahead_listed = listed_append c.full (notes (place_at t c.at)) (pending_records l) ∙ rw (listed_pending c.full l)

        none_listed : next.due ≡ false → listed_records c.full ahead ≡ []
        unfolding dedents
        none_listed h =
            let d = not_due c.full (l.indents + l.dedents) h in
            let i : l.indents ≡ 0 = omega (arith, d.1) in
            let o : l.dedents ≡ 0 = omega (arith, d.1) in
            ahead_listed ∙ rw (d.0, listed_notes (place_at t c.at), i, o)

        due_listed : due_left t next ≡ listed_records c.full ahead
        due_listed = go next.due refl
          where
            go : (b : Bool) → next.due ≡ b → choose b (λ _. notes_left t next ++ opt next.indent (spanned K.indent (next.at - next.indent) next.at) ++ dedents next.dedents next.at) (λ _. []) ≡ listed_records c.full ahead
            go true h =
                ap (λ (n : List Spanned). n ++ opt next.indent (spanned K.indent (next.at - next.indent) next.at) ++ dedents l.dedents l.from) (notes_listed c.full (place_at t c.at))
                ∙ ap (λ (r : List Spanned). listed_records c.full (notes (place_at t c.at)) ++ r ++ dedents l.dedents l.from) (indent_told l.indents (l.blanks.tabs + l.blanks.spaces) l.from went.start.0.wide)
                ∙ append_assoc (listed_records c.full (notes (place_at t c.at))) (opt l.indents (spanned K.indent (l.from - (l.blanks.tabs + l.blanks.spaces)) l.from)) (dedents l.dedents l.from) ∙ sym ahead_listed
            go false h = sym (none_listed h)

        levels : stack (levels_of a next) l.depth ≡ levels_after l a
        levels = ap (λ (b : List Level). stack b l.depth) (pushed_told l.indents (l.blanks.tabs + l.blanks.spaces) l.depth l.blanks a went.start.0.wide)

        next_left : left t (levels_of a next) next ≡ prefixed (listed_records c.full ahead) (softened (or_moved c.line (l.indents + l.dedents)) (from_item c.full t [] true l.from 0 (levels_after l a)))
        unfolding left
        next_left = ap (λ (d : List Spanned). prefixed d (items_left t (levels_of a next) next)) due_listed
            ∙ ap (λ (ls : List Level). prefixed (listed_records c.full ahead) (softened (or_moved c.line (l.indents + l.dedents)) (from_item c.full t [] true l.from 0 ls))) levels

        -- what is pending comes first
        kept_same : Free (step_at t l.from 0) ⊎ (listed_records c.full ahead ≡ []) → left t (levels_of a next) next ≡ left t a c
        unfolding prefixed
        kept_same o =
            let R = from_item c.full t [] true l.from 0 (levels_after l a) in
            next_left ∙ ap (λ (d : List Spanned). prefixed d (softened (or_moved c.line (l.indents + l.dedents)) R)) ahead_listed
            ∙ sym (all ∙ ap (softened c.line) (first c.full t ahead l.from 0 (levels_after l a) (step_at t l.from 0) o)
            ∙ ap (λ (d : List Spanned). softened c.line (prefixed d R)) ahead_listed
            ∙ ap (λ (x : List Spanned). ended x R.code R.place R.detail) (soften_start c.full (place_at t c.at) l c.line R.recs))

        next_busy : busy next ≤ 2
        unfolding busy
        next_busy = choose_keeps (λ (n : ℕ). n ≤ 2) next.due (λ _. omega arith) (λ _. omega arith)

        go_opens : Free (step_at t l.from 0) ⊎ (listed_records c.full ahead ≡ []) → (o : Reader) → o ≡ next → Opens t a c o
        go_opens f o y = subst (λ (x : Reader). Opens t a c x) (sym y) (record {
          sound = record {
            inside = record { nests = omega arith; to = went.start.0.to };
            wide = blanks_fit l.indents (l.blanks.tabs + l.blanks.spaces) l.from (omega (arith, went.start.0));
            open' = went.start.0.depth;
            small = rd.sound.small;
            flat = λ _. refl;
            aside = rd.sound.inside.to;
            to = omega arith;
            above = above_is;
            noted = rd.sound.above;
            blanks = λ _. blanks_line t l.indents (l.blanks.tabs + l.blanks.spaces) l.from went.line;
          };
          begun = refl;
          less = omega (arith, open_busy, next_busy);
          slot = blanks_few l.indents (l.blanks.tabs + l.blanks.spaces) l.depth went.start.0.slot;
          top = λ _. went.top ∙ ap top_of (sym levels);
          same = kept_same f;
        })

        module _ (o : Reader) (f : o ≡ next) (b : Bool) (y : o.due ≡ b) where
          -- nothing is pending
          pub opens_go : b ≡ false → Opens t a c o
          opens_go z = go_opens (inr (none_listed (ap (λ (x : Reader). x.due) (sym f) ∙ y ∙ z))) o f

          pub opens_kept : (r : Reader) → Kept t o r → Opens t a c r
          unfolding soften
          opens_kept r (inl k) = go_opens (inl (subst (λ (x : Reader). Free (step_at t x.at 0)) f k.free)) r (k.is ∙ f)
          opens_kept r (inr k) =
              let z : step_at t l.from 0 ≡ T.Error k.why k.where' = subst (λ (x : Reader). step_at t x.at 0 ≡ T.Error k.why k.where') f k.step in
              stop_opens k.why k.where' r k.is (subst (Goes l.from (length t) 0) z (step_goes t l.from 0 went.start.0.to)) (all ∙ ap (softened c.line) (from_item_error c.full t l.from 0 (levels_after l a) ahead true k.why k.where' z))
