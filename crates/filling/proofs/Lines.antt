-- A line's records written: what is left to write from a place is what was left from the line's start.
-- Assumes nothing.
use Prim.Native.Nat.{ℕ, ◌+◌, ◌-◌, ◌^◌, ◌<◌, ◌≤◌}
use mathlib.Core.Path.{◌≡◌, refl, sym, ◌∙◌, ap, subst}
use mathlib.Core.List.{List, [], ◌∷◌, ◌++◌, append_assoc}
use mathlib.Core.Bool.{Bool, true, false}
use native.Mathlib.Omega.{arith}
use lib.ListN.{length, length-append}
use Rattle.records.specs.Limits.{most_bytes, places}
use Rattle.choice.proofs.Laws.{true_is_not_false}
use Rattle.lines.specs.Lines.{line_at}
use Rattle.lines.specs.Promises.{Part, Ends}
use Rattle.lines.proofs.Laws.{line_most}
use Rattle.window.specs.Place.{Place, place_at}
use Rattle.names.specs.declared.Lexed.{Lexed}
use Rattle.names.specs.Runs.{skip_while, is_blank}
use Rattle.names.proofs.Lines.{blank_line}
use Rattle.token.specs.declared.Ending.{Ending}
use Rattle.indentation.specs.declared.Level.{Level}
use Rattle.lexer.specs.declared.Step.{Step}
use Rattle.lexer.specs.declared.Step.TheVariants as T
use Rattle.lexer.specs.declared.Seen.{Seen}
use Rattle.lexer.specs.declared.Seen.TheVariants as G
use Rattle.lexer.specs.Steps.{is_note, is_listed, step_at, nest_after}
use Rattle.lexer.specs.Promises.{glanced_at, Told, Glanced}
use Rattle.lexer.proofs.Goes as steps
use Rattle.lexer.proofs.Goes.{Goes}
use Rattle.rounds.specs.Rounds.{state, dedents, Reading, prefixed, listed_records, view}
use Rattle.records.specs.Records.{Spanned, spanned, rec, set_rec, put1, puts, room}
use Rattle.records.specs.Promises.{PutOk}
use Rattle.rounds.specs.declared.Pending.{Pending}
use Rattle.rounds.specs.Promises.{pending_records, from_item}
use Rattle.rounds.proofs.Rests.{rest_from_item, from_item_gap, from_item_tok, from_item_note, from_item_newline, from_item_error, from_item_end, rest_over, prefixed_none, On, from_item_on}
use Rattle.filling.specs.declared.Written.{Written}
use Rattle.measuring.specs.declared.LineEnd.TheVariants.{Newline, Error, End}
use Rattle.measuring.proofs.Lines as counts
use Rattle.measuring.proofs.Lines.{RestInv}
use Rattle.measuring.proofs.Texts.{length_pending}
use Rattle.soft_keywords.specs.SoftKeywords.{soft_kind, soften}
use Rattle.soft_keywords.specs.Promises.{or_moved}
use Rattle.filling.specs.Promises.{ItemOk, StartOk, RestOk, RestFilled, LineFill, LineFilled}
use Rattle.records.proofs.Rooms.{length_rec, length_puts}
use Rattle.records.proofs.Puts.{put_lined, puts_append}
use Rattle.soft_keywords.proofs.Softens.{soften_tok, soften_line, soften_last, soften_note, soften_start}
use Rattle.rounds.proofs.Listed.{listed_other, listed_append, listed_pending}
use Rattle.indentation.specs.Notes.{notes}
use Rattle.token.specs.Kinds as K

abbrev recs : Reading → List Spanned
recs r = r.recs

-- the loop over a line's rest
pub record FillInv (full : Bool) (t row₀ : List ℕ) (start at nest n : ℕ) (line : Bool) (row : List ℕ) (i up deep k : ℕ) (fresh : Bool) : Type 0 where
  pub counts : RestInv full t at nest n i deep k
  pub lined : up ≡ line_at t i
  pub fits : start + length t < places
  pub flat : fresh ≡ true → deep ≡ 0
  pub levels : List Level
  pub room : k + length (view full t (state i false deep levels)).recs ≤ room row
  pub same : length row ≡ length row₀
  pub left : (ls : List Level) → puts t start row k (soften fresh (view full t (state i false deep ls)).recs) ≡ puts t start row₀ n (soften line (view full t (state at false nest ls)).recs)

pub fill_begin : (full : Bool) (t row : List ℕ) (start at above nest n : ℕ) (line : Bool) → RestOk full t row start at above nest n line → FillInv full t row start at nest n line row at above nest n line
fill_begin full t row start at above nest n line ok = record {
  lined = ok.up;
  counts = counts.rest_begin full t at nest n ok.ok;
  fits = ok.fits;
  flat = ok.flat;
  levels = ok.levels;
  room = ok.room;
  same = refl;
  left = λ ls. refl;
}

module _ (full : Bool) (t row₀ : List ℕ) (start at nest n : ℕ) (line : Bool) (row : List ℕ) (i up deep k : ℕ) (fresh : Bool) (inv : FillInv full t row₀ start at nest n line row i up deep k fresh) (r : Step) (q : r ≡ step_at t i deep) where
  on : i ≤ length t
  on = inv.counts.ok.within

  goes : (s : Step) → r ≡ s → Goes i (length t) deep s
  goes = steps.goes t i deep r q on

  -- the line, with the line ends up to e
  up_on : (e w : ℕ) → Ends t i e w → up + w ≡ line_at t e
  up_on e w u = omega (arith, inv.lined, u.count)

  up_fits : (e w : ℕ) → Ends t i e w → e ≤ length t → up + w < places
  up_fits e w u h = omega (arith, up_on e w u, line_most t e, inv.fits)

  pub gap_fits : (e : ℕ) → r ≡ T.Gap e → (w : ℕ) → Ends t i e w → up + w < 2 ^ 64
  gap_fits e z w u = omega (arith, up_fits e w u (goes (T.Gap e) z).1)

  -- what is not written
  passed : (e d w : ℕ) → Ends t i e w → RestInv full t at nest n e d k → (fresh ≡ true → d ≡ 0) → ((ls : List Level) → view full t (state i false deep ls) ≡ view full t (state e false d ls))
      → FillInv full t row₀ start at nest n line row e (up + w) d k fresh
  passed e d v u c f w = record {
    counts = c;
    lined = up_on e v u;
    fits = inv.fits;
    flat = f;
    levels = inv.levels;
    room = rw (w inv.levels) at inv.room;
    same = inv.same;
    left = λ ls. ap (λ x. puts t start row k (soften fresh (recs x))) (sym (w ls)) ∙ inv.left ls;
  }

  pub fill_skip : (e : ℕ) → r ≡ T.Gap e → (w : ℕ) → Ends t i e w → FillInv full t row₀ start at nest n line row e (up + w) deep k fresh
  unfolding listed_records
  fill_skip e z w u =
      passed e deep w u (counts.rest_skip full t at nest n i deep k inv.counts r q e z) inv.flat
      (λ ls. rest_from_item full t i deep ls on ∙ from_item_gap full t i deep ls [] false e (sym q ∙ z) ∙ prefixed_none _)

  module _ (m e d : ℕ) (z : r ≡ T.Tok m e d) where
    g : Goes i (length t) deep (T.Tok m e d)
    g = goes (T.Tok m e d) z

    pub tok_in : e ≤ length t
    tok_in = g.1

    pub tok_up : (w : ℕ) → Ends t i e w → up + w < 2 ^ 64
    tok_up w u = omega (arith, up_fits e w u tok_in)

    -- what is listed is written, maybe as another kind
    module _ (l : is_listed full m ≡ true) where
      one_recs : (ls : List Level) → (view full t (state i false deep ls)).recs ≡ spanned m i e ∷ (view full t (state e false d ls)).recs
      unfolding prefixed listed_records
      one_recs ls = ap recs (rest_from_item full t i deep ls on ∙ from_item_tok full t i deep ls [] false m e d (sym q ∙ z) l)

      one_room : k + 1 + length (view full t (state e false d inv.levels)).recs ≤ room row
      one_room = omega (arith, inv.room, ap length (one_recs inv.levels))

      one_put : PutOk (room row) start k i e up
      one_put = omega (arith, one_room, g, inv.fits, inv.lined, line_most t i)

      one_fill : (kind : ℕ) (next : Bool) (a : ℕ) → Ends t i e a → (w : List ℕ) → w ≡ set_rec row k (rec kind (start + i) (start + e) up) → (next ≡ true → d ≡ 0)
          → ((ls : List Level) → soften fresh (spanned m i e ∷ (view full t (state e false d ls)).recs) ≡ spanned kind i e ∷ soften next (view full t (state e false d ls)).recs)
          → FillInv full t row₀ start at nest n line w e (up + a) d (k + 1) next
      unfolding puts
      one_fill kind next a u w v f s = let p = put_lined t start row w k kind i e up v inv.lined in record {
        lined = up_on e a u;
        counts = counts.rest_tok full t at nest n i deep k inv.counts r q m e d z _ refl l;
        fits = inv.fits;
        flat = f;
        levels = inv.levels;
        room = rw (p, length_rec) one_room;
        same = rw (p, length_rec) inv.same;
        left = λ ls.
            ap (λ x. puts t start x (k + 1) (soften next (view full t (state e false d ls)).recs)) p
            ∙ ap (puts t start row k) (sym (ap (soften fresh) (one_recs ls) ∙ s ls))
            ∙ inv.left ls;
      }

    -- a note is listed where it is asked for
    module _ (x : Bool) (y : is_note m ≡ x) (o : x ≡ true) where
      flat_note : fresh ≡ true → d ≡ 0
      flat_note f = g.5 (y ∙ o) ∙ inv.flat f

      note_listed : is_listed full m ≡ full
      unfolding is_listed
      note_listed = rw (y ∙ o)

      pub note_put : full ≡ true → PutOk (room row) start k i e up
      note_put f = one_put (note_listed ∙ f)

      pub fill_note : (a : ℕ) → Ends t i e a → (w : List ℕ) → w ≡ set_rec row k (rec m (start + i) (start + e) up) → full ≡ true → FillInv full t row₀ start at nest n line w e (up + a) d (k + 1) fresh
      fill_note a u w p f = one_fill (note_listed ∙ f) m fresh a u w p flat_note (λ ls. soften_note fresh m i e _ (y ∙ o))

      pub drop_note : (a : ℕ) → Ends t i e a → full ≡ false → FillInv full t row₀ start at nest n line row e (up + a) d k fresh
      unfolding listed_records
      drop_note a u f =
          passed e d a u (counts.rest_note full t at nest n i deep k inv.counts r q m e d z _ refl (note_listed ∙ f)) flat_note
          (λ ls. rest_from_item full t i deep ls on ∙ from_item_note full t i deep ls [] false m e d (sym q ∙ z) (note_listed ∙ f) ∙ prefixed_none _)

    module _ (x : Bool) (y : is_note m ≡ x) (o : x ≡ false) where
      pub tok_put : PutOk (room row) start k i e up
      tok_put = one_put (listed_other full m (y ∙ o))

      pub fill_tok : (kind a : ℕ) → Ends t i e a → (w : List ℕ) → ((nest' : ℕ) (ls : List Level) → (fresh ≡ true → K.first_soft ≤ m → nest' ≡ 0) → kind ≡ soft_kind fresh m (view full t (state e false nest' ls)).recs)
          → w ≡ set_rec row k (rec kind (start + i) (start + e) up) → FillInv full t row₀ start at nest n line w e (up + a) d (k + 1) false
      fill_tok kind a u w s p =
          one_fill (listed_other full m (y ∙ o)) kind false a u w p (λ f. absurd (true_is_not_false (sym f)))
          (λ ls. soften_tok fresh m i e _ g.3 (y ∙ o) ∙ ap (λ x. spanned x i e ∷ soften false (view full t (state e false d ls)).recs) (sym (s d ls (λ f l. g.4 l ∙ inv.flat f))))

  module _ (e : ℕ) (z : r ≡ T.Newline e) where
    gl : Goes i (length t) deep (T.Newline e)
    gl = goes (T.Newline e) z

    line_recs : (ls : List Level) → (view full t (state i false deep ls)).recs ≡ spanned K.newline i e ∷ (view full t (state e true 0 ls)).recs
    unfolding prefixed listed_records
    line_recs ls = ap recs (rest_from_item full t i deep ls on ∙ from_item_newline full t i deep ls [] false e (sym q ∙ z) ∙ ap (λ d. prefixed (spanned K.newline i e ∷ []) (view full t (state e true d ls))) gl.2)

    pub line_put : PutOk (room row) start k i e up
    line_put = omega (arith, inv.room, ap length (line_recs inv.levels), gl, inv.fits, inv.lined, line_most t i)

    pub line_up : (w : ℕ) → Ends t i e w → up + w < 2 ^ 64
    line_up w u = omega (arith, up_fits e w u gl.1)

    pub fill_line : (w : ℕ) → Ends t i e w → (y : List ℕ) → y ≡ set_rec row k (rec K.newline (start + i) (start + e) up) → RestFilled full t row₀ y start at nest n line (record { end = Newline e (k + 1); above = up + w })
    unfolding puts
    fill_line w u y v = let p = put_lined t start row y k K.newline i e up v inv.lined in record {
      up = up_on e w u;
      counted = counts.rest_line full t at nest n i deep k inv.counts r q e z;
      same = rw (p, length_rec) inv.same;
      left = λ ls.
          ap (λ x. puts t start x (k + 1) (soften true (view full t (state e true 0 ls)).recs)) p
          ∙ ap (puts t start row k) (sym (ap (soften fresh) (line_recs ls) ∙ soften_line fresh i e _))
          ∙ inv.left ls;
    }

  pub fill_stop : (w : Ending) (p : ℕ) → r ≡ T.Error w p → RestFilled full t row₀ row start at nest n line (record { end = Error w p k; above = up })
  unfolding soften puts
  fill_stop w p z = record {
    up = tt;
    counted = counts.rest_stop full t at nest n i deep k inv.counts r q w p z;
    same = inv.same;
    left = λ ls. ap (λ x. puts t start row k (soften fresh (recs x))) (sym (rest_from_item full t i deep ls on ∙ from_item_error full t i deep ls [] false w p (sym q ∙ z))) ∙ inv.left ls;
  }

  module _ (z : r ≡ T.End) where
    over_recs : (ls : List Level) → (view full t (state i false deep ls)).recs ≡ spanned K.newline i i ∷ dedents (length ls) i
    over_recs ls = ap recs (rest_from_item full t i deep ls on ∙ rest_over full t i deep ls (sym q ∙ z))

    pub over_put : PutOk (room row) start k i i up
    over_put = omega (arith, inv.room, ap length (over_recs inv.levels), on, inv.fits, inv.lined, line_most t i)

    pub fill_over : (y : List ℕ) → y ≡ set_rec row k (rec K.newline (start + i) (start + i) up) → RestFilled full t row₀ y start at nest n line (record { end = End i (k + 1); above = up })
    unfolding puts
    fill_over y v = let p = put_lined t start row y k K.newline i i up v inv.lined in record {
      up = inv.lined;
      counted = counts.rest_end full t at nest n i deep k inv.counts r q z;
      same = rw (p, length_rec) inv.same;
      left = λ ls.
          ap (λ x. puts t start x (k + 1) (dedents (length ls) i)) p
          ∙ ap (λ x. puts t start row k (spanned K.newline i i ∷ x)) (sym (soften_last true (length ls) i))
          ∙ ap (puts t start row k) (sym (ap (soften fresh) (over_recs ls) ∙ soften_line fresh i i _))
          ∙ inv.left ls;
    }

-- the line's own end is counted
pub glance_up : (full : Bool) (t row₀ : List ℕ) (start at nest n : ℕ) (line : Bool) (row : List ℕ) (i up deep k : ℕ) (fresh : Bool) → FillInv full t row₀ start at nest n line row i up deep k fresh → up + 1 < 2 ^ 64
glance_up full t row₀ start at nest n line row i up deep k fresh inv = omega (arith, inv.lined, line_most t i, inv.counts.ok.within, inv.fits)

-- a turn that a glance tells
module _ (full : Bool) (t row₀ : List ℕ) (start at nest n : ℕ) (line : Bool) (row : List ℕ) (i up deep k : ℕ) (fresh : Bool) (inv : FillInv full t row₀ start at nest n line row i up deep k fresh) (q : Seen) (g : Glanced t i deep q) where
  none : (e : ℕ) → i ≤ e → line_at t e ≡ line_at t i → Ends t i e 0
  none e h l = record { count = omega arith; most = omega arith }

  -- where no line ends, the line is the same
  same_up : (P : ℕ → Type 0) → P (up + 0) → P up
  same_up P = let e : up + 0 ≡ up = omega arith in subst P e

  pub glance_skip : (e : ℕ) → place_at t e ≡ skip_while is_blank (place_at t i) → q ≡ G.Blank → FillInv full t row₀ start at nest n line row e up deep k fresh
  glance_skip e w z =
      let b = subst (Glanced t i deep) z g in
      let s = goes full t row₀ start at nest n line row i up deep k fresh inv _ refl (T.Gap e) (b e w) in
      let l : line_at t e ≡ line_at t i = ap (λ (x : Place). line_at t x.at) w ∙ blank_line t i in
      same_up (λ u. FillInv full t row₀ start at nest n line row e u deep k fresh) (fill_skip full t row₀ start at nest n line row i up deep k fresh inv _ refl e (b e w) 0 (none e (omega arith) l))

  pub glance_line_put : q ≡ G.Newline → PutOk (room row) start k i (i + 1) up
  glance_line_put z = let m = subst (Glanced t i deep) z g in line_put full t row₀ start at nest n line row i up deep k fresh inv _ refl (i + 1) m.0

  pub glance_line : (y : List ℕ) → y ≡ set_rec row k (rec K.newline (start + i) (start + (i + 1)) up) → q ≡ G.Newline → RestFilled full t row₀ y start at nest n line (record { end = Newline (i + 1) (k + 1); above = up + 1 })
  glance_line y p z =
      let m = subst (Glanced t i deep) z g in
      fill_line full t row₀ start at nest n line row i up deep k fresh inv _ refl (i + 1) m.0 1 (record { count = sym m.1; most = omega arith }) y p

  module _ (c : ℕ) (w : Lexed) (e : w ≡ glanced_at t i c) (h : q ≡ G.Token c) where
    told : Told t i deep c
    told = subst (Glanced t i deep) h g

    glance_step : step_at t i deep ≡ T.Tok w.kind w.end (nest_after deep c)
    glance_step = told.token ∙ ap (λ (x : Lexed). T.Tok x.kind x.end (nest_after deep c)) (sym e)

    glance_plain : is_note w.kind ≡ false
    glance_plain = ap (λ (x : Lexed). is_note x.kind) e ∙ told.apart

    pub glance_in : w.end ≤ length t
    glance_in = tok_in full t row₀ start at nest n line row i up deep k fresh inv _ refl _ _ _ glance_step

    pub glance_put : PutOk (room row) start k i w.end up
    glance_put = tok_put full t row₀ start at nest n line row i up deep k fresh inv _ refl _ _ _ glance_step _ refl glance_plain

    pub glance_less : length t - w.end < length t - i
    glance_less = steps.tok_less t i deep _ refl inv.counts.ok.within _ _ _ glance_step

    pub glance_tok : (kind d : ℕ) (y : List ℕ)
        → ((nest' : ℕ) (ls : List Level) → (fresh ≡ true → K.first_soft ≤ w.kind → nest' ≡ 0) → kind ≡ soft_kind fresh w.kind (view full t (state w.end false nest' ls)).recs)
        → y ≡ set_rec row k (rec kind (start + i) (start + w.end) up) → d ≡ nest_after deep c → FillInv full t row₀ start at nest n line y w.end up d (k + 1) false
    glance_tok kind d y s p z =
        let o = goes full t row₀ start at nest n line row i up deep k fresh inv _ refl _ glance_step in
        let l : line_at t w.end ≡ line_at t i = ap (λ (x : Lexed). line_at t x.end) e ∙ told.inside in
        same_up (λ u. FillInv full t row₀ start at nest n line y w.end u d (k + 1) false)
        (fill_tok full t row₀ start at nest n line row i up deep k fresh inv _ refl w.kind w.end d (glance_step ∙ ap (T.Tok w.kind w.end) (sym z)) _ refl glance_plain kind 0 (none w.end (omega arith) l) y s p)

-- a line's first token: its line, and the records by then
pub first_up : (t : List ℕ) (at nest : ℕ) (r : Step) (q : r ≡ step_at t at nest) → at ≤ length t → (m e d : ℕ) → r ≡ T.Tok m e d
    → (here : ℕ) → here ≡ line_at t at → (w : ℕ) → Ends t at e w → length t ≤ most_bytes → here + w < 2 ^ 64
first_up t at nest r q h m e d z here u w v k = omega (arith, u, v.count, line_most t e, (steps.tok_part t at nest r q h m e d z).fits)

pub first_fits : (full : Bool) (t row : List ℕ) (start n at above : ℕ) (l : Pending) → LineFill full t row start n at above l
    → (k : ℕ) → k ≡ n + (length (listed_records full (notes (place_at t at))) + (l.indents + l.dedents)) → k + 1 < 2 ^ 64
first_fits full t row start n at above l ok k a = omega (arith, ok.ok)

-- a line after its start: what is pending is written once its first item is known
module _ (full : Bool) (t row : List ℕ) (start n at above : ℕ) (l : Pending) (here : ℕ) (u : here ≡ line_at t l.from) (line fresh : Bool) (ok : LineFill full t row start n at above l) (f : fresh ≡ or_moved line (l.indents + l.dedents)) where
  -- what is pending, and what is listed of it
  abbrev Q : List Spanned
  Q = notes (place_at t at) ++ pending_records l

  abbrev P : List Spanned
  P = listed_records full (notes (place_at t at)) ++ pending_records l

  listed_is : listed_records full Q ≡ P
  listed_is = listed_append full (notes (place_at t at)) (pending_records l) ∙ ap (λ (x : List Spanned). listed_records full (notes (place_at t at)) ++ x) (listed_pending full l)

  -- how many records that is
  abbrev due : ℕ
  due = length (listed_records full (notes (place_at t at))) + (l.indents + l.dedents)

  size : length P ≡ due
  size = omega (arith, length-append (listed_records full (notes (place_at t at))) (pending_records l), length_pending l ok.one)

  size_listed : length (listed_records full Q) ≡ due
  size_listed = ap length listed_is ∙ size

  swap : (xs : List Spanned) → listed_records full Q ++ xs ≡ P ++ xs
  swap xs = ap (λ (x : List Spanned). x ++ xs) listed_is

  -- the row after what is pending
  abbrev led : List ℕ
  led = puts t start row n P

  -- records after what is pending, and how they are written
  after_pending : (xs : List Spanned) → puts t start row n (soften line (P ++ xs)) ≡ puts t start led (n + due) (soften fresh xs)
  after_pending xs =
      ap (puts t start row n) (soften_start full (place_at t at) l line xs) ∙ puts_append t start P _ row n
      ∙ ap (λ m. puts t start led (n + m) (soften (or_moved line (l.indents + l.dedents)) xs)) size
      ∙ ap (λ b. puts t start led (n + due) (soften b xs)) (sym f)

  abbrev begun : List Level → List Spanned
  begun ls = (from_item full t Q true l.from 0 ls).recs

  -- room for what is pending and for what follows it
  room_after : (ls : List Level) (xs : List Spanned) → ls ≡ ok.levels → begun ls ≡ P ++ xs → n + due + length xs ≤ room row
  room_after ls xs e z =
      let h : n + length (begun ls) ≤ room row = rw e ok.room in
      omega (arith, ap length z, length-append P xs, size)

  led_ok : n + due ≤ room row → StartOk full t (room row) start n at above l here
  led_ok h = record { within = ok.begins; item = ok.item; line = u; room = h; fits = ok.fits; one = ok.one; wide = ok.wide; place = omega (arith, ok.ok, ok.fits) }

  -- where the line goes on, its rest has room for what follows
  module _ (o : On (step_at t l.from 0)) where
    on_recs : (ls : List Level) → begun ls ≡ P ++ (view full t (state l.from false 0 ls)).recs
    unfolding prefixed
    on_recs ls =
        ap recs (from_item_on full t l.from 0 ls Q true o ∙ ap (prefixed (listed_records full Q)) (sym (rest_from_item full t l.from 0 ls ok.ok.within))) ∙ swap _

    pub on_prefixed : StartOk full t (room row) start n at above l here
    on_prefixed = led_ok (omega (arith, room_after ok.levels _ refl (on_recs ok.levels)))

    pub on_rest : (y : List ℕ) (k : ℕ) → y ≡ puts t start row n P → k ≡ n + due → RestOk full t y start l.from here 0 k fresh
    on_rest y k p a = rw a (record {
      up = u;
      ok = counts.on_ok full t l.from due n ok.ok o;
      fits = ok.fits;
      flat = λ _. refl;
      levels = ok.levels;
      room = rw (p, length_puts) (room_after ok.levels _ refl (on_recs ok.levels));
    })

    pub on_lined : (y x : List ℕ) (k : ℕ) (v : Written) → RestFilled full t y x start l.from 0 k fresh v → y ≡ puts t start row n P → k ≡ n + due → LineFilled full t row x start n at l line v
    on_lined y x k v h p a =
        let s : RestFilled full t y x start l.from 0 (n + due) fresh v = rw a at h in
        let c = counts.on_lined full t l.from due n ok.ok o v.end s.counted in
        record {
          up = s.up;
          counted = λ ls. c.same ls Q size_listed;
          bounds = c.fits;
          same = s.same ∙ ap length p ∙ length_puts t start P row n;
          left = λ ls.
              s.left ls ∙ ap (λ b. puts t start b (n + due) (soften fresh (view full t (state l.from false 0 ls)).recs)) p
              ∙ sym (ap (λ xs. puts t start row n (soften line xs)) (on_recs ls) ∙ after_pending _);
        }

  -- otherwise its first item is looked at
  module _ (r : Step) (q : r ≡ step_at t l.from 0) where
    module _ (m e d : ℕ) (z : r ≡ T.Tok m e d) (xo : Bool) (yo : is_note m ≡ xo) (oo : xo ≡ false) where
      gt : Goes l.from (length t) 0 (T.Tok m e d)
      gt = counts.first_goes full t l.from due n ok.ok r q (T.Tok m e d) z

      tok_begun : (ls : List Level) → begun ls ≡ P ++ spanned m l.from e ∷ (view full t (state e false d ls)).recs
      unfolding prefixed
      tok_begun ls = ap recs (from_item_tok full t l.from 0 ls Q true m e d (sym q ∙ z) (listed_other full m (yo ∙ oo))) ∙ ap (λ (x : List Spanned). (x ++ spanned m l.from e ∷ []) ++ (view full t (state e false d ls)).recs) listed_is ∙ append_assoc P (spanned m l.from e ∷ []) _

      tok_space : n + due + 1 + length (view full t (state e false d ok.levels)).recs ≤ room row
      tok_space = omega (arith, room_after ok.levels _ refl (tok_begun ok.levels))

      pub first_in : e ≤ length t
      first_in = gt.1

      pub tok_lead : StartOk full t (room row) start n at above l here
      tok_lead = led_ok (omega (arith, tok_space))

      pub first_put : (y : List ℕ) (k : ℕ) → y ≡ puts t start row n P → k ≡ n + due → PutOk (room y) start k l.from e here
      first_put y k p a = omega (arith, tok_space, ap length p ∙ length_puts t start P row n, gt, ok.fits, u, line_most t l.from)

      module _ (kind : ℕ) (y x : List ℕ) (k : ℕ) (p : y ≡ puts t start row n P) (a : k ≡ n + due) (o : x ≡ set_rec y k (rec kind (start + l.from) (start + e) here)) where
        b : x ≡ put1 t start y k (spanned kind l.from e)
        b = put_lined t start y x k kind l.from e here o u

        w : x ≡ put1 t start y (n + due) (spanned kind l.from e)
        w = rw a at b

        same_row : length x ≡ length row
        same_row = ap length w ∙ length_rec y _ _ ∙ ap length p ∙ length_puts t start P row n

        pub tok_rest : (v : ℕ) → Ends t l.from e v → RestOk full t x start e (here + v) d (k + 1) false
        tok_rest v c = rw a (record {
          up = omega (arith, u, c.count);
          ok = counts.tok_ok full t l.from due n ok.ok r q m e d z;
          fits = ok.fits;
          flat = λ h. absurd (true_is_not_false (sym h));
          levels = ok.levels;
          room = omega (arith, tok_space, same_row);
        })

        pub line_tok : (z' : List ℕ) (v : Written) → RestFilled full t x z' start e d (k + 1) false v
            → ((nest' : ℕ) (ls : List Level) → (fresh ≡ true → K.first_soft ≤ m → nest' ≡ 0) → kind ≡ soft_kind fresh m (view full t (state e false nest' ls)).recs)
            → LineFilled full t row z' start n at l line v
        unfolding puts
        line_tok z' v i g =
            let s : RestFilled full t x z' start e d (n + due + 1) false v = rw a at i in
            let c = counts.line_tok full t l.from due n ok.ok r q m e d v.end s.counted z xo yo oo in
            let h : fresh ≡ true → K.first_soft ≤ m → d ≡ 0 = λ _ b. gt.4 b in
            let R : List Level → List Spanned = λ ls. (view full t (state e false d ls)).recs in
            record {
              up = s.up;
              counted = λ ls. c.same ls Q size_listed;
              bounds = c.fits;
              same = s.same ∙ same_row;
              left = λ ls.
                  s.left ls
                  ∙ ap (λ b. puts t start b (n + due + 1) (soften false (R ls))) (w ∙ ap (λ b. put1 t start b (n + due) (spanned kind l.from e)) p ∙ ap (λ b. put1 t start led (n + due) (spanned b l.from e)) (g d ls h))
                  ∙ ap (puts t start led (n + due)) (sym (soften_tok fresh m l.from e (R ls) gt.3 (yo ∙ oo)))
                  ∙ sym (ap (λ xs. puts t start row n (soften line xs)) (tok_begun ls) ∙ after_pending _);
            }

    pub line_stop : (w : Ending) (p : ℕ) → r ≡ T.Error w p → LineFilled full t row row start n at l line (record { end = Error w p n; above = here })
    unfolding soften puts
    line_stop w p z =
        let c = counts.line_stop full t l.from due n ok.ok r q w p z in
        record {
          up = tt;
          counted = λ ls. c.same ls Q size_listed;
          bounds = c.fits;
          same = refl;
          left = λ ls. ap (λ x. puts t start row n (soften line (recs x))) (sym (from_item_error full t l.from 0 ls Q true w p (sym q ∙ z)));
        }

    module _ (z : r ≡ T.End) where
      over_begun : (ls : List Level) → begun ls ≡ P ++ dedents (length ls) l.from
      over_begun ls = ap recs (from_item_end full t l.from 0 ls Q (sym q ∙ z)) ∙ swap _

      pub over_lead : StartOk full t (room row) start n at above l here
      over_lead = led_ok (omega (arith, room_after ok.levels _ refl (over_begun ok.levels)))

      over_last : (y : List ℕ) → y ≡ puts t start row n P → LineFilled full t row y start n at l line (record { end = End l.from (n + due); above = here })
      over_last y p =
          let c = counts.line_over full t l.from due n ok.ok r q z in
          record {
            up = u;
            counted = λ ls. c.same ls Q size_listed;
            bounds = c.fits;
            same = ap length p ∙ length_puts t start P row n;
            left = λ ls.
                ap (λ b. puts t start b (n + due) (dedents (length ls) l.from)) p
                ∙ ap (puts t start led (n + due)) (sym (soften_last fresh (length ls) l.from))
                ∙ sym (ap (λ xs. puts t start row n (soften line xs)) (over_begun ls) ∙ after_pending _);
          }

      pub line_over : (y : List ℕ) (k : ℕ) → y ≡ puts t start row n P → k ≡ n + due → LineFilled full t row y start n at l line (record { end = End l.from k; above = here })
      line_over y k p a = rw a (over_last y p)

-- the line of a line's first item
module _ (t : List ℕ) (at above : ℕ) (l : Pending) (ok : ItemOk t at above l) where
  pub item_here : l.from - (l.blanks.tabs + l.blanks.spaces) ≡ at → above ≡ line_at t l.from
  item_here e = ok.line ∙ ap (line_at t) (sym e) ∙ ok.blanks

  pub item_part : Part t at l.from
  item_part = omega (arith, ok)

  pub item_fits : (w : ℕ) → Ends t at l.from w → length t < 2 ^ 64 → above + w < 2 ^ 64
  item_fits w u h = omega (arith, ok.line, u.count, line_most t l.from, ok.to)

  pub item_on : (w : ℕ) → Ends t at l.from w → above + w ≡ line_at t l.from
  item_on w u = omega (arith, ok.line, u.count)
