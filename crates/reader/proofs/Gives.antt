-- A record given: what was left is that record and what is left after it. Without one, the reader goes on or has ended.
-- Assumes nothing.
use Prim.Native.Nat.{ℕ, zero, suc, ◌+◌, ◌-◌, ◌^◌, ◌<◌, ◌≤◌}
use mathlib.Core.Path.{◌≡◌, refl, sym, ◌∙◌, ap, subst}
use mathlib.Core.List.{List, [], ◌∷◌, ◌++◌, append-nil}
use mathlib.Core.Bool.{Bool, true, false}
use native.Mathlib.Omega.{arith}
use native.Mathlib.Decide.{dec_lt}
use native.Mathlib.Numerals.{sub-one}
use borrow.Author.Tests.{lt-leb, lt-ltb, le-ltb}
use lib.Dec.{eqb, ltb}
use lib.ListN.{length}
use Rattle.choice.specs.Choice.{choose, both}
use Rattle.choice.proofs.Laws.{true_is_not_false}
use Rattle.lines.specs.Lines.{line_at}
use Rattle.lines.specs.Promises.{Part, Ends}
use Rattle.lines.proofs.Laws.{line_start_lem, line_most}
use Rattle.stacks.specs.Promises.{stack_in}
use Rattle.stacks.proofs.Laws.{stack_length}
use Rattle.token.specs.declared.Ending.{Ending}
use Rattle.indentation.specs.declared.Level.{Level}
use Rattle.indentation.specs.Levels.{level, top_of}
use Rattle.indentation.specs.Promises.{stack, NextNote, NoteAt}
use Rattle.std.specs.Prelude.{Option, Some, None}
use Rattle.indentation.specs.declared.Note.{Note}
use Rattle.lexer.specs.declared.Step.TheVariants as T
use Rattle.lexer.specs.Steps.{is_note, step_at}
use Rattle.rounds.specs.declared.Found.{Found}
use Rattle.rounds.specs.declared.NextToken.{NextToken}
use Rattle.rounds.specs.declared.NextToken.TheVariants.{Tok, Newline, End, Error}
use Rattle.rounds.specs.Rounds.{state, dedents, Reading, ended, prefixed, listed_records, view}
use Rattle.records.specs.Records.{Spanned, spanned, rec, record_in}
use Rattle.records.specs.Promises.{NumbersOk}
use Rattle.rounds.specs.Promises.{opt, from_next, Reaches, LineEndsOf, FoundFrom}
use Rattle.rounds.proofs.Rests.{rest_from_item, from_item_end, prefixed_none}
use Rattle.token.specs.Kinds as K
use Rattle.token.specs.Codes.{code_of, detail_of}
use Rattle.records.specs.Limits.{most_bytes}
use Rattle.soft_keywords.specs.SoftKeywords.{soft_kind, line_start_after, soften}
use Rattle.soft_keywords.proofs.Softens.{soften_line, soften_last}
use Rattle.reader.specs.declared.Reader.{Reader}
use Rattle.reader.specs.declared.Given.{Given}
use Rattle.reader.specs.Promises.{at_margin, at_end, at_ending, at_error, within, softened, notes_left, items_left, left, busy, Sound, Ready, DueReady, ItemReady, PendReady, giving, ending, dedent_at, last_given, pends, pending_given, Takes}

-- the same for what is told by an equation
as_told : (t : List ℕ) (start : ℕ) (c : Reader) (g x : Given) → g ≡ x → Takes t start c x → Takes t start c g
as_told t start c g x e k = subst (λ (y : Given). Takes t start c y) (sym e) k

-- a token after which a line still starts: it is a note
still : (line : Bool) (k : ℕ) → K.dedent < k → line_start_after line k ≡ true → (is_note k ≡ true) × (line ≡ true)
unfolding line_start_after
still line k h = go (is_note k) refl
  where
    go : (b : Bool) → is_note k ≡ b → line_start_after line k ≡ true → (is_note k ≡ true) × (line ≡ true)
    go true n e = (n, rw n at e)
    go false n e = absurd (true_is_not_false (sym (rw (n, lt-leb k K.dedent h) at e)))

-- a record with the line of its start
item_is : (t : List ℕ) (start k s e l : ℕ) → l ≡ line_at t s → rec k (start + s) (start + e) l ≡ record_in t start (spanned k s e)
item_is t start k s e l q = ap (λ (x : ℕ). rec k (start + s) (start + e) x) q

-- where no record is given
abbrev nothing : Spanned
nothing = spanned 0 0 0

-- one Dedent more
dedents_more : (n p : ℕ) → 0 < n → dedents n p ≡ spanned K.dedent p p ∷ dedents (n - 1) p
unfolding dedents
dedents_more zero p h = absurd (omega arith)
dedents_more (suc n) p h = rw sub-one

-- a record given leaves it to the others to say how far the end is
given_less : (a b : ℕ) → true ≡ false → a ≤ b
given_less a b e = absurd (true_is_not_false e)

-- ---- readers at the text's end
module _ (t : List ℕ) (a : ℕ) (over : step_at t a 0 ≡ T.End) where
  -- what is left there: the Dedents
  pub end_left : (b : List Level) (above n : ℕ) → left t b (at_end a above n) ≡ ended (dedents n a) 0 a 0
  unfolding left prefixed stack_in soften dedents listed_records
  end_left b above n = ap (λ (r : Reading). prefixed (dedents n a) (softened true r)) (from_item_end false t a 0 [] [] over) ∙ ap (λ (l : List Spanned). ended l 0 a 0) (append-nil (dedents n a))

pub stop_busy : (k p d : ℕ) → busy (at_ending k p d) ≡ 0
unfolding busy
stop_busy k p d = refl

pub end_sound : (t : List ℕ) (a above n : ℕ) → a ≤ length t → length t ≤ most_bytes → above ≡ line_at t a → Sound t (at_end a above n)
end_sound t a above n h m q = record {
  inside = record { nests = omega arith; to = h };
  wide = omega arith;
  open' = omega arith;
  small = m;
  flat = λ _. refl;
  aside = omega arith;
  to = omega arith;
  above = q;
  noted = sym (line_start_lem t);
  blanks = λ _. let z : a - 0 ≡ a = omega arith in ap (line_at t) z;
}

pub stop_sound : (t : List ℕ) (k p d : ℕ) → p ≤ length t → length t ≤ most_bytes → Sound t (at_ending k p d)
stop_sound t k p d h m = record { inside = record { nests = omega arith; to = omega arith }; wide = omega arith; open' = omega arith; small = m; flat = λ _. refl; aside = omega arith; to = h; above = sym (line_start_lem t); noted = sym (line_start_lem t); blanks = λ x. absurd (true_is_not_false (sym x)) }

pub stop_left : (t : List ℕ) (b : List Level) (k p d : ℕ) → left t b (at_ending k p d) ≡ ended [] k p d
unfolding left
stop_left t b k p d = refl

-- ---- what stands at the reader's place, nothing of its line's start being left
module _ (t : List ℕ) (start : ℕ) (c : Reader) (rd : ItemReady t start c) (f : Found) (q : FoundFrom c.full t c.at c.nest f) where
  abbrev ready : Ready t start c
  ready = rd.ready

  abbrev sd : Sound t c
  sd = ready.sound

  -- what is left is what comes next
  plain : (b : List Level) (x : NextToken) → f.token ≡ x → left t b c ≡ softened c.line (from_next c.full t c.first c.at (stack b c.depth) x)
  unfolding left prefixed
  plain b x z = rw (rd.on, ready.begun, rd.none) (ap (softened c.line) (q.next.same c.first (stack b c.depth) ∙ ap (from_next c.full t c.first c.at (stack b c.depth)) z))

  reaches : (x : NextToken) → f.token ≡ x → Reaches t c.at c.nest x
  reaches x z = subst (Reaches t c.at c.nest) z q.next.reaches

  lines : (x : NextToken) → f.token ≡ x → LineEndsOf t c.at x f.before f.within
  lines x z = subst (λ (y : NextToken). LineEndsOf t c.at y f.before f.within) z q.lines

  -- the lines above what comes next, and those above the byte behind it
  abbrev above : ℕ
  above = c.above + f.before

  abbrev below : ℕ
  below = above + f.within

  above_is : (a : ℕ) → Ends t c.at a f.before → above ≡ line_at t a
  above_is a h = omega (arith, sd.above, h.count)

  below_is : (a e : ℕ) → Ends t c.at a f.before → Ends t a e f.within → below ≡ line_at t e
  below_is a e h k = omega (arith, above_is a h, k.count)

  -- they are counted in a word
  above_fits : (a : ℕ) → Ends t c.at a f.before → a ≤ length t → above < 2 ^ 64
  above_fits a h l = omega (arith, above_is a h, line_most t a, sd.small)

  below_fits : (a e : ℕ) → Ends t c.at a f.before → Ends t a e f.within → e ≤ length t → below < 2 ^ 64
  below_fits a e h k l = omega (arith, below_is a e h k, line_most t e, sd.small)

  -- it is one step from its ending
  item_busy : busy c ≡ 1
  unfolding busy
  item_busy = rw (rd.on, ready.begun, rd.none)

  module _ (k a e m : ℕ) (z : f.token ≡ Tok k a e m) where
    pub tok_in : e ≤ length t
    tok_in = (reaches (Tok k a e m) z).2

    tok_lines : Ends t c.at a f.before × Ends t a e f.within
    tok_lines = lines (Tok k a e m) z

    tok_above : above ≡ line_at t a
    tok_above = above_is a tok_lines.0

    pub tok_add : above < 2 ^ 64
    tok_add = let g = reaches (Tok k a e m) z in above_fits a tok_lines.0 (omega arith)

    pub tok_below : below < 2 ^ 64
    tok_below = below_fits a e tok_lines.0 tok_lines.1 tok_in

    pub tok_record : NumbersOk start a e above
    tok_record = let g = reaches (Tok k a e m) z in omega (arith, ready.fits, tok_above, line_most t a)

    module _ (line : Bool) (w : line ≡ line_start_after c.line k) where
      -- where a soft keyword may still come, no bracket is open
      tok_flat : line ≡ true → m ≡ 0
      tok_flat h =
          let g = reaches (Tok k a e m) z in
          let n = still c.line k g.4 (sym w ∙ h) in
          g.6 n.0 ∙ sd.flat n.1

      -- what is left behind it
      tok_left : (b : List Level) → left t b (within c e below m line) ≡ softened line (view c.full t (state e false m (stack b c.depth)))
      unfolding left prefixed
      tok_left b = rw (rd.on, ready.begun) (ap (softened line) (sym (rest_from_item c.full t e m (stack b c.depth) tok_in)))

    pub tok_takes : (kind : ℕ) (n : Reader) (r : Given) → r ≡ giving start (spanned kind a e) above n → (line : Bool) → n ≡ within c e below m line → line ≡ line_start_after c.line k
        → ((nest' : ℕ) (ls : List Level) → (c.line ≡ true → K.first_soft ≤ k → nest' ≡ 0) → kind ≡ soft_kind c.line k (view c.full t (state e false nest' ls)).recs) → Takes t start c r
    unfolding prefixed soften
    tok_takes kind n r v line y w s =
        let g = reaches (Tok k a e m) z in
        as_told t start c r _ (v ∙ ap (λ (x : Reader). giving start (spanned kind a e) above x) y) (record {
          sound = record { inside = record { nests = g.3; to = g.2 }; wide = omega (arith, sd); open' = sd.open'; small = sd.small; flat = tok_flat line w; aside = sd.aside; to = sd.to; above = below_is a e tok_lines.0 tok_lines.1; noted = sd.noted; blanks = λ x. absurd (true_is_not_false (sym x)) };
          top = λ b h. h;
          raw = spanned kind a e;
          item = λ _. item_is t start kind a e above tok_above;
          same = λ b.
              plain b (Tok k a e m) z
              ∙ ap (λ (x : ℕ). ended (spanned x a e ∷ soften (line_start_after c.line k) (R b).recs) (R b).code (R b).place (R b).detail) (sym (s m (stack b c.depth) (λ l h. g.5 h ∙ sd.flat l)))
              ∙ ap (λ (x : Bool). prefixed (spanned kind a e ∷ []) (softened x (R b))) (sym w)
              ∙ ap (prefixed (spanned kind a e ∷ [])) (sym (tok_left line w b));
          less = given_less _ _;
        })
      where
        R : List Level → Reading
        R b = view c.full t (state e false m (stack b c.depth))

  module _ (a e : ℕ) (z : f.token ≡ Newline a e) where
    line_lines : Ends t c.at a f.before × Ends t a e f.within
    line_lines = lines (Newline a e) z

    line_above : above ≡ line_at t a
    line_above = above_is a line_lines.0

    pub line_add : above < 2 ^ 64
    line_add = let g = reaches (Newline a e) z in above_fits a line_lines.0 (omega arith)

    pub line_below : below < 2 ^ 64
    line_below = below_fits a e line_lines.0 line_lines.1 (reaches (Newline a e) z).2

    pub line_record : NumbersOk start a e above
    line_record = let g = reaches (Newline a e) z in omega (arith, ready.fits, line_above, line_most t a)

    pub line_takes : (n : Reader) (r : Given) → n ≡ at_margin c.full e below c.depth c.top true → r ≡ giving start (spanned K.newline a e) above n → Takes t start c r
    unfolding left prefixed
    line_takes n r y v =
        let g = reaches (Newline a e) z in
        as_told t start c r _ (v ∙ ap (λ (x : Reader). giving start (spanned K.newline a e) above x) y) (record {
          sound = record { inside = record { nests = omega arith; to = g.2 }; wide = omega arith; open' = sd.open'; small = sd.small; flat = λ _. refl; aside = omega arith; to = omega arith; above = below_is a e line_lines.0 line_lines.1; noted = sym (line_start_lem t); blanks = λ x. absurd (true_is_not_false (sym x)) };
          top = λ b h _. h rd.on;
          raw = spanned K.newline a e;
          item = λ _. item_is t start K.newline a e above line_above;
          same = λ b. plain b (Newline a e) z ∙ ap (λ (l : List Spanned). ended l (R b).code (R b).place (R b).detail) (soften_line c.line a e _);
          less = given_less _ _;
        })
      where
        R : List Level → Reading
        R b = view c.full t (state e true 0 (stack b c.depth))

  module _ (a : ℕ) (z : f.token ≡ End a) where
    last_above : above ≡ line_at t a
    last_above = above_is a (lines (End a) z)

    pub last_add : above < 2 ^ 64
    last_add = above_fits a (lines (End a) z) (reaches (End a) z).0

    pub last_fits : NumbersOk start a a above
    last_fits = let g = reaches (End a) z in omega (arith, ready.fits, last_above, line_most t a)

    over : step_at t a 0 ≡ T.End
    over = (reaches (End a) z).1

    -- the Dedents that are left, one for each open level
    ended_by : (b : List Level) (x : List Spanned) → soften c.line (x ++ dedents (length (stack b c.depth)) a) ≡ x ++ dedents c.depth a
        → softened c.line (ended (x ++ dedents (length (stack b c.depth)) a) 0 a 0) ≡ prefixed x (ended (dedents c.depth a) 0 a 0)
    unfolding prefixed
    ended_by b x e = ap (λ (l : List Spanned). ended l 0 a 0) e

    deep : (b : List Level) → dedents (length (stack b c.depth)) a ≡ dedents c.depth a
    deep b = ap (λ n. dedents n a) (stack_length (level 0 0) b c.depth)

    bare_takes : both c.first (eqb a c.at) ≡ true → (n : ℕ) → c.depth ≡ n → Takes t start c (dedent_at start a above n)
    unfolding dedents prefixed top_of stack_in
    bare_takes w zero d = record {
      sound = stop_sound t 0 a 0 (reaches (End a) z).0 sd.small;
      top = λ b h x. absurd (true_is_not_false (sym x));
      raw = nothing;
      item = λ x. absurd (true_is_not_false (sym x));
      same = λ b. plain b (End a) z ∙ rw w (ended_by b [] (soften_last c.line (length (stack b c.depth)) a ∙ deep b) ∙ rw d (sym (stop_left t b 0 a 0)));
      less = λ _. omega (arith, item_busy, stop_busy 0 a 0);
    }
    bare_takes w (suc n) d = record {
      sound = end_sound t a above n (reaches (End a) z).0 sd.small last_above;
      top = λ b h x. refl;
      raw = spanned K.dedent a a;
      item = λ _. item_is t start K.dedent a a above last_above;
      same = λ b. plain b (End a) z ∙ rw w (ended_by b [] (soften_last c.line (length (stack b c.depth)) a ∙ deep b) ∙ rw d (ap (prefixed (spanned K.dedent a a ∷ [])) (sym (end_left t a over b above n))));
      less = given_less _ _;
    }

    newline_takes : both c.first (eqb a c.at) ≡ false → Takes t start c (giving start (spanned K.newline a a) above (at_end a above c.depth))
    unfolding prefixed top_of stack_in
    newline_takes w = record {
      sound = end_sound t a above c.depth (reaches (End a) z).0 sd.small last_above;
      top = λ b h x. refl;
      raw = spanned K.newline a a;
      item = λ _. item_is t start K.newline a a above last_above;
      same = λ b. plain b (End a) z ∙ rw w (ended_by b (spanned K.newline a a ∷ []) (soften_line c.line a a _ ∙ ap (λ (l : List Spanned). spanned K.newline a a ∷ l) (soften_last true (length (stack b c.depth)) a ∙ deep b)) ∙ ap (prefixed (spanned K.newline a a ∷ [])) (sym (end_left t a over b above c.depth)));
      less = given_less _ _;
    }

    pub last_takes : (r : Given) → r ≡ last_given start c a above → Takes t start c r
    unfolding last_given
    last_takes r v = as_told t start c r _ v (go (both c.first (eqb a c.at)) refl)
      where
        go : (b : Bool) → both c.first (eqb a c.at) ≡ b → Takes t start c (choose b (λ _. dedent_at start a above c.depth) (λ _. giving start (spanned K.newline a a) above (at_end a above c.depth)))
        go true w = bare_takes w c.depth refl
        go false w = newline_takes w

  module _ (w : Ending) (p : ℕ) (z : f.token ≡ Error w p) where
    pub wrong_takes : (n : Reader) (r : Given) → n ≡ at_error w p → r ≡ ending n → Takes t start c r
    unfolding soften prefixed
    wrong_takes n r y v =
        as_told t start c r _ (v ∙ ap (λ (x : Reader). ending x) y) (record {
          sound = stop_sound t _ p _ (reaches (Error w p) z) sd.small;
          top = λ b h x. absurd (true_is_not_false (sym x));
          raw = nothing;
          item = λ x. absurd (true_is_not_false (sym x));
          same = λ b. plain b (Error w p) z ∙ sym (stop_left t b _ p _);
          less = λ _. omega (arith, item_busy, stop_busy (code_of w) p (detail_of w));
        })

-- ---- what is left of a line's start
module _ (t : List ℕ) (start : ℕ) (c : Reader) (rd : DueReady t start c) where
  abbrev sd' : Sound t c
  sd' = rd.ready.sound

  pub pend_ready : PendReady start c
  pend_ready = record { wide = sd'.wide; fits = omega (arith, rd.ready.fits, sd'.inside); above = omega (arith, sd'.above, line_most t c.at, rd.ready.fits, sd'.inside) }

  -- what is left: notes, an Indent, Dedents, the items
  due_left_lem : (b : List Level) → left t b c ≡ prefixed (notes_left t c ++ opt c.indent (spanned K.indent (c.at - c.indent) c.at) ++ dedents c.dedents c.at) (items_left t b c)
  unfolding left
  due_left_lem b = rw (rd.on, rd.ready.begun, rd.due)

  -- no note is left
  module _ (none : notes_left t c ≡ []) where
    pends_left : (b : List Level) (i n : ℕ) → left t b (pends c i n c.due) ≡ prefixed (opt i (spanned K.indent (c.at - i) c.at) ++ dedents n c.at) (items_left t b c)
    unfolding left
    pends_left b i n = rw (rd.on, rd.ready.begun, rd.due, none)

    pends_sound : (i n : ℕ) (d : Bool) → i ≤ c.indent → line_at t (c.at - i) ≡ line_at t c.at → Sound t (pends c i n d)
    pends_sound i n d h e = record { inside = sd'.inside; wide = omega (arith, sd'.wide); open' = sd'.open'; small = sd'.small; flat = sd'.flat; aside = sd'.aside; to = sd'.to; above = sd'.above; noted = sd'.noted; blanks = λ _. e }

    -- its blanks are in one line, and so is none
    blanks : line_at t (c.at - c.indent) ≡ line_at t c.at
    blanks = sd'.blanks rd.due

    blank_none : line_at t (c.at - 0) ≡ line_at t c.at
    blank_none = let z : c.at - 0 ≡ c.at = omega arith in ap (line_at t) z

    -- what is given, and what is left then
    given : (b : List Level) (r : Spanned) (rs : List Spanned) → opt c.indent (spanned K.indent (c.at - c.indent) c.at) ++ dedents c.dedents c.at ≡ r ∷ rs → left t b c ≡ prefixed (r ∷ []) (prefixed rs (items_left t b c))
    unfolding prefixed
    given b r rs e = due_left_lem b ∙ ap (λ (l : List Spanned). prefixed l (items_left t b c)) (ap (λ (n : List Spanned). n ++ opt c.indent (spanned K.indent (c.at - c.indent) c.at) ++ dedents c.dedents c.at) none ∙ e)

    indent_takes : 0 < c.indent → Takes t start c (giving start (spanned K.indent (c.at - c.indent) c.at) c.above (pends c 0 c.dedents c.due))
    indent_takes h = record {
      sound = pends_sound 0 c.dedents c.due (omega arith) blank_none;
      top = λ b h. h;
      raw = spanned K.indent (c.at - c.indent) c.at;
      item = λ _. item_is t start K.indent (c.at - c.indent) c.at c.above (sd'.above ∙ sym blanks);
      same = λ b. given b (spanned K.indent (c.at - c.indent) c.at) (dedents c.dedents c.at) (go c.indent h _) ∙ ap (prefixed (spanned K.indent (c.at - c.indent) c.at ∷ [])) (sym (pends_left b 0 c.dedents));
      less = given_less _ _;
    }
      where
        go : (n : ℕ) → 0 < n → (r : Spanned) → opt n r ++ dedents c.dedents c.at ≡ r ∷ dedents c.dedents c.at
        go zero h r = absurd (omega arith)
        go (suc n) h r = refl

    dedent_takes : c.indent ≤ 0 → 0 < c.dedents → Takes t start c (giving start (spanned K.dedent c.at c.at) c.above (pends c c.indent (c.dedents - 1) c.due))
    dedent_takes h k = record {
      sound = pends_sound c.indent (c.dedents - 1) c.due (omega arith) blanks;
      top = λ b h. h;
      raw = spanned K.dedent c.at c.at;
      item = λ _. item_is t start K.dedent c.at c.at c.above sd'.above;
      same = λ b. given b (spanned K.dedent c.at c.at) (dedents (c.dedents - 1) c.at) (go c.dedents k) ∙ ap (prefixed (spanned K.dedent c.at c.at ∷ [])) (sym (pends_left b c.indent (c.dedents - 1) ∙ rw e));
      less = given_less _ _;
    }
      where
        e : c.indent ≡ 0
        e = omega arith

        go : (n : ℕ) → 0 < n → opt c.indent (spanned K.indent (c.at - c.indent) c.at) ++ dedents n c.at ≡ spanned K.dedent c.at c.at ∷ dedents (n - 1) c.at
        go n h = rw e (dedents_more n c.at h)

    done_takes : c.indent ≤ 0 → c.dedents ≤ 0 → Takes t start c (ending (pends c c.indent c.dedents false))
    unfolding prefixed left dedents busy
    done_takes h k = record {
      sound = pends_sound c.indent c.dedents false (omega arith) blanks;
      top = λ b h. h;
      raw = nothing;
      item = λ x. absurd (true_is_not_false (sym x));
      same = λ b. due_left_lem b ∙ rw (none, e, d, rd.on, rd.ready.begun);
      less = λ _. rw (rd.on, rd.ready.begun, rd.due) (omega arith);
    }
      where
        e : c.indent ≡ 0
        e = omega arith

        d : c.dedents ≡ 0
        d = omega arith

    pub pending_takes : (r : Given) → r ≡ pending_given start c → Takes t start c r
    unfolding pending_given
    pending_takes r v = as_told t start c r _ v (go (dec_lt 0 c.indent) (dec_lt 0 c.dedents))
      where
        go : Dec (0 < c.indent) → Dec (0 < c.dedents) → Takes t start c (choose (ltb 0 c.indent) (λ _. giving start (spanned K.indent (c.at - c.indent) c.at) c.above (pends c 0 c.dedents c.due))
            (λ _. choose (ltb 0 c.dedents) (λ _. giving start (spanned K.dedent c.at c.at) c.above (pends c c.indent (c.dedents - 1) c.due)) (λ _. ending (pends c c.indent c.dedents false))))
        go (yes h) k = rw (lt-ltb 0 c.indent h) (indent_takes h)
        go (no h) (yes k) = rw (le-ltb 0 c.indent (omega arith), lt-ltb 0 c.dedents k) (dedent_takes (omega arith) k)
        go (no h) (no k) = rw (le-ltb 0 c.indent (omega arith), le-ltb 0 c.dedents (omega arith)) (done_takes (omega arith) (omega arith))

  -- notes are not listed
  pub plain_takes : c.full ≡ false → (r : Given) → r ≡ pending_given start c → Takes t start c r
  plain_takes h = pending_takes (rw h)

  module _ (x : Option Note) (q : NoteAt t c.note x) (on : c.full ≡ true) where
    pub none_takes : x ≡ None → (r : Given) → r ≡ pending_given start c → Takes t start c r
    none_takes z = pending_takes (rw on (subst (NoteAt t c.note) z q))

    module _ (n : Note) (z : x ≡ Some n) where
      next : NextNote t c.note n.kind n.from n.to
      next = subst (NoteAt t c.note) z q

      -- its line ends, and those before it
      pub note_part : Part t c.note n.from
      note_part = record { order = next.from; fits = omega (arith, next.some, next.to) }

      pub note_whole : Part t n.from n.to
      note_whole = record { order = omega (arith, next.some); fits = next.to }

      module _ (m : ℕ) (w : Ends t c.note n.from m) where
        note_above : c.noted + m ≡ line_at t n.from
        note_above = omega (arith, sd'.noted, w.count)

        pub note_add : c.noted + m < 2 ^ 64
        note_add = omega (arith, note_above, line_most t n.from, next.some, next.to, sd'.small)

        pub note_record : NumbersOk start n.from n.to (c.noted + m)
        note_record = omega (arith, next.some, next.to, rd.ready.fits, note_above, line_most t n.from)

        module _ (j : ℕ) (v : Ends t n.from n.to j) where
          note_below : c.noted + m + j ≡ line_at t n.to
          note_below = omega (arith, note_above, v.count)

          pub note_fits : c.noted + m + j < 2 ^ 64
          note_fits = omega (arith, note_below, line_most t n.to, next.to, sd'.small)

          -- the reader behind the note
          abbrev behind : Reader
          behind = record { at = c.at; above = c.above; nest = c.nest; depth = c.depth; top = c.top; note = n.to; noted = c.noted + m + j; indent = c.indent; dedents = c.dedents; full = c.full; line = c.line; margin = c.margin; first = c.first; due = c.due; on = c.on; code = c.code; place = c.place; detail = c.detail }

          told : notes_left t c ≡ spanned n.kind n.from n.to ∷ notes_left t behind
          told = rw on next.reads

          behind_left : (b : List Level) → left t b behind ≡ prefixed (notes_left t behind ++ opt c.indent (spanned K.indent (c.at - c.indent) c.at) ++ dedents c.dedents c.at) (items_left t b c)
          unfolding left
          behind_left b = rw (rd.on, rd.ready.begun, rd.due)

          pub note_takes : (r : Given) → r ≡ giving start (spanned n.kind n.from n.to) (c.noted + m) behind → Takes t start c r
          unfolding prefixed
          note_takes r u = as_told t start c r _ u (record {
            sound = record { inside = sd'.inside; wide = sd'.wide; open' = sd'.open'; small = sd'.small; flat = sd'.flat; aside = next.to; to = sd'.to; above = sd'.above; noted = note_below; blanks = sd'.blanks };
            top = λ b h. h;
            raw = spanned n.kind n.from n.to;
            item = λ _. item_is t start n.kind n.from n.to (c.noted + m) note_above;
            same = λ b. due_left_lem b ∙ ap (λ (l : List Spanned). prefixed (l ++ opt c.indent (spanned K.indent (c.at - c.indent) c.at) ++ dedents c.dedents c.at) (items_left t b c)) told ∙ ap (prefixed (spanned n.kind n.from n.to ∷ [])) (sym (behind_left b));
            less = given_less _ _;
          })

-- ---- an ended reader
pub over_takes : (t : List ℕ) (start : ℕ) (c : Reader) → Ready t start c → c.on ≡ false → (r : Given) → r ≡ ending c → Takes t start c r
unfolding busy
over_takes t start c rd h r v = as_told t start c r (ending c) v (record {
  sound = rd.sound;
  top = λ b k. k;
  raw = nothing;
  item = λ x. absurd (true_is_not_false (sym x));
  same = λ b. sym (prefixed_none (left t b c));
  less = λ _. rw h (omega arith);
})
