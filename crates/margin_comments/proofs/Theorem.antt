-- Document 01 "Letting a margin comment close a block": a comment line that is put in behind a Newline adds no record and takes none away; those
-- behind it are moved by its length. Up to the Newline before that place both texts are read alike; there the blanks that are counted are the
-- same but for their place, since the scan passes the comment; and from there on all that is read is.
-- Assumes nothing.
use Prim.Native.Nat.{ℕ, zero, suc, ◌+◌, ◌-◌, ◌<◌, ◌≤◌}
use Prim.Native.Char.{code}
use mathlib.Core.Path.{◌≡◌, sym, ◌∙◌, ap, ap₂, subst}
use mathlib.Core.List.{List, [], ◌∷◌, ◌++◌}
use mathlib.Core.Bool.{true, false}
use mathlib.Core.Logic.{inl, inr}
use native.Mathlib.Omega.{arith}
use native.Mathlib.Nat.{add-zero}
use borrow.Table.Elements.{map_app}
use lib.ListN.{length, get_or, drop, length-append, get_or-append}
use lib.Seq.{drop-drop, drop-append_seam, drop-append-add, take-append_seam, get_or-append-add}
use Rattle.utf8.specs.Chars.{chars}
use Rattle.window.specs.Place.{place_at}
use Rattle.window.proofs.Near.{Near, Ended, same_at, text_start_beside, near_ended}
use Rattle.window.proofs.Near.Beside.{beside}
use Rattle.token.specs.Kinds as K
use Rattle.records.specs.Records.{Spanned}
use Rattle.indentation.specs.declared.Level.{Level}
use Rattle.indentation.specs.Blanks.{blanks_from, blanks}
use Rattle.rounds.specs.Rounds.{state, Reading, ended, prefixed, raw_reading, listed_records, listed_reading, view}
use Rattle.rounds.proofs.Listed.{listed_reading_prefixed}
use Rattle.reading.proofs.Calls.{text_start_within}
use Rattle.edit_theorem.proofs.Local.{NearUpto}
use Rattle.edit_theorem.proofs.Trace.{InText, Later, later, Cut, trace_near}
use Rattle.edit_theorem.proofs.RowHolds.{first}
use Rattle.margin_comments.specs.Lines.{indented, CommentBefore, Lines}
use Rattle.margin_comments.specs.Lines.CommentLine.{hash}
use Rattle.margin_comments.specs.Lines.CommentBefore.{line, last}
use Rattle.margin_comments.specs.Moved.{moved_behind, all_moved_behind}
use Rattle.margin_comments.proofs.Margins.{needed, moved_margin, blanks_further, over_put_in, over_lines}
use Rattle.margin_comments.proofs.Rounds.{all_moved_lem, moved_reading, view_moved, view_passed}
use Rattle.margin_comments.proofs.Orders.{before_stay, behind_move, reading_behind, up_to_before}

-- what is put in does not begin with an LF
indented_no_lf : (tabs spaces : ℕ) (x y : List ℕ) → get_or (indented tabs spaces (code "#" ∷ x) ++ y) 0 0 ≡ code "\n" → ⊥
indented_no_lf zero zero x y e = omega arith
indented_no_lf zero (suc s) x y e = omega arith
indented_no_lf (suc t) s x y e = omega arith

no_lf : {bytes rest : List ℕ} → CommentBefore bytes rest → get_or (bytes ++ rest) 0 0 ≡ code "\n" → ⊥
no_lf (line rest (hash tabs spaces text {newline} h n)) = indented_no_lf tabs spaces (text ++ newline) rest
no_lf (last tabs spaces text h) = indented_no_lf tabs spaces text []

-- and where no LF stood, none stands with it put in
still_no_lf : (lines bytes rest : List ℕ) → CommentBefore bytes rest → (get_or (lines ++ rest) 0 0 ≡ code "\n" → ⊥) → get_or (lines ++ (bytes ++ rest)) 0 0 ≡ code "\n" → ⊥
still_no_lf [] bytes rest c f e = no_lf c e
still_no_lf (b ∷ l) bytes rest c f e = f e

-- a reading whose records behind a place are moved, and its end
abbrev pub reading_moved_behind : ℕ → ℕ → Reading → Reading
reading_moved_behind place n r = ended (all_moved_behind place n r.recs) r.code (n + r.place) r.detail

-- a text with blank and comment lines at a line's start, and the same with a comment line behind these
module _ (front lines bytes back : List ℕ) (ls : Lines lines) (c : CommentBefore bytes back) where
  abbrev before : List ℕ
  before = front ++ (lines ++ back)

  abbrev after : List ℕ
  after = front ++ (lines ++ (bytes ++ back))

  -- where the comment line is put in, and how long it is
  abbrev place : ℕ
  place = length front + length lines

  abbrev long : ℕ
  long = length bytes

  -- ---- the bytes
  drop_before : drop place before ≡ back
  drop_before = drop-append-add front (lines ++ back) (length lines) ∙ drop-append_seam lines back

  drop_after : drop (place + long) after ≡ back
  drop_after =
      let e : place + long ≡ length front + (length lines + long) = omega arith in
      ap (λ (i : ℕ). drop i after) e ∙ drop-append-add front (lines ++ (bytes ++ back)) (length lines + long) ∙ drop-append-add lines (bytes ++ back) long ∙ drop-append_seam bytes back

  same_behind : (i : ℕ) → place ≤ i → drop (long + i) after ≡ drop i before
  same_behind i h =
      let j = i - place in
      let e : long + i ≡ place + long + j = omega arith in
      let f : place + j ≡ i = omega arith in
      ap (λ (x : ℕ). drop x after) e ∙ sym (drop-drop j (place + long) after) ∙ ap (drop j) (drop_after ∙ sym drop_before) ∙ drop-drop j place before ∙ ap (λ (x : ℕ). drop x before) f

  longer : length after ≡ long + length before
  longer = omega (arith, length-append front (lines ++ (bytes ++ back)), length-append lines (bytes ++ back), length-append bytes back, length-append front (lines ++ back), length-append lines back)

  fits : place ≤ length before
  fits = omega (arith, length-append front (lines ++ back), length-append lines back)

  -- ---- the blanks
  blanks_place : blanks (place_at before place) ≡ blanks_from false place 0 0 (chars back)
  unfolding blanks
  blanks_place = ap (λ (l : List ℕ). blanks_from false place 0 0 (chars l)) drop_before

  blanks_before : blanks (place_at before (length front)) ≡ blanks_from false place 0 0 (chars back)
  unfolding blanks
  blanks_before = ap (λ (l : List ℕ). blanks_from false (length front) 0 0 (chars l)) (drop-append_seam front (lines ++ back)) ∙ over_lines ls (length front) back

  blanks_after : blanks (place_at after (length front)) ≡ moved_margin long (blanks (place_at before place))
  unfolding blanks
  blanks_after =
      let e : place + long ≡ long + place = omega arith in
      ap (λ (l : List ℕ). blanks_from false (length front) 0 0 (chars l)) (drop-append_seam front (lines ++ (bytes ++ back))) ∙ over_lines ls (length front) (bytes ++ back) ∙ over_put_in c place
      ∙ ap (λ (i : ℕ). blanks_from false i 0 0 (chars back)) e ∙ blanks_further long (record { at = place; rest = chars back }) ∙ ap (moved_margin long) (sym blanks_place)

  -- ---- from the line's start on
  module _ (held : List Level) where
    passed : view false before (state place true 0 held) ≡ view false before (state (length front) true 0 held)
    passed = view_passed before (length front) place held (omega (arith, fits)) fits (ap needed (blanks_place ∙ sym blanks_before))

    moved : view false after (state (length front) true 0 held) ≡ moved_reading long (view false before (state place true 0 held))
    moved = view_moved long before after place same_behind longer place (length front) held fits (omega (arith, longer, fits)) (omega arith) (ap needed blanks_after)

    starts_behind : all_moved_behind place long (view false before (state place true 0 held)).recs ≡ all_moved_lem long (view false before (state place true 0 held)).recs
    starts_behind = behind_move place long (view false before (state place true 0 held)).recs (reading_behind before (state place true 0 held) fits)

  -- ---- behind a Newline that ends there
  module _ (pre post : List Spanned) (N : Spanned) (shape : (raw_reading before (first before)).recs ≡ pre ++ N ∷ post) (k : N.kind ≡ K.newline) (some : N.start < N.end) (here : N.end ≡ length front) where
    within : InText before N
    within x y = omega arith

    told : Later before (first before) N
    told = later before (first before) (text_start_within before) pre post N shape k within

    ended_before : Ended before (length front)
    ended_before = subst (Ended before) here told.ended

    last_byte : get_or after (length front - 1) 0 ≡ get_or before (length front - 1) 0
    last_byte =
        let h : length front - 1 < length front = omega (arith, told.above) in
        get_or-append front (lines ++ (bytes ++ back)) 0 (length front - 1) h ∙ sym (get_or-append front (lines ++ back) 0 (length front - 1) h)

    next_byte : (x : List ℕ) → get_or (front ++ x) (length front) 0 ≡ get_or x 0 0
    next_byte x = ap (λ (i : ℕ). get_or (front ++ x) i 0) (sym (add-zero (length front))) ∙ get_or-append-add front x 0 0

    ended_after : Ended before (length front) → Ended after (length front)
    ended_after (inl e) = inl (last_byte ∙ e)
    ended_after (inr e) =
        inr (last_byte ∙ e.0, λ z. still_no_lf lines bytes back c (λ y. e.1 (next_byte (lines ++ back) ∙ y)) (sym (next_byte (lines ++ (bytes ++ back))) ∙ z))

    near : NearUpto before after N.end
    near at h =
        subst (λ (e : ℕ). Near e at (chars (drop at before)) (chars (drop at after))) (sym here)
        (near_ended before after (length front) (take-append_seam front (lines ++ back) ∙ sym (take-append_seam front (lines ++ (bytes ++ back)))) at (omega arith) ended_before (ended_after ended_before))

    cut : Cut before after (first before) pre N
    cut = trace_near before after N k within (omega (arith, longer, fits)) near (first before) (text_start_within before) (omega arith) pre post shape

    start : first after ≡ first before
    start = ap (λ (i : ℕ). state i true 0 []) (same_at (text_start_beside before after (beside (near 0 (omega (arith, told.above))))))

    -- the records up to the Newline, and the reading behind it
    abbrev F : List Spanned
    F = listed_records false (pre ++ N ∷ [])

    abbrev R : Reading
    R = view false before (state place true 0 cut.held)

    view_before : view false before (first before) ≡ prefixed F R
    unfolding view
    view_before =
        ap (listed_reading false) cut.first ∙ listed_reading_prefixed false (pre ++ N ∷ []) _ ∙ ap (λ (i : ℕ). prefixed F (view false before (state i true 0 cut.held))) here
        ∙ ap (prefixed F) (sym (passed cut.held))

    view_after : view false after (first after) ≡ prefixed F (moved_reading long R)
    unfolding view
    view_after =
        ap (view false after) start ∙ ap (listed_reading false) cut.reads ∙ listed_reading_prefixed false (pre ++ N ∷ []) _
        ∙ ap (λ (i : ℕ). prefixed F (view false after (state i true 0 cut.held))) here ∙ ap (prefixed F) (moved cut.held)

    front_stays : all_moved_behind place long F ≡ F
    front_stays = before_stay place long F (up_to_before before (first before) (text_start_within before) place pre post N shape (omega arith))

    joined : prefixed F (moved_reading long R) ≡ reading_moved_behind place long (prefixed F R)
    unfolding prefixed
    joined =
        ap (λ (l : List Spanned). ended l R.code (long + R.place) R.detail)
        (ap₂ (λ (x y : List Spanned). x ++ y) (sym front_stays) (sym (starts_behind cut.held)) ∙ sym (map_app (moved_behind place long) F R.recs))

    -- THE THEOREM: the reading of the longer text is that of the shorter one, with the records behind the place moved by the comment line's length
    pub comment_moves : view false after (first after) ≡ reading_moved_behind place long (view false before (first before))
    comment_moves = view_after ∙ joined ∙ ap (reading_moved_behind place long) (sym view_before)
