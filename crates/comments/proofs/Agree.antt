-- The second pass over records with their notes and without. The search of match and case counts brackets and lambdas only, so that notes
-- change nothing but which token is the first: that matters where a note stands right behind the keyword, and there the line ends
-- (Neat). The search of type stops at a note where the count is zero or below, which the premise (clear) excludes.
-- Assumes nothing.
use Prim.Native.Nat.{ℕ, ◌<◌, ◌≤◌}
use mathlib.Core.Path.{◌≡◌, refl, sym, ◌∙◌, ap}
use mathlib.Core.List.{List, [], ◌∷◌}
use mathlib.Core.Bool.{Bool, true, false}
use mathlib.Core.Logic.{inl, inr, ⊎_elim}
use native.Mathlib.Omega.{arith}
use borrow.Author.Tests.{ltb-false, lt-ltb, le-leb}
use lib.Dec.{eqb, ltb, leb}
use lib.IntN.{ℤ, pos}
use lib.Signed.{lt_z}
use Rattle.choice.specs.Choice.{choose, both}
use Rattle.choice.proofs.Laws.{choose_three, choose_keeps, choose_both, true_is_not_false, both_left, both_right}
use Rattle.lexer.specs.Steps.{is_note, nest_after}
use Rattle.rounds.specs.Rounds.{listed_records}
use Rattle.records.specs.Records.{Spanned, spanned}
use Rattle.soft_keywords.specs.Promises.{first_kind}
use Rattle.soft_keywords.specs.SoftKeywords.{lambda_after, match_from, keeps_match, stands_for_name, square_count_after, keyword_equals, passes, type_from, keeps_type, stays_keyword, soft_kind, line_start_after, soften}
use Rattle.soft_keywords.proofs.Second.{soft_low}
use Rattle.rounds.proofs.Listed.{note_kinds}
use Rattle.comments.specs.Clear.{clear_from, clear_type, clear}
use Rattle.comments.specs.Alike.{TypeOrName, Alike, AllAlike, none, one}
use Rattle.comments.proofs.Notes.{line_stays, unseen, kept, listed_nil, match_past, type_past, keeps_none, match_over, keeps_over}
use Rattle.token.specs.Kinds as K

-- where the first record is a note, no token follows in its line
abbrev pub Quiet : List Spanned → Type 0
Quiet [] = Unit {0}
Quiet (r ∷ rs) = is_note r.kind ≡ true → first_kind (listed_records false rs) ≡ 0

-- what a record of a reading is before those that follow it: no kind lies above the last soft keyword's; and behind a soft keyword of a
-- line's start it is quiet
pub record Fine (line : Bool) (r : Spanned) (rs : List Spanned) : Type 0 where
  pub known : r.kind ≤ K.type
  pub quiet : line ≡ true → K.first_soft ≤ r.kind → Quiet rs

-- each record is: so every reading (proofs/Neat)
abbrev pub Neat : Bool → List Spanned → Type 0
Neat line [] = Unit {0}
Neat line (r ∷ rs) = Fine line r rs × Neat (line_start_after line r.kind) rs

-- ---- the search of match and case
-- a record is taken alike before two lists that are searched alike
match_on : (n : ℕ) (first lambda : Bool) (r : Spanned) (xs ys : List Spanned)
    → match_from (nest_after n r.kind) false (lambda_after n lambda r.kind) xs ≡ match_from (nest_after n r.kind) false (lambda_after n lambda r.kind) ys
    → match_from n first lambda (r ∷ xs) ≡ match_from n first lambda (r ∷ ys)
unfolding match_from
match_on n first lambda r xs ys e = rw e

-- behind its first token the search finds what it finds without the notes
match_same : (n : ℕ) (lambda : Bool) (rs : List Spanned) → match_from n false lambda rs ≡ match_from n false lambda (listed_records false rs)
match_same n lambda [] = ap (match_from n false lambda) (sym listed_nil)
match_same n lambda (r ∷ rs) = go (is_note r.kind) refl (λ m l. match_same m l rs)
  where
    go : (b : Bool) → is_note r.kind ≡ b → ((m : ℕ) (l : Bool) → match_from m false l rs ≡ match_from m false l (listed_records false rs))
        → match_from n false lambda (r ∷ rs) ≡ match_from n false lambda (listed_records false (r ∷ rs))
    go true h ih = match_past r rs h n false lambda ∙ ih n lambda ∙ ap (match_from n false lambda) (sym (unseen r rs h))
    go false h ih =
        match_on n false lambda r rs (listed_records false rs) (ih (nest_after n r.kind) (lambda_after n lambda r.kind))
        ∙ ap (match_from n false lambda) (sym (kept r rs h))

-- and from there on, where it is quiet
keeps_match_same : (rs : List Spanned) → Quiet rs → keeps_match rs ≡ keeps_match (listed_records false rs)
unfolding keeps_match
keeps_match_same [] q = ap (match_from 0 true false) (sym listed_nil)
keeps_match_same (r ∷ rs) q = go (is_note r.kind) refl
  where
    go : (b : Bool) → is_note r.kind ≡ b → match_from 0 true false (r ∷ rs) ≡ match_from 0 true false (listed_records false (r ∷ rs))
    go true h =
        match_past r rs h 0 true false ∙ match_same 0 false rs ∙ match_over 0 false false (listed_records false rs) (q h)
        ∙ sym (ap (match_from 0 true false) (unseen r rs h) ∙ match_over 0 true false (listed_records false rs) (q h))
    go false h =
        match_on 0 true false r rs (listed_records false rs) (match_same (nest_after 0 r.kind) (lambda_after 0 false r.kind) rs)
        ∙ ap (match_from 0 true false) (sym (kept r rs h))

-- ---- the search of type
module _ (z : ℤ) (r : Spanned) (rs : List Spanned) where
  -- a clear search meets a note above zero only, and is clear behind it
  clear_note : is_note r.kind ≡ true → clear_from z (r ∷ rs) ≡ true → (lt_z (pos 0) z ≡ true) × (clear_from z rs ≡ true)
  unfolding clear_from
  clear_note h = rw h (go (lt_z (pos 0) z))
    where
      go : (b : Bool) → choose b (λ _. clear_from z rs) (λ _. false) ≡ true → (b ≡ true) × (clear_from z rs ≡ true)
      go true e = (refl, e)
      go false e = absurd (true_is_not_false (sym e))

  -- it takes any other record alike before two lists that it searches alike
  type_on : is_note r.kind ≡ false → (ys : List Spanned)
      → (clear_from (square_count_after z r.kind) rs ≡ true → type_from (square_count_after z r.kind) rs ≡ type_from (square_count_after z r.kind) ys)
      → clear_from z (r ∷ rs) ≡ true → type_from z (r ∷ rs) ≡ type_from z (r ∷ ys)
  unfolding clear_from type_from
  type_on h ys ih =
      let R : Bool → Bool → Bool → Type 0 = λ c x y. c ≡ true → x ≡ y in
      rw h
      (choose_three R (eqb r.kind K.newline) (λ _ _. refl)
      (λ _. choose_three R (keyword_equals z r.kind) (λ _ _. refl) (λ _. choose_three R (passes z r.kind) (λ _. ih) (λ _ _. refl))))

-- a clear search finds what it finds without the notes
type_same : (z : ℤ) (rs : List Spanned) → clear_from z rs ≡ true → type_from z rs ≡ type_from z (listed_records false rs)
type_same z [] c = ap (type_from z) (sym listed_nil)
type_same z (r ∷ rs) c = go (is_note r.kind) refl (λ y. type_same y rs)
  where
    go : (b : Bool) → is_note r.kind ≡ b → ((y : ℤ) → clear_from y rs ≡ true → type_from y rs ≡ type_from y (listed_records false rs))
        → type_from z (r ∷ rs) ≡ type_from z (listed_records false (r ∷ rs))
    go true h ih =
        let d = clear_note z r rs h c in
        type_past r rs h z d.0 ∙ ih z d.1 ∙ ap (type_from z) (sym (unseen r rs h))
    go false h ih = type_on z r rs h (listed_records false rs) (ih (square_count_after z r.kind)) c ∙ ap (type_from z) (sym (kept r rs h))

-- and so from the Name behind `type`
keeps_on : (r : Spanned) (rs : List Spanned) → clear_type (r ∷ rs) ≡ true → keeps_type (r ∷ rs) ≡ keeps_type (r ∷ listed_records false rs)
unfolding clear_type keeps_type
keeps_on r rs = choose_three (λ (c x y : Bool). c ≡ true → x ≡ y) (stands_for_name r.kind) (λ _. type_same (pos 0) rs) (λ _ _. refl)

-- and from `type` on, where it is quiet
keeps_type_same : (rs : List Spanned) → Quiet rs → clear_type rs ≡ true → keeps_type rs ≡ keeps_type (listed_records false rs)
keeps_type_same [] q c = ap keeps_type (sym listed_nil)
keeps_type_same (r ∷ rs) q c = go (is_note r.kind) refl
  where
    go : (b : Bool) → is_note r.kind ≡ b → keeps_type (r ∷ rs) ≡ keeps_type (listed_records false (r ∷ rs))
    go true h = keeps_none r rs h ∙ sym (ap keeps_type (unseen r rs h) ∙ keeps_over (listed_records false rs) (q h))
    go false h = keeps_on r rs c ∙ ap keeps_type (sym (kept r rs h))

-- ---- a kind after the pass
-- it hangs on the records that follow for a soft keyword of a line's start only
soft_same : (line : Bool) (k : ℕ) (xs ys : List Spanned) → (line ≡ true → K.first_soft ≤ k → stays_keyword k xs ≡ stays_keyword k ys) → soft_kind line k xs ≡ soft_kind line k ys
unfolding soft_kind
soft_same false k xs ys f = refl
soft_same true k xs ys f =
    choose_both (λ (x y : ℕ). x ≡ y) (ltb k K.first_soft) (λ _. refl)
    (λ e. let h = ltb-false k K.first_soft e in ap (λ (b : Bool). choose b (λ _. k) (λ _. K.name)) (f refl (omega arith)))

module _ (line : Bool) (k : ℕ) (rs : List Spanned) (q : line ≡ true → K.first_soft ≤ k → Quiet rs) where
  -- match, case and what is no soft keyword
  soft_match : k < K.type → soft_kind line k rs ≡ soft_kind line k (listed_records false rs)
  unfolding stays_keyword
  soft_match h = soft_same line k rs (listed_records false rs) (λ l m. rw (lt-ltb k K.type h) (keeps_match_same rs (q l m)))

  -- and `type`, on the premise
  soft_clear : choose (both line (leb K.type k)) (λ _. clear_type rs) (λ _. true) ≡ true → soft_kind line k rs ≡ soft_kind line k (listed_records false rs)
  unfolding stays_keyword
  soft_clear c =
      soft_same line k rs (listed_records false rs)
      (λ l m. choose_both (λ (x y : Bool). x ≡ y) (ltb k K.type) (λ _. keeps_match_same rs (q l m))
      (λ f. keeps_type_same rs (q l m) (rw (l, le-leb K.type k (ltb-false k K.type f)) at c)))

module _ (line : Bool) (k : ℕ) (rs : List Spanned) where
  -- a note stays a note
  soft_note : is_note k ≡ true → is_note (soft_kind line k rs) ≡ true
  soft_note h = rw (soft_low line k rs (⊎_elim (λ e. omega arith) (λ e. omega arith) (note_kinds k h))) h

  -- and no other kind becomes one
  soft_other : is_note k ≡ false → is_note (soft_kind line k rs) ≡ false
  unfolding soft_kind is_note
  soft_other h =
      let P : ℕ → Type 0 = λ m. is_note m ≡ false in
      choose_keeps P (ltb k K.first_soft) (λ _. h) (λ _. choose_keeps P line (λ _. choose_keeps P (stays_keyword k rs) (λ _. h) (λ _. refl)) (λ _. refl))

-- ---- the pass
-- over no records
soften_nil : (line : Bool) → soften line [] ≡ []
unfolding soften
soften_nil line = refl

nil_same : (line : Bool) → listed_records false (soften line []) ≡ soften line (listed_records false [])
nil_same line = ap (listed_records false) (soften_nil line) ∙ listed_nil ∙ sym (ap (soften line) listed_nil ∙ soften_nil line)

module _ (line : Bool) (r : Spanned) (rs : List Spanned) where
  -- the record as the pass leaves it before these, and whether a line starts behind it
  abbrev left : List Spanned → Spanned
  left l = spanned (soft_kind line r.kind l) r.start r.end

  abbrev next : Bool
  next = line_start_after line r.kind

  -- over one and what follows
  soften_cons : (l : List Spanned) → soften line (r ∷ l) ≡ left l ∷ soften next l
  unfolding soften
  soften_cons l = refl

  module _ (h : is_note r.kind ≡ true) where
    -- a note is dropped after the pass, or before it
    note_after : listed_records false (soften line (r ∷ rs)) ≡ listed_records false (soften next rs)
    note_after = ap (listed_records false) (soften_cons rs) ∙ unseen (left rs) (soften next rs) (soft_note line r.kind rs h)

    note_before : soften line (listed_records false (r ∷ rs)) ≡ soften next (listed_records false rs)
    note_before = ap (soften line) (unseen r rs h) ∙ ap (λ (b : Bool). soften b (listed_records false rs)) (sym (line_stays r.kind h line))

  module _ (h : is_note r.kind ≡ false) where
    -- another record is kept
    other_after : listed_records false (soften line (r ∷ rs)) ≡ left rs ∷ listed_records false (soften next rs)
    other_after = ap (listed_records false) (soften_cons rs) ∙ kept (left rs) (soften next rs) (soft_other line r.kind rs h)

    other_before : soften line (listed_records false (r ∷ rs)) ≡ left (listed_records false rs) ∷ soften next (listed_records false rs)
    other_before = ap (soften line) (kept r rs h) ∙ soften_cons (listed_records false rs)

  -- the premise of a list is that of its first record and of the rest
  clear_first : clear line (r ∷ rs) ≡ true → choose (both line (leb K.type r.kind)) (λ _. clear_type rs) (λ _. true) ≡ true
  unfolding clear
  clear_first c = both_left _ (clear next rs) c

  clear_rest : clear line (r ∷ rs) ≡ true → clear next rs ≡ true
  unfolding clear
  clear_rest c = both_right (choose (both line (leb K.type r.kind)) (λ _. clear_type rs) (λ _. true)) _ c

-- THE LAW of lists: what the pass leaves of the full list is, without its notes, what it leaves of the plain list
pub other_kinds : (line : Bool) (rs : List Spanned) → Neat line rs → clear line rs ≡ true → listed_records false (soften line rs) ≡ soften line (listed_records false rs)
other_kinds line [] n c = nil_same line
other_kinds line (r ∷ rs) n c = go (is_note r.kind) refl (other_kinds (line_start_after line r.kind) rs n.1 (clear_rest line r rs c))
  where
    go : (b : Bool) → is_note r.kind ≡ b → listed_records false (soften (line_start_after line r.kind) rs) ≡ soften (line_start_after line r.kind) (listed_records false rs)
        → listed_records false (soften line (r ∷ rs)) ≡ soften line (listed_records false (r ∷ rs))
    go true h ih = note_after line r rs h ∙ ih ∙ sym (note_before line r rs h)
    go false h ih =
        let s = soft_clear line r.kind rs n.0.quiet (clear_first line r rs c) in
        other_after line r rs h ∙ cc (ih, s) ∙ sym (other_before line r rs h)

-- ---- without the premise
-- `type` stays a keyword or becomes a Name
soft_type : (line : Bool) (rs : List Spanned) → TypeOrName (soft_kind line K.type rs)
unfolding soft_kind
soft_type line rs =
    choose_keeps TypeOrName line (λ _. choose_keeps TypeOrName (stays_keyword K.type rs) (λ _. inl refl) (λ _. inr refl)) (λ _. inr refl)

-- THE LAW of lists without the premise: the two have the same records, but for the kinds of `type`
pub all_alike : (line : Bool) (rs : List Spanned) → Neat line rs → AllAlike (listed_records false rs) (listed_records false (soften line rs)) (soften line (listed_records false rs))
all_alike line [] n = rw (← nil_same line, soften_nil line, listed_nil) none
all_alike line (r ∷ rs) n = go (is_note r.kind) refl (all_alike (line_start_after line r.kind) rs n.1)
  where
    alike : Alike r (left line r rs rs) (left line r rs (listed_records false rs))
    alike =
        record {
          starts = (refl, refl);
          ends = (refl, refl);
          others = λ z. soft_match line r.kind rs n.0.quiet (omega (arith, n.0.known, z));
          types = λ e. rw e (soft_type line rs, soft_type line (listed_records false rs));
        }

    go : (b : Bool) → is_note r.kind ≡ b → AllAlike (listed_records false rs) (listed_records false (soften (line_start_after line r.kind) rs)) (soften (line_start_after line r.kind) (listed_records false rs))
        → AllAlike (listed_records false (r ∷ rs)) (listed_records false (soften line (r ∷ rs))) (soften line (listed_records false (r ∷ rs)))
    go true h ih = rw (note_before line r rs h, note_after line r rs h, unseen r rs h) ih
    go false h ih = rw (other_before line r rs h, other_after line r rs h, kept r rs h) (one alike ih)
