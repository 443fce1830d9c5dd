-- A reading is neat. A soft keyword of a line's start stands outside brackets, and so does what is right behind it: a newline there ends the
-- line and is no note, and a comment there runs up to the line's end. By rounds: where a line starts no bracket is open, a note
-- changes neither, and behind any other token no line starts.
-- Assumes nothing.
use Prim.Native.Nat.{ℕ, zero, suc, ◌-◌, ◌<◌, ◌≤◌}
use mathlib.Core.Path.{◌≡◌, refl, sym, ◌∙◌, subst}
use mathlib.Core.List.{List, [], ◌∷◌, ◌++◌, append_assoc}
use mathlib.Core.Bool.{Bool, true, false}
use mathlib.Core.Logic.{⊎_elim}
use native.Mathlib.Omega.{arith}
use borrow.Author.Tests.{lt-leb}
use lib.Dec.{leb}
use lib.ListN.{length}
use Rattle.choice.specs.Choice.{choose}
use Rattle.choice.proofs.Laws.{choose_keeps, true_is_not_false}
use Rattle.window.specs.Place.{place_at}
use Rattle.token.specs.Kinds as K
use Rattle.indentation.specs.declared.Level.{Level}
use Rattle.std.specs.Prelude.{Result, Ok, Err}
use Rattle.token.specs.declared.Ending.{Ending}
use Rattle.indentation.specs.declared.LevelChange.{LevelChange}
use Rattle.indentation.specs.declared.LevelChange.TheVariants as S
use Rattle.indentation.specs.Notes.{notes}
use Rattle.indentation.proofs.NoteLaws.{Upto, notes_upto}
use Rattle.lexer.specs.declared.Step.{Step}
use Rattle.lexer.specs.declared.Step.TheVariants as T
use Rattle.lexer.specs.Steps.{is_note, is_listed, step_at}
use Rattle.lexer.proofs.Goes.{Goes, step_goes}
use Rattle.rounds.specs.Rounds.{State, state, Outcome, dedents, with_item, at_level, line_start, round, Reading, prefixed, follow, raw_reading, listed_records}
use Rattle.records.specs.Records.{Spanned, spanned}
use Rattle.rounds.proofs.Margins.{by_blanks}
use Rattle.rounds.proofs.Fuel.{reading_round}
use Rattle.soft_keywords.specs.Promises.{first_kind}
use Rattle.soft_keywords.specs.SoftKeywords.{line_start_after}
use Rattle.comments.proofs.Steps.{Closes, StepNoteLast, step_note_last}
use Rattle.comments.proofs.Agree.{Quiet, Fine, Neat}

module _ (t : List ℕ) where
  -- within a line a reading goes on with its next step
  rest_round : (at nest : ℕ) (ls : List Level) → at ≤ length t → raw_reading t (state at false nest ls) ≡ follow (with_item [] false at nest ls (step_at t at nest)) (raw_reading t)
  unfolding round
  rest_round at nest ls h = reading_round t (state at false nest ls) h

  -- ---- behind a soft keyword of a line's start
  -- where a step ends the line or the text, a Newline comes next
  closes_first : (at : ℕ) (ls : List Level) → at ≤ length t → Closes (step_at t at 0) → first_kind (listed_records false (raw_reading t (state at false 0 ls)).recs) ≡ 0
  unfolding with_item follow prefixed listed_records is_listed is_note first_kind
  closes_first at ls h c = subst (λ (r : Reading). first_kind (listed_records false r.recs) ≡ 0) (sym (rest_round at 0 ls h)) (go (step_at t at 0) c)
    where
      go : (i : Step) → Closes i → first_kind (listed_records false (follow (with_item [] false at 0 ls i) (raw_reading t)).recs) ≡ 0
      go (T.Gap e) z = absurd z
      go (T.Tok k e n) z = absurd z
      go (T.Newline e) z = refl
      go (T.Error w p) z = absurd z
      go T.End z = refl

  -- a note outside brackets is a comment, and the line ends behind it
  quiet_on : (n at : ℕ) (ls : List Level) → at ≤ length t → length t - at < n → Quiet (raw_reading t (state at false 0 ls)).recs
  unfolding with_item follow prefixed is_note
  quiet_on zero at ls h l = absurd (omega arith)
  quiet_on (suc n) at ls h l =
      subst (λ (r : Reading). Quiet r.recs) (sym (rest_round at 0 ls h)) (go (step_at t at 0) (step_goes t at 0 h) (step_note_last t at 0 h) (λ e. quiet_on n e ls))
    where
      go : (i : Step) → Goes at (length t) 0 i → StepNoteLast t 0 i → ((e : ℕ) → e ≤ length t → length t - e < n → Quiet (raw_reading t (state e false 0 ls)).recs)
          → Quiet (follow (with_item [] false at 0 ls i) (raw_reading t)).recs
      go (T.Gap e) g f ih = ih e g.1 (omega arith)
      go (T.Tok k e m) g f ih = λ z. subst (λ (b : ℕ). first_kind (listed_records false (raw_reading t (state e false b ls)).recs) ≡ 0) (sym (g.5 z)) (closes_first e ls g.1 (f.1 refl z))
      go (T.Newline e) g f ih = λ z. absurd (true_is_not_false (sym z))
      go (T.Error w p) g f ih = tt
      go T.End g f ih = λ z. absurd (true_is_not_false (sym z))

  quiet : (at : ℕ) (ls : List Level) → at ≤ length t → Quiet (raw_reading t (state at false 0 ls)).recs
  quiet at ls h = quiet_on (suc (length t)) at ls h (omega arith)

-- ---- what may be pending
-- no soft keywords, and only outside brackets
abbrev Low : ℕ → List Spanned → Type 0
Low nest [] = Unit {0}
Low nest (r ∷ rs) = (nest ≡ 0) × (r.kind < K.first_soft) × Low nest rs

low_append : (nest : ℕ) (xs ys : List Spanned) → Low nest xs → Low nest ys → Low nest (xs ++ ys)
low_append nest [] ys p q = q
low_append nest (x ∷ xs) ys p q = (p.0, p.1, low_append nest xs ys p.2 q)

low_dedents : (nest n p : ℕ) → nest ≡ 0 → Low nest (dedents n p)
unfolding dedents
low_dedents nest zero p z = tt
low_dedents nest (suc n) p z = (z, omega arith, low_dedents nest n p z)

low_notes : (nest q : ℕ) (ns : List Spanned) → nest ≡ 0 → Upto q ns → Low nest ns
low_notes nest q [] z u = tt
low_notes nest q (r ∷ rs) z u = (z, ⊎_elim (λ e. omega arith) (λ e. omega arith) u.0, low_notes nest q rs z u.3)

-- such a record is fine before any
low_fine : (line : Bool) (r : Spanned) (rs : List Spanned) → r.kind < K.first_soft → Fine line r rs
low_fine line r rs h = record { known = omega arith; quiet = λ _ k. absurd (omega arith) }

-- behind them a list is neat if it is neat by itself, whether a line starts there or not
low_neat : (nest : ℕ) (line : Bool) (xs ys : List Spanned) → Low nest xs → (line ≡ true → nest ≡ 0) → ((b : Bool) → (b ≡ true → nest ≡ 0) → Neat b ys) → Neat line (xs ++ ys)
low_neat nest line [] ys p z f = f line z
low_neat nest line (x ∷ xs) ys p z f =
    (low_fine line x (xs ++ ys) p.1, low_neat nest (line_start_after line x.kind) xs ys p.2 (λ _. p.0) f)

low_all : (nest : ℕ) (line : Bool) (xs : List Spanned) → Low nest xs → Neat line xs
low_all nest line [] p = tt
low_all nest line (x ∷ xs) p = (low_fine line x xs p.1, low_all nest (line_start_after line x.kind) xs p.2)

-- ---- rounds
-- where a line starts, for the round or for the pass, no bracket is open
pub record Outside (line : Bool) (s : State) : Type 0 where
  pub at_line_start : s.at_line_start ≡ true → s.nest ≡ 0
  pub flag : line ≡ true → s.nest ≡ 0

within_line : (line : Bool) (at nest : ℕ) (ls : List Level) → (line ≡ true → nest ≡ 0) → Outside line (state at false nest ls)
within_line line at nest ls z = record { at_line_start = λ x. absurd (true_is_not_false (sym x)); flag = z }

-- so it stays after a token
line_stays : (line : Bool) (k nest n : ℕ) → 2 < k → (is_note k ≡ true → n ≡ nest) → (line ≡ true → nest ≡ 0) → line_start_after line k ≡ true → n ≡ 0
unfolding line_start_after
line_stays line k nest n h same z = go (is_note k) same
  where
    go : (b : Bool) → (b ≡ true → n ≡ nest) → choose b (λ _. line) (λ _. leb k 2) ≡ true → n ≡ 0
    go true same e = same refl ∙ z e
    go false same e = absurd (true_is_not_false (sym e ∙ lt-leb k 2 h))

module _ (t : List ℕ) where
  -- readings that begin further on are neat
  abbrev NeatOn : ℕ → Type 0
  NeatOn n = (line : Bool) (s : State) → s.at ≤ length t → length t - s.at < n → Outside line s → Neat line (raw_reading t s).recs

  module _ (n : ℕ) (ih : NeatOn n) (line : Bool) where
    -- a token is fine before what follows it
    tok_fine : (b : Bool) (at nest k e m : ℕ) (ls : List Level) → Goes at (length t) nest (T.Tok k e m) → StepNoteLast t nest (T.Tok k e m) → (b ≡ true → nest ≡ 0)
        → Fine b (spanned k at e) (raw_reading t (state e false m ls)).recs
    tok_fine b at nest k e m ls g f z =
        record {
          known = f.0;
          quiet = λ u v. subst (λ (x : ℕ). Quiet (raw_reading t (state e false x ls)).recs) (sym (g.4 v ∙ z u)) (quiet t e ls g.1);
        }

    -- a step after what is pending
    with_item_neat : (pend : List Spanned) (fresh : Bool) (at nest : ℕ) (ls : List Level) (i : Step) → length t - at < suc n → Low nest pend → (line ≡ true → nest ≡ 0)
        → Goes at (length t) nest i → StepNoteLast t nest i → Neat line (follow (with_item pend fresh at nest ls i) (raw_reading t)).recs
    unfolding with_item follow prefixed
    with_item_neat pend fresh at nest ls (T.Gap e) h p z g f =
        low_neat nest line pend _ p z (λ b y. ih b (state e false nest ls) g.1 (omega arith) (within_line b e nest ls y))
    with_item_neat pend fresh at nest ls (T.Tok k e m) h p z g f =
        rw append_assoc
        (low_neat nest line pend (spanned k at e ∷ (raw_reading t (state e false m ls)).recs) p z
        (λ b y. (tok_fine b at nest k e m ls g f y, ih (line_start_after b k) (state e false m ls) g.1 (omega arith) (within_line (line_start_after b k) e m ls (line_stays b k nest m g.3 g.5 y)))))
    with_item_neat pend fresh at nest ls (T.Newline e) h p z g f =
        rw append_assoc
        (low_neat nest line pend (spanned K.newline at e ∷ (raw_reading t (state e true nest ls)).recs) p z
        (λ b y. (low_fine b _ _ (omega arith), ih (line_start_after b 0) (state e true nest ls) g.1 (omega arith) (record { at_line_start = λ _. g.2; flag = λ _. g.2 }))))
    with_item_neat pend fresh at nest ls (T.Error w q) h p z g f = tt
    with_item_neat pend fresh at nest ls T.End h p z g f =
        let X = choose fresh (λ _. []) (λ _. spanned K.newline at at ∷ []) in
        let x : Low nest X = choose_keeps (Low nest) fresh (λ _. tt) (λ _. (g.1, omega arith, tt)) in
        low_all nest line ((pend ++ X) ++ dedents (length ls) at) (low_append nest (pend ++ X) _ (low_append nest pend X p x) (low_dedents nest (length ls) at g.1))

    -- a line's start, its blanks compared
    at_level_neat : (pre : List Spanned) (at tabs spaces nest : ℕ) (ls : List Level) (z : Result LevelChange Ending) → at ≤ length t → length t - at < suc n → nest ≡ 0 → Low nest pre
        → Neat line (follow (at_level t pre at tabs spaces nest ls z) (raw_reading t)).recs
    unfolding at_level follow
    at_level_neat pre at x y nest ls (Ok S.Same) h l z p = with_item_neat pre true at nest ls _ l p (λ _. z) (step_goes t at nest h) (step_note_last t at nest h)
    at_level_neat pre at x y nest ls (Ok S.Indent) h l z p =
        with_item_neat _ true at nest _ _ l (low_append nest pre _ p (z, omega arith, tt)) (λ _. z) (step_goes t at nest h) (step_note_last t at nest h)
    at_level_neat pre at x y nest ls (Ok (S.DedentTo d)) h l z p =
        with_item_neat _ true at nest _ _ l (low_append nest pre _ p (low_dedents nest _ at z)) (λ _. z) (step_goes t at nest h) (step_note_last t at nest h)
    at_level_neat pre at x y nest ls (Err w) h l z p = tt

    round_neat : (s : State) → s.at ≤ length t → length t - s.at < suc n → Outside line s → Neat line (follow (round t s) (raw_reading t)).recs
    unfolding round line_start follow
    round_neat s h l o =
        let P : Outcome → Type 0 = λ x. Neat line (follow x (raw_reading t)).recs in
        let p = place_at t s.at in
        choose_keeps P s.at_line_start
        (λ f. by_blanks (λ r. P (line_start t (notes p) r s.nest s.levels)) t s.at h (λ m b w. tt)
        (λ m b w. at_level_neat (notes p) m.at m.blanks.tabs m.blanks.spaces s.nest s.levels _ w.to (omega arith) (o.at_line_start f) (low_notes s.nest m.at (notes p) (o.at_line_start f) (notes_upto p m b))))
        (λ _. with_item_neat [] false s.at s.nest s.levels _ l tt o.flag (step_goes t s.at s.nest h) (step_note_last t s.at s.nest h))

  -- round by round
  neat_on : (n : ℕ) → NeatOn n
  neat_on zero line s h l o = absurd (omega arith)
  neat_on (suc n) line s h l o = subst (λ (r : Reading). Neat line r.recs) (sym (reading_round t s h)) (round_neat n (neat_on n) line s h l o)

  -- THE LAW: a reading is neat
  pub neat : (line : Bool) (s : State) → s.at ≤ length t → Outside line s → Neat line (raw_reading t s).recs
  neat line s h o = neat_on (suc (length t)) line s h (omega arith) o
