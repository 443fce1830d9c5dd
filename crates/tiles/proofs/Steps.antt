-- What a step within a line passes: a gap is over blanks, a token of kind 7 is a comment, one of kind 8 a newline.
-- Assumes nothing.
use Prim.Native.Nat.{ℕ, ◌+◌, ◌<◌, ◌≤◌}
use Prim.Native.Char.{code}
use mathlib.Core.Path.{◌≡◌, refl, ◌∙◌, ap, subst}
use mathlib.Core.List.{List, [], ◌∷◌}
use mathlib.Core.Bool.{Bool, true}
use native.Mathlib.Omega.{arith}
use borrow.Author.Tests.{eqb-true}
use lib.Dec.{eqb}
use lib.ListN.{length, get_or}
use Rattle.token.specs.Kinds as K
use Rattle.choice.proofs.Laws.{choose_keeps}
use Rattle.utf8.specs.Chars.{width}
use Rattle.utf8.proofs.Laws.{width_ascii}
use Rattle.window.specs.Place.{Place, place_at, nth, slid, next_char}
use Rattle.window.proofs.Laws.{low_on, nth_slid, byte_of}
use Rattle.window.proofs.Within.{Within, within_at, within_on}
use Rattle.classes.specs.Classes.{is_emoji}
use Rattle.token.specs.declared.Token.TheVariants as N
use Rattle.token.specs.declared.Item.{Item}
use Rattle.token.specs.declared.Item.TheVariants as I
use Rattle.token.specs.Codes.{kind_of}
use Rattle.names.specs.Runs.{skip_from, skip_while, not_newline, is_blank, is_newline}
use Rattle.lexer.specs.declared.Step.{Step}
use Rattle.lexer.specs.declared.Step.TheVariants as T
use Rattle.lexer.specs.Items.{joined_line, continuation, other_at, item_at}
use Rattle.token.specs.Brackets.{is_opener, is_closer}
use Rattle.lexer.specs.Steps.{token_step, step_of, step_at}
use Rattle.lexer.proofs.KindsOf.{Kind, numbered, item_by}
use Rattle.records.specs.Records.{spanned}
use Rattle.tiles.specs.Notes.{CommentIn, NewlineIn, Stands}
use Rattle.tiles.specs.Tiles.{Blank}
use Rattle.tiles.specs.Tiles.Blank.{none, space, tab, feed, join}
use Rattle.tiles.proofs.Bytes.{NotedAt, newline_stands, lf_at, cr_at, comment_at}
use Rattle.utf8.specs.Chars.{no_char}

-- ---- blanks between tokens
module _ (t : List ℕ) (at j : ℕ) where
  -- over one character more
  blank_one : (c : ℕ) → nth (place_at t at) 0 ≡ c → is_blank c ≡ true → Blank t (at + width c) j → Blank t at j
  unfolding is_blank
  blank_one c w =
      let P : Bool → Type 0 = λ b. b ≡ true → Blank t (at + width c) j → Blank t at j in
      choose_keeps P (eqb c (code " ")) (λ e _. over (code " ") (eqb-true c (code " ") e) (omega arith) space)
      (λ _. choose_keeps P (eqb c (code "\t")) (λ e _. over (code "\t") (eqb-true c (code "\t") e) (omega arith) tab) (λ _ e. over (code "\u{c}") (eqb-true c (code "\u{c}") e) (omega arith) feed))
    where
      over : (k : ℕ) → c ≡ k → k < 0x80 → (get_or t at 256 ≡ k → Blank t (at + 1) j → Blank t at j) → Blank t (at + width c) j → Blank t at j
      over k e h f x = f (byte_of t at k h (w ∙ e)) (subst (λ n. Blank t (at + n) j) (width_ascii c (omega arith)) x)

blank_from : (t : List ℕ) (at : ℕ) (l : List ℕ) → Within t (record { at = at; rest = l }) → Blank t at (skip_from is_blank at l).at
unfolding skip_from
blank_from t at [] w = none
blank_from t at (c ∷ r) w =
    choose_keeps (λ (q : Place). Blank t at q.at) (is_blank c)
    (λ e. blank_one t at _ c (ap (λ l. get_or l 0 no_char) w.rest) e (blank_from t (at + width c) r (within_on t at c r w).0)) (λ _. none)

-- ---- items
-- a gap is blanks; a token with a comment's number is one, and one with a Newline's number is a newline
abbrev pub Shows : List ℕ → ℕ → Item → Type 0
Shows t at (I.Tok k e) = (kind_of k ≡ K.comment → CommentIn t at e) × (kind_of k ≡ K.non_logical_newline → ⊥) × (kind_of k ≡ K.newline → NewlineIn t at e)
Shows t at (I.Gap e) = Blank t at e
Shows t at I.End = Unit
Shows t at (I.Error w e) = Unit

-- a token of another sort has another number
shows_other : (t : List ℕ) (at : ℕ) (i : Item) → Kind i → Shows t at i
shows_other t at (I.Tok k e) p = let n = numbered k p in ((λ z. absurd (n.apart.0 z)), n.apart.1, λ z. absurd (omega (arith, n.high)))
shows_other t at (I.Gap e) p = absurd p
shows_other t at I.End p = tt
shows_other t at (I.Error w e) p = tt

module _ (t : List ℕ) (at : ℕ) where
  -- a newline and a comment, as items are told
  newline_at : is_newline (nth (place_at t at) 0) ≡ true → NotedAt t at 8 (next_char (place_at t at))
  unfolding is_newline
  newline_at =
      choose_keeps (λ (b : Bool). b ≡ true → NotedAt t at 8 (next_char (place_at t at))) (eqb (nth (place_at t at) 0) (code "\n"))
      (λ e _. lf_at t at (byte_of t at (code "\n") (omega arith) (eqb-true _ _ e))) (λ _ e. cr_at t at (byte_of t at (code "\r") (omega arith) (eqb-true _ _ e)))

  newline_is : is_newline (nth (place_at t at) 0) ≡ true → NewlineIn t at (next_char (place_at t at)).at
  newline_is e = let n = newline_at e in subst (λ (q : Place). NewlineIn t at q.at) n.place (n.stands.newline refl)

  comment_is : nth (place_at t at) 0 ≡ code "#" → CommentIn t at (skip_while not_newline (place_at t at)).at
  comment_is e = let n = comment_at t at (byte_of t at (code "#") (omega arith) e) in subst (λ (q : Place). CommentIn t at q.at) n.place (n.stands.comment refl)

module _ (t : List ℕ) (at : ℕ) where
  abbrev p : Place
  p = place_at t at

  -- a continuation
  back_is : nth p 0 ≡ code "\\" → is_newline (nth p 1) ≡ true → Blank t at (next_char (slid p)).at
  back_is e f =
      let o = (low_on t at (code "\\") e (omega arith)).1 in
      let g : is_newline (nth (place_at t (at + 1)) 0) ≡ true = ap (λ (q : Place). is_newline (nth q 0)) o ∙ ap is_newline (nth_slid p 0) ∙ f in
      join (byte_of t at (code "\\") (omega arith) e) (subst (λ (q : Place). NewlineIn t (at + 1) (next_char q).at) o (newline_is t (at + 1) g)) none

  other_shows : Shows t at (other_at p)
  unfolding other_at continuation joined_line
  other_shows =
      let S = Shows t at in
      let c = nth p 0 in
      choose_keeps S (eqb c (code "#")) (λ e. ((λ _. comment_is t at (eqb-true c (code "#") e)), (λ z. omega arith), λ z. absurd (omega arith)))
      (λ _. choose_keeps S (is_newline c) (λ e. ((λ z. absurd (omega arith)), (λ z. omega arith), λ _. newline_is t at e))
      (λ _. choose_keeps S (eqb c (code "\\"))
      (λ e. choose_keeps S (is_newline (nth p 1))
      (λ f. choose_keeps S (eqb (nth (next_char (slid p)) 0) no_char) (λ _. tt) (λ _. back_is (eqb-true c (code "\\") e) f)) (λ _. tt))
      (λ _. choose_keeps S (eqb c (code "!")) (λ _. tt)
      (λ _. choose_keeps S (is_emoji c) (λ _. shows_other t at (I.Tok N.Name (slid p).at) tt) (λ _. tt)))))

  pub item_shows : at ≤ length t → Shows t at (item_at p)
  unfolding skip_while
  item_shows h = item_by (Shows t at) p tt (blank_from t at _ (within_at t at h)) (shows_other t at) other_shows

-- ---- steps
abbrev pub Covers : List ℕ → ℕ → Step → Type 0
Covers t at (T.Gap e) = Blank t at e
Covers t at (T.Tok k e n) = Stands t (spanned k at e)
Covers t at (T.Newline e) = Unit
Covers t at (T.Error w p) = Unit
Covers t at T.End = Unit

token_covers : (t : List ℕ) (at nest k e : ℕ) → (k ≡ K.comment → CommentIn t at e) → (k ≡ K.non_logical_newline → ⊥) → (k ≡ K.newline → NewlineIn t at e) → Covers t at (token_step nest k e)
unfolding token_step
token_covers t at nest k e c n l =
    let C = Covers t at in
    let other : Stands t (spanned k at e) = record { comment = c; newline = λ z. absurd (n z) } in
    choose_keeps C (eqb k K.newline) (λ z. choose_keeps C (eqb nest 0) (λ _. tt) (λ _. newline_stands t at e (l (eqb-true k 0 z))))
    (λ _. choose_keeps C (is_opener k) (λ _. other) (λ _. choose_keeps C (is_closer k) (λ _. choose_keeps C (eqb nest 0) (λ _. tt) (λ _. other)) (λ _. other)))

pub step_covers : (t : List ℕ) (at nest : ℕ) → at ≤ length t → Covers t at (step_at t at nest)
unfolding step_at step_of
step_covers t at nest h = go (item_at (place_at t at)) (item_shows t at h)
  where
    go : (i : Item) → Shows t at i → Covers t at (step_of at nest i)
    go (I.Tok k e) f = token_covers t at nest (kind_of k) e f.0 f.1 f.2
    go (I.Gap e) f = f
    go I.End f = choose_keeps (Covers t at) (eqb nest 0) (λ _. tt) (λ _. tt)
    go (I.Error w e) f = tt
