-- A step that ends a line ends behind LF, or behind a CR with no LF after it.
-- Assumes nothing.
use Prim.Native.Nat.{ℕ, ◌+◌, ◌-◌, ◌<◌}
use Prim.Native.Char.{code}
use mathlib.Core.Path.{◌≡◌, refl, sym, ◌∙◌, ap, subst}
use mathlib.Core.List.{List}
use mathlib.Core.Bool.{Bool, true, false}
use mathlib.Core.Logic.{inl, inr, ⊎_elim}
use native.Mathlib.Omega.{arith}
use native.Mathlib.Decide.{dec_lt}
use borrow.Author.Tests.{eqb-true, eqb-false}
use lib.ListN.{length, get_or}
use lib.Dec.{eqb}
use Rattle.choice.proofs.Laws.{choose_keeps}
use Rattle.utf8.specs.Chars.{no_char}
use Rattle.window.specs.Place.{Place, place_at, nth, slid, next_char}
use Rattle.window.proofs.Laws.{nth_slid, step_other, step_lone, step_pair, low_on, this_nth, byte_is}
use Rattle.window.proofs.Near.{Ended}
use Rattle.classes.specs.Classes.{is_emoji}
use Rattle.token.specs.Kinds as K
use Rattle.token.specs.declared.Item.{Item}
use Rattle.token.specs.declared.Item.TheVariants as I
use Rattle.token.specs.Codes.{kind_of}
use Rattle.names.specs.Runs.{is_newline}
use Rattle.names.proofs.Laws.{newline_is}
use Rattle.lexer.specs.declared.Step.{Step}
use Rattle.lexer.specs.declared.Step.TheVariants as T
use Rattle.lexer.specs.Items.{joined_line, continuation, other_at, item_at}
use Rattle.token.specs.Brackets.{is_opener, is_closer}
use Rattle.lexer.specs.Steps.{token_step, step_of, step_at}
use Rattle.lexer.proofs.KindsOf.{Kind, numbered, item_by}

-- a token with a Newline's number ends a line
abbrev Ends : List ℕ → Item → Type 0
Ends t (I.Tok k e) = kind_of k ≡ K.newline → Ended t e
Ends t (I.Gap e) = Unit
Ends t I.End = Unit
Ends t (I.Error w e) = Unit

-- other tokens have another number
not_line : (t : List ℕ) (i : Item) → Kind i → Ends t i
not_line t (I.Tok k e) p = λ z. absurd (omega (arith, (numbered k p).high))
not_line t (I.Gap e) p = tt
not_line t I.End p = tt
not_line t (I.Error w e) p = tt

-- a byte LF is a character LF
lf_of : (t : List ℕ) (i : ℕ) → get_or t i 0 ≡ code "\n" → nth (place_at t i) 0 ≡ code "\n"
lf_of t i e = go (dec_lt i (length t))
  where
    go : Dec (i < length t) → nth (place_at t i) 0 ≡ code "\n"
    go (yes l) = this_nth t i l (omega arith) ∙ e
    go (no l) = absurd (let z = lib.ListN.get_or-eq_default t 0 {n = i} (omega arith) in omega arith)

module _ (t : List ℕ) (at : ℕ) where
  abbrev p : Place
  p = place_at t at

  -- one character on from a low one
  on_low : (i c : ℕ) → nth (place_at t i) 0 ≡ c → c < 0x80 → place_at t (i + 1) ≡ slid (place_at t i)
  on_low i c e k = (low_on t i c e k).1

  behind_lf : nth p 0 ≡ code "\n" → Ended t (next_char p).at
  behind_lf e =
      let s : place_at t (at + 1) ≡ next_char p = on_low at (code "\n") e (omega arith) ∙ step_other p (omega arith) in
      let n : at + 1 - 1 ≡ at = omega arith in
      subst (λ (q : Place). Ended t q.at) s (inl (rw n (byte_is t at (code "\n") (omega arith) e).1))

  behind_cr : nth p 0 ≡ code "\r" → Ended t (next_char p).at
  behind_cr e = go (eqb (nth p 1) (code "\n")) refl
    where
      one : place_at t (at + 1) ≡ slid p
      one = on_low at (code "\r") e (omega arith)

      second : nth (place_at t (at + 1)) 0 ≡ nth p 1
      second = ap (λ (q : Place). nth q 0) one ∙ nth_slid p 0

      go : (b : Bool) → eqb (nth p 1) (code "\n") ≡ b → Ended t (next_char p).at
      go true b =
          let f = eqb-true _ _ b in
          let s : place_at t (at + 1 + 1) ≡ next_char p = on_low (at + 1) (code "\n") (second ∙ f) (omega arith) ∙ ap slid one ∙ step_pair p e f in
          let n : at + 1 + 1 - 1 ≡ at + 1 = omega arith in
          subst (λ (q : Place). Ended t q.at) s (inl (rw n (byte_is t (at + 1) (code "\n") (omega arith) (second ∙ f)).1))
      go false b =
          let f = eqb-false (nth p 1) (code "\n") b in
          let n : at + 1 - 1 ≡ at = omega arith in
          subst (λ (q : Place). Ended t q.at) (one ∙ step_lone p e f)
          (inr (rw n (byte_is t at (code "\r") (omega arith) e).1, λ z. f (sym second ∙ lf_of t (at + 1) z)))

  newline_ends : is_newline (nth p 0) ≡ true → Ended t (next_char p).at
  newline_ends e = ⊎_elim behind_lf behind_cr (newline_is (nth p 0) e)

  joined_ends : (q : Place) → Ends t (joined_line q)
  unfolding joined_line
  joined_ends q = choose_keeps (Ends t) (eqb (nth q 0) no_char) (λ _. tt) (λ _. tt)

  other_ends : Ends t (other_at p)
  unfolding other_at continuation
  other_ends =
      choose_keeps (Ends t) (eqb (nth p 0) (code "#")) (λ _ z. absurd (omega arith))
      (λ _. choose_keeps (Ends t) (is_newline (nth p 0)) (λ e _. newline_ends e)
      (λ _. choose_keeps (Ends t) (eqb (nth p 0) (code "\\")) (λ _. choose_keeps (Ends t) (is_newline (nth p 1)) (λ _. joined_ends (next_char (slid p))) (λ _. tt))
      (λ _. choose_keeps (Ends t) (eqb (nth p 0) (code "!")) (λ _. tt)
      (λ _. choose_keeps (Ends t) (is_emoji (nth p 0)) (λ _ z. absurd (omega arith)) (λ _. tt)))))

  item_ends : Ends t (item_at p)
  item_ends = item_by (Ends t) p tt tt (not_line t) other_ends

-- where a step ends a line
abbrev pub LineEnds : List ℕ → Step → Type 0
LineEnds t (T.Gap e) = Unit
LineEnds t (T.Tok k e n) = Unit
LineEnds t (T.Newline e) = Ended t e
LineEnds t (T.Error w p) = Unit
LineEnds t T.End = Unit

token_ends : (t : List ℕ) (nest k e : ℕ) → (k ≡ K.newline → Ended t e) → LineEnds t (token_step nest k e)
unfolding token_step
token_ends t nest k e f =
    let L = LineEnds t in
    choose_keeps L (eqb k K.newline) (λ z. choose_keeps L (eqb nest 0) (λ _. f (eqb-true k K.newline z)) (λ _. tt))
    (λ _. choose_keeps L (is_opener k) (λ _. tt)
    (λ _. choose_keeps L (is_closer k) (λ _. choose_keeps L (eqb nest 0) (λ _. tt) (λ _. tt)) (λ _. tt)))

pub step_ends : (t : List ℕ) (at nest : ℕ) → LineEnds t (step_at t at nest)
unfolding step_at step_of
step_ends t at nest = go (item_at (place_at t at)) (item_ends t at)
  where
    go : (i : Item) → Ends t i → LineEnds t (step_of at nest i)
    go (I.Tok k e) f = token_ends t nest (kind_of k) e f
    go (I.Gap e) f = tt
    go I.End f = choose_keeps (LineEnds t) (eqb nest 0) (λ _. tt) (λ _. tt)
    go (I.Error w e) f = tt
