-- Document 02 item 8: without its notes a reading has them between its records. A note that is left out joins the gaps on its two sides.
-- Assumes nothing.
use Prim.Native.Nat.{ℕ, ◌≤◌}
use mathlib.Core.Path.{◌≡◌, subst}
use mathlib.Core.List.{List, [], ◌∷◌}
use mathlib.Core.Bool.{Bool, true, false}
use native.Mathlib.Omega.{arith}
use borrow.Author.Tests.{eqb-true}
use lib.Dec.{eqb}
use lib.ListN.{length}
use Rattle.choice.proofs.Laws.{choose_keeps, true_is_not_false}
use Rattle.token.specs.Kinds as K
use Rattle.records.specs.Records.{Spanned}
use Rattle.lexer.specs.Steps.{is_note, is_listed}
use Rattle.rounds.specs.Rounds.{last_end, State, raw_reading, listed_records, listed_reading, view}
use Rattle.tiles.specs.Notes.{Stands}
use Rattle.tiles.specs.Tiles.{Blank, BlankOrNotes, Tiled}
use Rattle.tiles.specs.Tiles.Blank.{none}
use Rattle.tiles.specs.Tiles.BlankOrNotes.{blank, comment, newline}
use Rattle.tiles.proofs.Laid.{newline_le, blank_le, Laid, tiled_last}
use Rattle.tiles.proofs.Readings.{reached}

paper_le : {t : List ℕ} {i j : ℕ} → BlankOrNotes t i j → i ≤ j
paper_le (blank x) = blank_le x
paper_le (comment x c p) = omega (arith, blank_le x, c.some, paper_le p)
paper_le (newline x n p) = omega (arith, blank_le x, newline_le n, paper_le p)

module _ (t : List ℕ) where
  -- records behind one gap are behind a longer one
  wider : (a b c : ℕ) (rs : List Spanned) → ((k : ℕ) → BlankOrNotes t b k → BlankOrNotes t a k) → a ≤ b → Tiled (BlankOrNotes t) b rs c → Tiled (BlankOrNotes t) a rs c
  wider a b c [] f h l = f c l
  wider a b c (r ∷ rs) f h l = (omega (arith, l.0), l.1, f r.start l.2, l.3)

  -- a note joins the gaps on its two sides
  over_note : (a : ℕ) (r : Spanned) → Blank t a r.start → Stands t r → is_listed false r.kind ≡ false → (k : ℕ) → BlankOrNotes t r.end k → BlankOrNotes t a k
  unfolding is_listed is_note
  over_note a r b s =
      let P : Bool → Type 0 = λ n. n ≡ false → (k : ℕ) → BlankOrNotes t r.end k → BlankOrNotes t a k in
      choose_keeps P (is_note r.kind) (λ n _ k. note n k) (λ _ z. absurd (true_is_not_false z))
    where
      note : is_note r.kind ≡ true → (k : ℕ) → BlankOrNotes t r.end k → BlankOrNotes t a k
      note =
          choose_keeps (λ n. n ≡ true → (k : ℕ) → BlankOrNotes t r.end k → BlankOrNotes t a k) (eqb r.kind K.comment) (λ e _ k. comment b (s.comment (eqb-true r.kind K.comment e))) (λ _ e k. newline b (s.newline (eqb-true r.kind K.non_logical_newline e)))

  laid_paper : (a b : ℕ) (rs : List Spanned) → Laid t a rs b → Tiled (BlankOrNotes t) a (listed_records false rs) b
  unfolding listed_records
  laid_paper a b [] l = blank l
  laid_paper a b (r ∷ rs) l =
      let on = laid_paper r.end b rs l.3 in
      choose_keeps (λ (xs : List Spanned). Tiled (BlankOrNotes t) a xs b) (is_listed false r.kind) (λ _. (blank_le l.0, l.1, blank l.0, on))
      (λ n. wider a r.end b (listed_records false rs) (over_note a r l.0 l.2 n) (omega (arith, blank_le l.0, l.1)) on)

module _ (t : List ℕ) (s : State) (h : s.at ≤ length t) where
  papered : Tiled (BlankOrNotes t) s.at (view false t s).recs (reached t s h).to
  unfolding view listed_reading
  papered = laid_paper t s.at (reached t s h).to (raw_reading t s).recs (reached t s h).laid

  -- PROMISE: in a reading without notes and with code 0 only blanks, comments and newlines lie between records, up to the text's end
  pub paper_between : (view false t s).code ≡ 0 → Tiled (BlankOrNotes t) s.at (view false t s).recs (length t)
  unfolding view listed_reading
  paper_between z = subst (Tiled (BlankOrNotes t) s.at (view false t s).recs) ((reached t s h).all z) papered

  -- and in any reading up to the last record's end
  pub paper_before_last : let e = last_end s.at (view false t s).recs in Tiled (BlankOrNotes t) s.at (view false t s).recs e × (e ≤ length t)
  paper_before_last =
      let n = tiled_last (BlankOrNotes t) (λ i. blank none) (λ i j. paper_le) s.at (reached t s h).to (view false t s).recs papered in
      (n.0, omega (arith, n.1, (reached t s h).fits))
