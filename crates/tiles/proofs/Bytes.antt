-- A newline and the rest of a line, in bytes: characters below 0x80 are bytes, and a run over all others may go byte by byte.
-- Assumes nothing.
use Prim.Native.Nat.{ℕ, zero, suc, ◌+◌, ◌-◌, ◌<◌, ◌≤◌}
use Prim.Native.Char.{code}
use mathlib.Core.Path.{◌≡◌, refl, sym, ◌∙◌, ap}
use mathlib.Core.List.{List}
use mathlib.Core.Bool.{Bool, true, false}
use mathlib.Core.Logic.{⊎_elim}
use native.Mathlib.Omega.{arith}
use native.Mathlib.Decide.{dec_lt, ℕ_discrete}
use lib.ListN.{length, get_or, drop}
use Rattle.token.specs.Kinds as K
use Rattle.utf8.specs.Chars.{chars}
use Rattle.utf8.proofs.Bytes.{get_or_any}
use Rattle.window.specs.Place.{Place, place_at, nth, slid, next_char}
use Rattle.window.proofs.Laws.{byte_of, char_of, byte_in, low_on, nth_slid, step_other, step_lone, step_pair}
use Rattle.names.specs.Runs.{skip_while, not_newline}
use Rattle.names.proofs.Laws.{breaks, line_full, run_over, run_full, run_stop}
use Rattle.indentation.specs.Blanks.{blanks_from, blanks}
use Rattle.indentation.specs.Promises.{NextNote}
use Rattle.records.specs.Records.{spanned}
use Rattle.indentation.proofs.BlankLaws.{blanks_lf, blanks_cr, blanks_comment}
use Rattle.indentation.proofs.NoteSteps.{note_lf, note_cr, note_comment}
use Rattle.tiles.specs.Notes.{NewlineIn, Stands}
use Rattle.tiles.specs.Notes.NewlineIn.{lf, cr, crlf}

-- ---- a note at the byte i: where it ends, what it stands for, and that the notes and the blanks of a line's start go on behind it
pub record NotedAt (t : List ℕ) (i k : ℕ) (behind : Place) : Type 0 where
  pub end : ℕ
  pub stands : Stands t (spanned k i end)
  pub place : place_at t end ≡ behind
  pub next : NextNote t i k i end
  pub margin : (tabs spaces : ℕ) → blanks (place_at t end) ≡ blanks_from false i tabs spaces (chars (drop i t))

pub newline_stands : (t : List ℕ) (s e : ℕ) → NewlineIn t s e → Stands t (spanned K.non_logical_newline s e)
newline_stands t s e n = record { comment = λ z. absurd (omega arith); newline = λ _. n }

-- ---- a newline: LF, and CR alone or before LF
module _ (t : List ℕ) (i : ℕ) where
  pub lf_at : get_or t i 256 ≡ code "\n" → NotedAt t i 8 (next_char (place_at t i))
  unfolding blanks
  lf_at e =
      let b = byte_in t i (code "\n") (omega arith) e in
      let c = char_of t i (code "\n") (omega arith) e in
      record {
        end = i + 1;
        stands = newline_stands t i _ (lf e);
        place = (low_on t i (code "\n") c (omega arith)).1 ∙ step_other (place_at t i) (omega arith);
        next = note_lf t i b.0 i refl (omega arith) b.1;
        margin = λ tabs spaces. blanks_lf t i tabs spaces _ refl b.0 b.1;
      }

  pub cr_at : get_or t i 256 ≡ code "\r" → NotedAt t i 8 (next_char (place_at t i))
  unfolding blanks
  cr_at e = go (ℕ_discrete (get_or t (i + 1) 256) (code "\n"))
    where
      b : (i < length t) × (get_or t i 0 ≡ code "\r")
      b = byte_in t i (code "\r") (omega arith) e

      c : nth (place_at t i) 0 ≡ code "\r"
      c = char_of t i (code "\r") (omega arith) e

      one : place_at t (i + 1) ≡ slid (place_at t i)
      one = (low_on t i (code "\r") c (omega arith)).1

      second : nth (place_at t (i + 1)) 0 ≡ nth (place_at t i) 1
      second = ap (λ (p : Place). nth p 0) one ∙ nth_slid (place_at t i) 0

      -- from its end
      ends : (n : ℕ) → NewlineIn t i n → place_at t n ≡ next_char (place_at t i) → ((tabs spaces : ℕ) → blanks (place_at t n) ≡ blanks_from false i tabs spaces (chars (drop i t)))
          → NotedAt t i 8 (next_char (place_at t i))
      ends n is z m = record { end = n; stands = newline_stands t i n is; place = z; next = note_cr t i b.0 i refl (omega arith) n z b.1; margin = m }

      go : Dec (get_or t (i + 1) 256 ≡ code "\n") → NotedAt t i 8 (next_char (place_at t i))
      go (yes f) =
          let d = byte_in t (i + 1) (code "\n") (omega arith) f in
          let g = char_of t (i + 1) (code "\n") (omega arith) f in
          let n : i + 2 ≡ i + 1 + 1 = omega arith in
          ends (i + 2) (crlf e f) (ap (place_at t) n ∙ (low_on t (i + 1) (code "\n") g (omega arith)).1 ∙ ap slid one ∙ step_pair (place_at t i) c (sym second ∙ g))
          (λ tabs spaces. ap (λ k. blanks (place_at t k)) n ∙ blanks_lf t (i + 1) 0 0 _ (blanks_cr t i tabs spaces _ refl b.0 b.1) d.0 d.1)
      go (no f) =
          ends (i + 1) (cr e f) (one ∙ step_lone (place_at t i) c (λ g. f (byte_of t (i + 1) (code "\n") (omega arith) (second ∙ g))))
          (λ tabs spaces. blanks_cr t i tabs spaces _ refl b.0 b.1)

-- ---- the rest of a line from the byte i on
record LineAt (t : List ℕ) (i : ℕ) : Type 0 where
  end : ℕ
  to : end ≤ length t
  line : (j : ℕ) → i ≤ j → j < end → not_newline (get_or t j 256) ≡ true
  ends : end < length t → not_newline (get_or t end 256) ≡ false
  place : place_at t end ≡ skip_while not_newline (place_at t i)

module _ (t : List ℕ) where
  -- over one byte more
  line_more : (i : ℕ) → i < length t → not_newline (get_or t i 256) ≡ true → LineAt t (i + 1) → LineAt t i
  line_more i h e r =
      let f : not_newline (get_or t i 0) ≡ true = ap not_newline (get_or_any t i 0 256 h) ∙ e in
      record {
        end = r.end;
        to = r.to;
        line = λ j k l. first j k l (dec_lt i j);
        ends = r.ends;
        place = r.place ∙ run_full not_newline t i _ refl line_full h f;
      }
    where
      first : (j : ℕ) → i ≤ j → j < r.end → Dec (i < j) → not_newline (get_or t j 256) ≡ true
      first j k l (yes m) = r.line j (omega arith) l
      first j k l (no m) = let z : j ≡ i = omega arith in rw z e

  -- at a newline, and at the text's end
  line_here : (i : ℕ) → i < length t → not_newline (get_or t i 256) ≡ false → LineAt t i
  line_here i h e =
      record {
        end = i;
        to = omega arith;
        line = λ j k l. absurd (omega arith);
        ends = λ _. e;
        place = run_stop not_newline t i _ refl h (⊎_elim (λ b. omega arith) (λ b. omega arith) (breaks (get_or t i 0) f)) f;
      }
    where
      f : not_newline (get_or t i 0) ≡ false
      f = ap not_newline (get_or_any t i 0 256 h) ∙ e

  line_over : (i : ℕ) → i ≡ length t → LineAt t i
  line_over i h =
      record {
        end = i;
        to = omega arith;
        line = λ j k l. absurd (omega arith);
        ends = λ l. absurd (omega arith);
        place = run_over not_newline t i _ refl (omega arith);
      }

  -- byte by byte
  line_in : (n i : ℕ) → length t - i < n → i ≤ length t → LineAt t i
  line_in zero i l h = absurd (omega arith)
  line_in (suc n) i l h = go (dec_lt i (length t)) (line_in n)
    where
      go : Dec (i < length t) → ((j : ℕ) → length t - j < n → j ≤ length t → LineAt t j) → LineAt t i
      go (no k) ih = line_over i (omega arith)
      go (yes k) ih = on (not_newline (get_or t i 256)) refl
        where
          on : (b : Bool) → not_newline (get_or t i 256) ≡ b → LineAt t i
          on true e = line_more i k e (ih (i + 1) (omega arith) (omega arith))
          on false e = line_here i k e

  -- a comment is a `#` and the rest of its line
  pub comment_at : (i : ℕ) → get_or t i 256 ≡ code "#" → NotedAt t i 7 (skip_while not_newline (place_at t i))
  unfolding blanks
  comment_at i e =
      let b = byte_in t i (code "#") (omega arith) e in
      let r = line_in (suc (length t)) i (omega arith) (omega arith) in
      let n = note_comment t i b.0 i refl (omega arith) r.end r.place b.1 in
      record {
        end = r.end;
        stands = record { comment = λ _. record { some = n.some; to = r.to; hash = e; line = r.line; ends = r.ends }; newline = λ z. absurd (omega arith) };
        place = r.place;
        next = n;
        margin = λ tabs spaces. blanks_comment t i tabs spaces _ refl b.0 r.end r.place b.1;
      }
