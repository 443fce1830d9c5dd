-- The notes of a line's start written: what is left to write from a byte is what was left from the start.
-- Assumes nothing.
use Prim.Native.Nat.{ℕ, ◌+◌, ◌-◌, ◌^◌, ◌<◌, ◌≤◌}
use mathlib.Core.Path.{◌≡◌, refl, sym, ◌∙◌, ap, subst}
use mathlib.Core.List.{List, []}
use native.Mathlib.Omega.{arith}
use lib.ListN.{length}
use Rattle.records.specs.Limits.{places}
use Rattle.lines.specs.Lines.{line_at}
use Rattle.lines.specs.Promises.{Part, Ends}
use Rattle.lines.proofs.Laws.{line_most}
use Rattle.window.specs.Place.{place_at}
use Rattle.std.specs.Prelude.{Option, Some, None}
use Rattle.indentation.specs.declared.Note.{Note}
use Rattle.indentation.specs.Notes.{notes}
use Rattle.indentation.specs.Promises.{NextNote, NoteAt}
use Rattle.records.specs.Records.{Spanned, spanned, rec, set_rec, put1, puts, room}
use Rattle.records.specs.Promises.{PutOk}
use Rattle.filling.specs.Promises.{NotesOk}
use Rattle.records.proofs.Rooms.{length_rec}
use Rattle.records.proofs.Puts.{put_lined}

pub record NotesInv (t row₀ : List ℕ) (start n at : ℕ) (row : List ℕ) (i up k : ℕ) : Type 0 where
  pub to : i ≤ length t
  pub line : up ≡ line_at t i
  pub fits : start + length t < places
  pub room : k + length (notes (place_at t i)) ≤ room row
  pub same : length row ≡ length row₀
  pub count : k + length (notes (place_at t i)) ≡ n + length (notes (place_at t at))
  pub left : puts t start row k (notes (place_at t i)) ≡ puts t start row₀ n (notes (place_at t at))

pub notes_begin : (t row : List ℕ) (start n at above : ℕ) → NotesOk t (room row) start n at above → NotesInv t row start n at row at above n
notes_begin t row start n at above ok = record { to = ok.within; line = ok.line; fits = ok.fits; room = ok.room; same = refl; count = refl; left = refl }

module _ (t row₀ : List ℕ) (start n at : ℕ) (row : List ℕ) (i up k : ℕ) (inv : NotesInv t row₀ start n at row i up k) (r : Option Note) (q : NoteAt t i r) where
  module _ (m : Note) (z : r ≡ Some m) where
    next : NextNote t i m.kind m.from m.to
    next = subst (NoteAt t i) z q

    size : length (notes (place_at t i)) ≡ 1 + length (notes (place_at t m.to))
    size = ap (λ (l : List Spanned). length l) next.reads ∙ omega arith

    -- up to the note, and over it
    pub note_before : Part t i m.from
    note_before = omega (arith, next.from, next.some, next.to)

    pub note_over : Part t m.from m.to
    note_over = omega (arith, next.some, next.to)

    module _ (a : ℕ) (u : Ends t i m.from a) where
      pub note_up : length t < 2 ^ 64 → up + a < 2 ^ 64
      note_up h = omega (arith, inv.line, line_most t i, u.most, next.some, next.to)

      note_line : up + a ≡ line_at t m.from
      note_line = omega (arith, inv.line, u.count)

      pub note_put : PutOk (room row) start k m.from m.to (up + a)
      note_put = omega (arith, inv.room, inv.fits, size, next.some, next.to, note_line, line_most t m.from)

      pub note_on : (b : ℕ) → Ends t m.from m.to b → length t < 2 ^ 64 → up + a + b < 2 ^ 64
      note_on b v h = omega (arith, note_line, line_most t m.from, v.most, next.to)

    pub note_fits : length row < 2 ^ 64 → k + 1 < 2 ^ 64
    note_fits l = omega (arith, inv.room, size)

    pub note_less : length t - m.to < length t - i
    note_less = omega (arith, next.from, next.some, next.to)

    pub note_again : (a : ℕ) → Ends t i m.from a → (b : ℕ) → Ends t m.from m.to b → (y : List ℕ) → y ≡ set_rec row k (rec m.kind (start + m.from) (start + m.to) (up + a)) → NotesInv t row₀ start n at y m.to (up + a + b) (k + 1)
    unfolding puts
    note_again a u b v y w =
        let p : y ≡ put1 t start row k (spanned m.kind m.from m.to) = put_lined t start row y k m.kind m.from m.to (up + a) w (note_line a u) in
        let l : length y ≡ length row = ap (λ (x : List ℕ). length x) p ∙ length_rec row k _ in
        record {
          to = next.to;
          line = omega (arith, note_line a u, v.count);
          fits = inv.fits;
          room = omega (arith, inv.room, size, l);
          same = l ∙ inv.same;
          count = omega (arith, inv.count, size);
          left = ap (λ (x : List ℕ). puts t start x (k + 1) (notes (place_at t m.to))) p ∙ sym (ap (puts t start row k) next.reads) ∙ inv.left;
        }

  module _ (z : r ≡ None) where
    gone : notes (place_at t i) ≡ []
    gone = subst (NoteAt t i) z q

    pub none_row : row ≡ puts t start row₀ n (notes (place_at t at))
    unfolding puts
    none_row = sym (ap (puts t start row k) gone) ∙ inv.left

    pub none_count : k ≡ n + length (notes (place_at t at))
    none_count = omega (arith, inv.count, ap (λ (l : List Spanned). length l) gone)
