-- The notes of a line's start counted: what is left to count from a byte is what was left from the start.
-- Assumes nothing.
use Prim.Native.Nat.{ℕ, ◌+◌, ◌-◌, ◌^◌, ◌<◌, ◌≤◌}
use mathlib.Core.Path.{◌≡◌, ap, subst}
use mathlib.Core.List.{List, []}
use mathlib.Core.Bool.{Bool, true, false}
use native.Mathlib.Omega.{arith}
use lib.ListN.{length}
use Rattle.window.specs.Place.{place_at}
use Rattle.records.specs.Records.{Spanned}
use Rattle.std.specs.Prelude.{Option, Some, None}
use Rattle.indentation.specs.declared.Note.{Note}
use Rattle.indentation.specs.Notes.{notes}
use Rattle.indentation.specs.Promises.{NextNote, NoteAt}
use Rattle.rounds.specs.Rounds.{listed_records}
use Rattle.rounds.proofs.Listed.{listed_full, listed_notes}

pub record NotesInv (t : List ℕ) (at i k : ℕ) : Type 0 where
  pub few : k + at ≤ i
  pub to : i ≤ length t
  pub same : k + length (notes (place_at t i)) ≡ length (notes (place_at t at))

pub notes_begin : (t : List ℕ) (at : ℕ) → at ≤ length t → NotesInv t at at 0
notes_begin t at h = record { few = omega arith; to = h; same = omega arith }

module _ (t : List ℕ) (at i k : ℕ) (inv : NotesInv t at i k) (r : Option Note) (q : NoteAt t i r) where
  next : (n : Note) → r ≡ Some n → NextNote t i n.kind n.from n.to
  next n z = subst (NoteAt t i) z q

  pub note_again : (m : Note) → r ≡ Some m → NotesInv t at m.to (k + 1)
  note_again m z =
      let n = next m z in
      record { few = omega (arith, inv.few); to = n.to; same = omega (arith, inv.same, ap (λ (l : List Spanned). length l) n.reads) }

  pub note_less : (m : Note) → r ≡ Some m → length t - m.to < length t - i
  note_less m z = let n = next m z in omega arith

  pub note_fits : (m : Note) → r ≡ Some m → length t < 2 ^ 64 → k + 1 < 2 ^ 64
  note_fits m z l = let n = next m z in omega (arith, inv.few)

  pub note_none : r ≡ None → k ≡ length (notes (place_at t at))
  note_none z = let e : notes (place_at t i) ≡ [] = subst (NoteAt t i) z q in omega (arith, inv.same, ap (λ (l : List Spanned). length l) e)

-- those that are listed
pub noted_all : (t : List ℕ) (at n : ℕ) (full : Bool) → n ≡ length (notes (place_at t at)) → full ≡ true → n ≡ length (listed_records full (notes (place_at t at)))
noted_all t at n full e f = rw (f, listed_full (notes (place_at t at))) e

pub noted_none : (t : List ℕ) (at : ℕ) (full : Bool) → full ≡ false → 0 ≡ length (listed_records full (notes (place_at t at)))
noted_none t at full f = rw (f, listed_notes (place_at t at))
