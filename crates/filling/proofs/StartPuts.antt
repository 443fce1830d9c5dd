-- What a line's start hands out, written: its notes where they are listed, and then what is pending.
-- Assumes nothing.
use Prim.Native.Nat.{ℕ, ◌+◌, ◌^◌, ◌<◌, ◌≤◌}
use mathlib.Core.Path.{◌≡◌, sym, ◌∙◌, ap}
use mathlib.Core.List.{List, [], ◌++◌}
use mathlib.Core.Bool.{Bool, true, false}
use native.Mathlib.Omega.{arith}
use lib.ListN.{length}
use Rattle.lines.proofs.Laws.{line_most}
use Rattle.window.specs.Place.{place_at}
use Rattle.indentation.specs.Notes.{notes}
use Rattle.rounds.specs.declared.Pending.{Pending}
use Rattle.rounds.specs.Promises.{pending_records}
use Rattle.rounds.specs.Rounds.{listed_records}
use Rattle.rounds.proofs.Listed.{listed_full, listed_notes}
use Rattle.records.specs.Limits.{places}
use Rattle.records.specs.Records.{Spanned, puts, room}
use Rattle.filling.specs.Promises.{NotesOk, StartOk, PendingOk}
use Rattle.records.proofs.Rooms.{length_puts}
use Rattle.records.proofs.Puts.{puts_append}
use Rattle.filling.proofs.Rows.{Leads}

module _ (full : Bool) (t row : List ℕ) (start n at above : ℕ) (l : Pending) (here : ℕ) (ok : StartOk full t (room row) start n at above l here) where
  here_fits : here < places
  here_fits = omega (arith, ok.line, line_most t l.from, ok.item.to, ok.fits)

  module _ (f : full ≡ true) where
    all : listed_records full (notes (place_at t at)) ≡ notes (place_at t at)
    all = ap (λ (b : Bool). listed_records b (notes (place_at t at))) f ∙ listed_full (notes (place_at t at))

    pub start_notes : NotesOk t (room row) start n at above
    start_notes = record { within = ok.within; line = ok.item.line; room = omega (arith, ok.room, ap (λ (x : List Spanned). length x) all); fits = ok.fits }

    module _ (x : List ℕ) (k : ℕ) (p : x ≡ puts t start row n (notes (place_at t at))) (q : k ≡ n + length (notes (place_at t at))) where
      pub start_lead : PendingOk (room x) start k l here
      start_lead =
          let z : length x ≡ length row = ap (λ (y : List ℕ). length y) p ∙ length_puts t start (notes (place_at t at)) row n in
          record { room = omega (arith, ok.room, ap (λ (x : List Spanned). length x) all); one = ok.one; wide = ok.wide; place = ok.place; line = here_fits }

      pub start_count : k + (l.indents + l.dedents) ≡ n + (length (listed_records full (notes (place_at t at))) + (l.indents + l.dedents))
      start_count = omega (arith, q, ap (λ (x : List Spanned). length x) all)

      pub start_fits : (h : ℕ) → room row ≤ h → h < 2 ^ 64 → k + (l.indents + l.dedents) < 2 ^ 64
      start_fits h f w = omega (arith, start_count, ok.room)

      pub start_all : (y : List ℕ) → Leads start k l here x y → y ≡ puts t start row n (listed_records full (notes (place_at t at)) ++ pending_records l)
      start_all y r = r t ok.line ok.item.blanks ∙ rw (p, q, all) (sym (puts_append t start (notes (place_at t at)) (pending_records l) row n))

  module _ (f : full ≡ false) where
    none : listed_records full (notes (place_at t at)) ≡ []
    none = ap (λ (b : Bool). listed_records b (notes (place_at t at))) f ∙ listed_notes (place_at t at)

    pub plain_count : n + (l.indents + l.dedents) ≡ n + (length (listed_records full (notes (place_at t at))) + (l.indents + l.dedents))
    plain_count = omega (arith, ap (λ (x : List Spanned). length x) none)

    pub plain_lead : PendingOk (room row) start n l here
    plain_lead = record { room = omega (arith, ok.room); one = ok.one; wide = ok.wide; place = ok.place; line = here_fits }

    pub start_none : (y : List ℕ) → Leads start n l here row y → y ≡ puts t start row n (listed_records full (notes (place_at t at)) ++ pending_records l)
    start_none y r = r t ok.line ok.item.blanks ∙ rw none
