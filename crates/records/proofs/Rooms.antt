-- How many records a row holds, and that writing leaves it.
-- Assumes nothing.
use Prim.Native.Nat.{ℕ, ◌+◌}
use mathlib.Core.Path.{◌≡◌, refl, ◌∙◌}
use mathlib.Core.List.{List, [], ◌∷◌}
use lib.ListN.{length, length-set}
use Rattle.token.specs.declared.Record.{Record}
use Rattle.records.specs.Records.{Spanned, record_in, set_rec, put1, puts}
pub use Rattle.records.specs.Rooms.{flat_length, flat_room}

pub length_rec : (row : List ℕ) (i : ℕ) (r : Record) → length (set_rec row i r) ≡ length row
unfolding set_rec
length_rec row i r = simp length-set

pub length_puts : (t : List ℕ) (start : ℕ) (xs : List Spanned) (row : List ℕ) (i : ℕ) → length (puts t start row i xs) ≡ length row
unfolding puts
length_puts t start [] row i = refl
length_puts t start (x ∷ xs) row i = length_puts t start xs (put1 t start row i x) (i + 1) ∙ length_rec row i (record_in t start x)
