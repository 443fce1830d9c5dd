-- How many records the row of a list has room for: a law of what may be lent, so it stands with the definitions.
use Rattle.std.specs.Prelude.{◌*◌, ◌≡◌, List, [], ◌∷◌, length, refl}
use Rattle.std.proofs.Common.{arith}
use Rattle.token.specs.declared.Record.{Record}
use Rattle.records.specs.Records.{stride, room, flat}

-- a list's row has so many numbers for each record
pub flat_length : (l : List Record) → length (flat l) ≡ stride * length l
unfolding flat
flat_length [] = refl
flat_length (r ∷ rs) = omega (arith, flat_length rs)

-- so it has room for as many records as the list
pub flat_room : (l : List Record) → room (flat l) ≡ length l
flat_room l = omega (arith, flat_length l)
