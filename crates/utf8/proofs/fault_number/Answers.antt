-- fault_number: each fault is declared with its number. Assumes nothing.
use Prim.Native.Nat.{◌+◌}
use mathlib.Core.Path.{◌≡◌, refl}
use denote.Enum.Declared.{tag_of}
use Rattle.utf8.specs.declared.Fault.{Fault}
use Rattle.utf8.specs.declared.Fault.TheVariants.{Stray, Unused, CutByEnd, CutByByte, Overlong, Surrogate, TooLarge}
use Rattle.utf8.specs.contracts.Fault.{the_type}
use Rattle.utf8.specs.Utf8.{fault_number}
use Rattle.utf8.proofs.fault_number.Goals as goal

numbered : (f : Fault) → tag_of the_type f + 1 ≡ fault_number f
unfolding fault_number
numbered Stray = refl
numbered Unused = refl
numbered CutByEnd = refl
numbered CutByByte = refl
numbered Overlong = refl
numbered Surrogate = refl
numbered TooLarge = refl

pub returns : goal.returns
returns c = numbered c.args.f
