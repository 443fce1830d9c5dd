-- What the code of names promises: the end of a run, a test that tells a class, a short name as one number, a name as its kind and end.
use Rattle.std.specs.Prelude.{ℕ, ◌+◌, ◌*◌, ◌<◌, ◌≤◌, ◌≡◌, List, [], ◌∷◌, Bool}
use Rattle.window.specs.Place.{place_at, Place}
use Rattle.names.specs.Runs.{skip_while, taken}
use Rattle.classes.specs.Classes.{is_identifier_continuation}
use Rattle.names.specs.declared.Lexed.{Lexed}
use Rattle.names.specs.Names.{kind_of_name}

-- the run of characters of a class that starts at one byte ends at the other
abbrev pub RunEnd : (ℕ → Bool) → List ℕ → ℕ → ℕ → Type 0
RunEnd f t at end = place_at t end ≡ skip_while f (place_at t at)

-- a test of bytes tells a class of characters: it answers as the class does, and all characters from 0x80 up are of the class or none is
abbrev pub Tells : (ℕ → Bool → Type 0) → (ℕ → Bool) → Type 0
Tells test f = ((b : ℕ) (r : Bool) → b < 256 → test b r → f b ≡ r) × ((c : ℕ) → 0x80 ≤ c → f c ≡ f 0x80)

-- a short name's bytes as one number: digits base 256, the first one lowest
unfoldable pub packed : List ℕ → ℕ
packed [] = 0
packed (b ∷ l) = packed l * 256 + b

-- Reference 2.3: the name at a place, its kind and its end
unfoldable pub lexed_name : Place → Lexed
lexed_name p = record { kind = kind_of_name (taken is_identifier_continuation p.rest); end = (skip_while is_identifier_continuation p).at }
