-- What the code's character and cursor promise.
use Rattle.std.specs.Prelude.{ℕ, ◌≡◌, List}
use Rattle.window.specs.declared.cursor.Cursor.{Cursor}
use Rattle.window.specs.Place.{Place, place_at, nth, slid, window}

-- the character c at the byte i, and the byte n after it, as the program has them
pub record CharAt (t : List ℕ) (i c n : ℕ) : Type 0 where
  pub first : c ≡ nth (place_at t i) 0
  pub place : place_at t n ≡ slid (place_at t i)

-- the place of its text at which a cursor stands
abbrev pub place : Cursor → Place
place cur = place_at cur.text.now cur.at

-- a cursor, as three numbers and a window beside a text, stands at the place p of it
pub record CursorAt (t : List ℕ) (cur : Cursor) (p : Place) : Type 0 where
  pub place : place_at t cur.at ≡ p
  pub window : cur.window ≡ window p
  pub ahead : place_at t cur.ahead ≡ slid (slid (slid p))

-- it stands at its own byte
abbrev pub IsCursor : List ℕ → Cursor → Type 0
IsCursor t cur = CursorAt t cur (place_at t cur.at)
