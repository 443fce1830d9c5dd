-- What counting line ends asks and promises.
use Rattle.std.specs.Prelude.{ℕ, ◌+◌, ◌≤◌, ◌≡◌, List, length}
use Rattle.choice.specs.Choice.{choose}
use Rattle.lines.specs.Lines.{is_line_end, line_at}

-- 1 if the byte b, before the byte c, is the last of a line end, else 0
abbrev pub ending : ℕ → ℕ → ℕ
ending b c = choose (is_line_end b c) (λ _. 1) (λ _. 0)

-- r is that number
pub record Ending (b c r : ℕ) : Type 0 where
  pub is : r ≡ ending b c
  pub most : r ≤ 1

-- a part of a text
pub record Part (t : List ℕ) (from to : ℕ) : Type 0 where
  pub order : from ≤ to
  pub fits : to ≤ length t

-- n is how many line ends end behind `from` and at or before `to`
pub record Ends (t : List ℕ) (from to n : ℕ) : Type 0 where
  pub count : line_at t from + n ≡ line_at t to
  pub most : from + n ≤ to

-- a byte whose line is known, and one within the text
pub record Counts (t : List ℕ) (from line to : ℕ) : Type 0 where
  pub known : line ≡ line_at t from
  pub fits : to ≤ length t

-- so many bytes are counted at once
abbrev pub block : ℕ
block = 32
