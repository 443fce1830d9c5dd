-- A record of zeros, and what a store of a record asks.
use Rattle.std.specs.Prelude.{ℕ, ◌+◌, ◌<◌}
use Rattle.token.specs.declared.Record.{Record}
use Rattle.records.specs.Limits.{places}
use Rattle.records.specs.Records.{rec}

-- a record of zeros: what stands past a list's end, as zeros stand past a row's
abbrev pub blank : Record
blank = rec 0 0 0 0

-- places that fit, the start added, and a line
pub record NumbersOk (start s e line : ℕ) : Type 0 where
  pub first : start + s < places
  pub last : start + e < places
  pub counted : line < places

-- what a store asks: an index below the room, and numbers that fit
pub record PutOk (space start i s e line : ℕ) : Type 0 where
  pub room : i < space
  pub fits : NumbersOk start s e line
