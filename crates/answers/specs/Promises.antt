-- What an answer's numbers ask.
use Rattle.std.specs.Prelude.{ℕ, ◌<◌}
use Rattle.records.specs.Limits.{places}

-- a count and a place that fit an answer
pub record Fits (n p : ℕ) : Type 0 where
  pub count : n < places
  pub place : p < places
