-- Theorem: a larger speed, wave, jam count or capacity of a cell, or a larger gate capacity, makes no cumulative outflow smaller and no total
-- larger. Start, rows and closures are the same, and both runs accept the releases. Assumes nothing.
use Rattle.std.specs.Prelude.{◌≡◌, ℕ, ◌<◌}
use Rattle.model.specs.Schedules.{Study}
use Rattle.theory.specs.Roads.{Wider}

-- b is the study a with another road, on which no speed, wave, jam count or capacity is smaller. The shares are the same: with a larger share
-- less leaves by the off-ramp, and what goes on stays present
pub record BetterRoad (a b : Study) : Type 0 where
  pub road : Wider a.road b.road
  pub start : b.start ≡ a.start
  pub steps : b.steps ≡ a.steps
  pub rows : (k : ℕ) → k < a.steps → b.rows k ≡ a.rows k
  pub lanes : b.lanes ≡ a.lanes
