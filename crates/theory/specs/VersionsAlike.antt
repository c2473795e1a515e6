-- Theorem: records that differ only in the version and the seconds are run and judged alike. Assumes nothing.
use Rattle.std.specs.Prelude.{◌≡◌}
use Rattle.model.specs.Running.{EndAnswer}

-- answers that differ only in their roads: the same refusal, step and place, and the same state, with its times and cumulative outflows
pub record EndsAlike (d e : EndAnswer) : Type 0 where
  pub number : e.number ≡ d.number
  pub step : e.step ≡ d.step
  pub place : e.place ≡ d.place
  pub state : e.state ≡ d.state
