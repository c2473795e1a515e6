-- Theorem: going on after k steps is the whole. Two studies have the same road, rows and lanes, and one begins where the other is after k steps.
-- Then each state, fault, end and row of outflows is that of the other, k steps later. Assumes nothing.
use Rattle.std.specs.Prelude.{◌≡◌}
use Prim.Native.Nat.{ℕ, ◌+◌, ◌<◌}
use Rattle.model.specs.Schedules.{Study, road_at}
use Rattle.model.specs.Running.{EndAnswer, steps_made}

-- b is the rest of a after k steps
pub record Rest (a b : Study) (k : ℕ) : Type 0 where
  pub road : b.road ≡ a.road
  pub steps : k + b.steps ≡ a.steps
  pub roads : (j : ℕ) → j < b.steps → road_at b j ≡ road_at a (k + j)
  pub rows : (j : ℕ) → j < b.steps → b.rows j ≡ a.rows (k + j)

-- the whole ends as its rest does; steps are counted from the start of the whole
pub record EndsAs (a b : Study) (k : ℕ) (e f : EndAnswer) : Type 0 where
  pub number : e.number ≡ f.number
  pub made : steps_made a e ≡ k + steps_made b f
  pub place : e.place ≡ f.place
  pub road : e.road ≡ f.road
  pub state : e.state ≡ f.state
