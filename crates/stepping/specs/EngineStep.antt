-- What a step of the engine on lent columns requires. Assumes nothing.
use Rattle.std.specs.Prelude.{◌≡◌, List, ℕ, ◌+◌, length}
use Rattle.model.specs.declared.Road.{Road}
use Rattle.model.specs.declared.State.{State}
use Rattle.outflows.specs.Columns.{with_demands}
use Rattle.outflows.specs.Rooms.{Rooms}
use Rattle.stepping.specs.StepNeeds.{Steppable}

-- the step may be made on some road with these columns, and the rooms are given
pub record EngineStepLent (n gate : ℕ) (speed share capacity : List ℕ) (s : State) (row room y : List ℕ) : Type 0 where
  pub road : Road
  pub steppable : Steppable (with_demands road n gate speed share capacity) s row
  pub rooms : Rooms (with_demands road n gate speed share capacity) s row room
  pub places : length y ≡ n + 1
