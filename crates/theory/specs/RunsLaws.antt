-- Whole runs: the limits hold, nothing is lost, and no schedule is ahead of the engine after any step that both reach. Assumes nothing.
use Prim.Native.Nat.{ℕ, zero, suc, ◌+◌, ◌<◌, ◌≤◌}
use Rattle.std.specs.Prelude.{◌≡◌, List}
use Rattle.model.specs.Schedules.{Study, road_at, ReleasesFit, engine_after}
use Rattle.theory.specs.Conservation.{arrivals_of}
use Rattle.model.specs.declared.Road.{Road}
use Rattle.model.specs.declared.State.{State}
use Rattle.model.specs.Road.{most_steps}
use Rattle.limits.specs.LimitsLaws.{RoadOk, StateOk, RowOk}
use Rattle.theory.specs.RulesLaws.{Sized}
use Rattle.theory.specs.Roads.{ComparedRoads, StepRoad}

-- each release fits in the first k steps of the engine's run
abbrev pub ReleasesFitUpTo : Study → ℕ → Type 0
ReleasesFitUpTo a k = (j : ℕ) → j < k → ReleasesFit (road_at a j) (engine_after a j) (a.rows j)

-- all arrivals of the first k steps
unfoldable pub arrivals_to : Study → ℕ → ℕ
arrivals_to a zero = 0
arrivals_to a (suc k) = arrivals_to a k + arrivals_of a.road (a.rows k)

-- the limits of a study: for its road in every step, for its start, which may have steps done, and for its T rows
pub record StudyOk (a : Study) : Type 0 where
  pub road : RoadOk a.road
  pub roads : (k : ℕ) → StepRoad a.road (road_at a k)
  pub start : StateOk a.road a.start
  pub sized : Sized a.road a.start
  pub steps : a.start.done + a.steps ≤ most_steps
  pub row : (k : ℕ) → k < a.steps → RowOk a.road (a.rows k)

-- a state after k steps that obeyed the rules is within the limits
pub record ReachedState (a : Study) (u : State) (k : ℕ) : Type 0 where
  pub state : StateOk a.road u
  pub sized : Sized a.road u
  pub done : u.done ≡ a.start.done + k

-- one step of a study: q is its road, u the state before it and `row` its numbers
pub record StepOf (a : Study) (q : Road) (u : State) (row : List ℕ) (k : ℕ) : Type 0 where
  pub ok : StudyOk a
  pub left : k < a.steps
  pub road : q ≡ road_at a k
  pub numbers : row ≡ a.rows k
  pub reached : ReachedState a u k

-- two studies with the same start, roads and rows in their first k steps
pub record SharedSteps (a b : Study) (k : ℕ) : Type 0 where
  pub start : a.start ≡ b.start
  pub roads : (j : ℕ) → j < k → road_at a j ≡ road_at b j
  pub rows : (j : ℕ) → j < k → a.rows j ≡ b.rows j

-- two studies with the same start and rows: one for the rival, and one, nowhere worse, for the engine
pub record Rivals (rival engine : Study) (k : ℕ) : Type 0 where
  pub sized : Sized rival.road rival.start
  pub start : engine.start ≡ rival.start
  pub rows : (j : ℕ) → j < k → engine.rows j ≡ rival.rows j
  pub roads : (j : ℕ) → j < k → ComparedRoads rival.road (road_at rival j) (road_at engine j)
