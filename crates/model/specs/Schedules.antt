-- docs/MODEL.md, 'Schedules': a study as one whole, the rules that a schedule obeys, and its states and the engine's, step by step. Assumes nothing.
use Rattle.std.specs.Prelude.{◌≡◌, cond, List, [], ◌∷◌, ◌++◌, ℕ, ◌+◌, ◌*◌, ◌≤◌, ◌<◌, zero, suc, eqb, length}
use Rattle.model.specs.declared.State.{State}
use Rattle.model.specs.declared.Road.{Road}
use Rattle.model.specs.Numbers.{list_of, at, row_at}
use Rattle.model.specs.Flow.{entering_of}
use Rattle.model.specs.Flow.{release_at, most_release_at, supply_at, room_at, demand_at, share_at, cumulative_at, entering_at, outflow_at}
use Rattle.model.specs.Move.{next_of}
use Rattle.model.specs.Lanes.{open_capacities, built_in, open_in}

-- what a record and a table of lanes give together: the road, the start, T, the rows of numbers and the lanes
pub record Study : Type 0 where
  pub road : Road
  -- the state before step 0
  pub start : State
  -- T
  pub steps : ℕ
  -- the numbers of each step: gate arrivals; then for each cell its ramp arrivals and its release
  pub rows : ℕ → List ℕ
  -- the table of lanes: first those built, then one row of those open per step; empty if all are open
  pub lanes : List ℕ

abbrev pub study : Road → State → ℕ → (ℕ → List ℕ) → List ℕ → Study
study road start steps rows lanes = record { road = road; start = start; steps = steps; rows = rows; lanes = lanes }

-- a road with other capacities
abbrev pub with_capacity : Road → List ℕ → Road
with_capacity r capacity = record {
  n = r.n;
  version = r.version;
  seconds = r.seconds;
  gate_capacity = r.gate_capacity;
  speed = r.speed;
  wave = r.wave;
  share = r.share;
  ramp = r.ramp;
  jam = r.jam;
  capacity = capacity;
}

-- the road of a step with these lanes built and open: a cell's capacity is C × open lanes ÷ lanes built, and the rest is the road's
abbrev pub open_road : Road → List ℕ → List ℕ → Road
open_road r built usable = with_capacity r (open_capacities r.capacity built usable r.n)

-- the road of step k; an empty table means that all lanes are open
unfoldable pub road_at : Study → ℕ → Road
road_at a k =
    cond (eqb (length a.lanes) 0) a.road
    (open_road a.road (built_in a.lanes a.road.n) (open_in a.lanes a.road.n k))

-- the number of places of the road, gate included
abbrev pub places : Study → ℕ
places a = a.road.n + 1

-- how many numbers a table of outflows has: T × (n + 1)
abbrev pub table_size : Study → ℕ
table_size a = a.steps * places a

-- each release fits: it is at most queue plus arrivals, and at most the supply of its cell
pub record ReleasesFit (r : Road) (s : State) (row : List ℕ) : Type 0 where
  pub queue : (i : ℕ) → i < r.n → release_at row i ≤ most_release_at s row i
  pub supply : (i : ℕ) → i < r.n → release_at row i ≤ supply_at r s i

-- the row y obeys the rules: each release fits, each outflow is at most the demand, and what enters each cell from upstream is at most its room
pub record Obeys (r : Road) (s : State) (row y : List ℕ) : Type 0 where
  pub released : ReleasesFit r s row
  pub demand : (p : ℕ) → p ≤ r.n → at y p ≤ demand_at r s p
  pub enters : (p : ℕ) → p < r.n → entering_at r s y p ≤ room_at r s row p

-- y holds the greatest outflows in state s: every number that is at most the demand and fits the room is at most y's; the last cell's is its demand
pub record Greatest (r : Road) (s : State) (row y : List ℕ) : Type 0 where
  pub demand : (p : ℕ) → p ≤ r.n → at y p ≤ demand_at r s p
  pub fits : (p : ℕ) → p < r.n → entering_at r s y p ≤ room_at r s row p
  pub most : (p : ℕ) → p < r.n → (z : ℕ) → z ≤ demand_at r s p → entering_of (share_at r p) (cumulative_at s p) z ≤ room_at r s row p → z ≤ at y p
  pub last : at y r.n ≡ demand_at r s r.n

-- the engine's outflows: the greatest at each place; at the last cell the demand
unfoldable pub outflows_of : Road → State → List ℕ → List ℕ
outflows_of r s row = list_of (outflow_at r s row) r.n ++ (demand_at r s r.n ∷ [])

-- a schedule's state after k steps: ys k are its outflows in step k, gate first
unfoldable pub schedule_after : Study → (ℕ → List ℕ) → ℕ → State
schedule_after a ys zero = a.start
schedule_after a ys (suc k) = next_of (road_at a k) (schedule_after a ys k) (a.rows k) (ys k)

-- the engine's state after k steps: each step has the greatest outflows in the run's own state
unfoldable pub engine_after : Study → ℕ → State
engine_after a zero = a.start
engine_after a (suc k) = next_of (road_at a k) (engine_after a k) (a.rows k) (outflows_of (road_at a k) (engine_after a k) (a.rows k))

-- the engine's outflows in step k
abbrev pub outflows_at : Study → ℕ → List ℕ
outflows_at a k = outflows_of (road_at a k) (engine_after a k) (a.rows k)

-- a schedule obeys the rules in its own states in the first k steps
abbrev pub ObeysUpTo : Study → (ℕ → List ℕ) → ℕ → Type 0
ObeysUpTo a ys k = (j : ℕ) → j < k → Obeys (road_at a j) (schedule_after a ys j) (a.rows j) (ys j)

-- a schedule is a table of outflows, gate first, one row per step: this is row k
abbrev pub proposed_at : Study → List ℕ → ℕ → List ℕ
proposed_at a zs k = row_at zs (places a) k

-- a schedule's own state after k steps
abbrev pub scheduled_at : Study → List ℕ → ℕ → State
scheduled_at a zs k = schedule_after a (proposed_at a zs) k
