-- docs/MODEL.md, 'Demand 3: the promise about every schedule': one statement about whole tables, up to every step that both reach. Assumes nothing.
use Rattle.std.specs.Prelude.{◌≡◌, true, false, List, ℕ, ◌+◌, ◌≤◌, ◌<◌, length, take}
use Rattle.model.specs.declared.State.{State}
use Rattle.model.specs.declared.Road.{Road}
use Rattle.model.specs.Numbers.{at}
use Rattle.model.specs.Road.{total_of}
use Rattle.model.specs.Schedules.{Study, road_at, table_size, Greatest, ObeysUpTo, proposed_at, scheduled_at}
use Rattle.model.specs.Weights.{Falling, weighted_total_of_schedule}
use Rattle.model.specs.Refusals.{began}
use Rattle.model.specs.Reading.{reading_of, study_of}
use Rattle.model.specs.Running.{EndAnswer, lanes_fault, steps_made}
use Rattle.model.specs.Judging.{judging_of}

-- s is ahead of t: at the gate and at every cell, t's cumulative outflow is at most s's; and t's total is at least s's.
-- The releases are given, so ramp times are equal. A plan that holds vehicles back adds to the total only at the gate and on the road
pub record Ahead (r : Road) (s t : State) : Type 0 where
  pub gate : t.gate_cumulative ≤ s.gate_cumulative
  pub cell : (i : ℕ) → i < r.n → at t.cumulative i ≤ at s.cumulative i
  pub total : total_of s ≤ total_of t
  pub ramp_time : t.ramp_time ≡ s.ramp_time
  pub gate_road : s.gate_time + s.road_time ≤ t.gate_time + t.road_time

-- a schedule reaches k steps: it obeys the rules in its own states in each of them; its later rows may be anything
pub record Reaches (a : Study) (zs : List ℕ) (k : ℕ) : Type 0 where
  pub within : k ≤ a.steps
  pub obeys : ObeysUpTo a (proposed_at a zs) k

-- row k of a table holds the greatest outflows in the table's own state
abbrev pub GreatestIn : Study → List ℕ → ℕ → Type 0
GreatestIn a zs k = Greatest (road_at a k) (scheduled_at a zs k) (a.rows k) (proposed_at a zs k)

module _ (bytes lanes : List ℕ) where
  -- the study of the record under the table of lanes
  abbrev a : Study
  a = study_of bytes lanes

  -- what is promised about running's answer e and the list `out` that it leaves, for every schedule zs. Both sides take road, start, arrivals
  -- and releases from one reading of the record, and closures from one table of lanes. Running writes the rows of the steps made
  pub record Demand (out : List ℕ) (e : EndAnswer) : Type 0 where
    -- each row of the run holds the greatest outflows in the run's own states
    pub greatest : (k : ℕ) → k < steps_made a e → GreatestIn a out k
    -- after every step that both reach, the engine's cumulative outflows are at least the schedule's, and its total is at most the schedule's.
    -- The ramp times are equal, so the engine's gate and road time together are at most the schedule's
    pub ahead : (zs : List ℕ) (k : ℕ) → k ≤ steps_made a e → Reaches a zs k
        → Ahead a.road (scheduled_at a out k) (scheduled_at a zs k)
    -- if running and judging end after equally many steps, the same holds for the states that they return
    pub returned : (zs : List ℕ) → e.state.done ≡ (judging_of bytes lanes zs).state.done
        → Ahead a.road e.state (judging_of bytes lanes zs).state

  -- what the words of `Demand` mean: the rows written, taken as a schedule; the steps made; reaching; the states returned
  pub record Grounds (out : List ℕ) (e : EndAnswer) : Type 0 where
    -- the rows written, taken as a schedule, obey the rules up to every step written
    pub own : (k : ℕ) → k ≤ steps_made a e → Reaches a out k
    -- if the run began, they give the state that running returns, and the road returned is the record's
    pub own_state : began e.number ≡ true → e.state ≡ scheduled_at a out (steps_made a e)
    pub own_road : began e.number ≡ true → e.road ≡ a.road
    -- if running was not refused, judging accepts them with the same answer
    pub own_judged : e.number ≡ 0 → judging_of bytes lanes (take (table_size a) out) ≡ e
    -- running makes all T steps, or those before its refusal; none if it did not begin
    pub all_rows : e.number ≡ 0 → steps_made a e ≡ a.steps
    pub no_rows : began e.number ≡ false → steps_made a e ≡ 0
    -- a schedule of the right length reaches exactly the steps that judging makes: those before its refusal, or all
    pub reaches : (zs : List ℕ) → length zs ≡ table_size a → (k : ℕ) → Reaches a zs k
        → k ≤ steps_made a (judging_of bytes lanes zs)
    pub reached : (zs : List ℕ) → length zs ≡ table_size a → Reaches a zs (steps_made a (judging_of bytes lanes zs))
    -- judging returns the schedule's own state after the steps made, with the record's road
    pub judged_state : (zs : List ℕ) → length zs ≡ table_size a
        → (judging_of bytes lanes zs).state ≡ scheduled_at a zs (steps_made a (judging_of bytes lanes zs))
    pub judged_road : (zs : List ℕ) → length zs ≡ table_size a → (judging_of bytes lanes zs).road ≡ a.road

  -- the same with weights w of places, gate first, and u of ramps: what is promised about the weighted total of running's answer e.
  -- The weights must fall from the gate on: in `WorkedWeights` they rise, and a schedule beats the engine
  pub record WeightedDemand (w u : ℕ → ℕ) (out : List ℕ) (e : EndAnswer) (total : ℕ) : Type 0 where
    -- the total is that of the rows written, taken as a schedule
    pub own : total ≡ weighted_total_of_schedule w u a out (steps_made a e)
    -- if no place weighs more than the one before it, the engine's weighted total after every step that both reach is at most the schedule's.
    -- Ramp queues may have any weights, because they are equal on both sides
    pub best : Falling w a.road.n → (zs : List ℕ) (k : ℕ) → k ≤ steps_made a e → Reaches a zs k
        → weighted_total_of_schedule w u a out k ≤ weighted_total_of_schedule w u a zs k
    -- if running and judging end after equally many steps, the total returned is at most that of the steps judged
    pub returned : Falling w a.road.n → (zs : List ℕ) → e.state.done ≡ (judging_of bytes lanes zs).state.done
        → total ≤ weighted_total_of_schedule w u a zs (steps_made a (judging_of bytes lanes zs))

  -- no refusal of the record (those of reading) or of its table of lanes (17, 18) applies
  pub record Openable : Type 0 where
    pub reads : (reading_of bytes).number ≡ 0
    pub opens : (lanes_fault a).number ≡ 0

  -- both: what `run` promises about a record and a table to which no such refusal applies
  pub record DemandAndGrounds (out : List ℕ) (e : EndAnswer) : Type 0 where
    pub demand : Demand out e
    pub grounds : Grounds out e

-- a schedule obeys the rules of a record under a table of lanes: no refusal of either applies, it has T × (n + 1) numbers, and it obeys in all T steps
pub record ObeysAll (bytes lanes zs : List ℕ) : Type 0 where
  pub openable : Openable bytes lanes
  pub right : length zs ≡ table_size (study_of bytes lanes)
  pub reaches : Reaches (study_of bytes lanes) zs (study_of bytes lanes).steps

-- the answer e to a schedule accepts it exactly if the schedule obeys
pub record AcceptsExactly (bytes lanes zs : List ℕ) (e : EndAnswer) : Type 0 where
  pub accepted : e.number ≡ 0 → ObeysAll bytes lanes zs
  pub obeys : ObeysAll bytes lanes zs → e.number ≡ 0
