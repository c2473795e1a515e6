-- The finer study worked out in numbers: the printed run's road counted ten times finer, and the shares from each of its places on. On a
-- corridor the bound fails if each step's share is rounded by itself. Assumes nothing.
use Rattle.std.specs.Prelude.{◌≡◌, refl, true, false, [], ◌∷◌, ℕ, zero, suc, ◌+◌, ◌*◌, leb}
use Rattle.model.specs.Numbers.{at, sum_of, fill_of, list_of}
use Rattle.model.specs.Flow.{thousandths_of, demand_of, gate_demand_of, supply_of, room_of, onward_of, entering_of, greatest_of, outflow_of}
use Rattle.model.specs.declared.Road.{Road}
use Rattle.model.specs.declared.State.{State}
use Rattle.model.specs.Schedules.{Study, study, road_at, outflows_of, engine_after}
use Rattle.model.specs.Flow.{capacity_at, demand_at, share_at, cumulative_at}
use Rattle.model.specs.Move.{moved_to, counted_of}
use Rattle.theory.specs.Finer.{times_of, scaled, product_from, count_from, reach_of, thousands_of}

-- the printed run's road, start and rows
abbrev road : Road
road = record {
  n = 2;
  version = 1;
  seconds = 0;
  gate_capacity = 2000;
  speed = 500 ∷ 500 ∷ [];
  wave = 250 ∷ 250 ∷ [];
  share = 750 ∷ 0 ∷ [];
  ramp = 0 ∷ 1 ∷ [];
  jam = 8000 ∷ 8000 ∷ [];
  capacity = 2000 ∷ 1000 ∷ [];
}

abbrev start : State
start = record {
  done = 0;
  gate_time = 0;
  road_time = 0;
  ramp_time = 0;
  gate_queue = 3000;
  gate_cumulative = 0;
  held = 2000 ∷ 4000 ∷ [];
  queue = 0 ∷ 1500 ∷ [];
  cumulative = 0 ∷ 0 ∷ [];
}

abbrev printed : Study
printed = study road start 3 (λ k. 1000 ∷ 0 ∷ 0 ∷ 500 ∷ 300 ∷ []) []

pub record WorkedNumbers : Type 0 where
  -- counts are ten times as large; speeds, waves and shares do not change
  jam : (scaled 10 printed).road.jam ≡ 80000 ∷ 80000 ∷ []
  capacity : (scaled 10 printed).road.capacity ≡ 20000 ∷ 10000 ∷ []
  gate : (scaled 10 printed).road.gate_capacity ≡ 20000
  speed : (scaled 10 printed).road.speed ≡ 500 ∷ 500 ∷ []
  share : (scaled 10 printed).road.share ≡ 750 ∷ 0 ∷ []
  held : (scaled 10 printed).start.held ≡ 20000 ∷ 40000 ∷ []
  queue : (scaled 10 printed).start.queue ≡ 0 ∷ 15000 ∷ []
  gate_queue : (scaled 10 printed).start.gate_queue ≡ 30000
  row : (scaled 10 printed).rows 0 ≡ 10000 ∷ 0 ∷ 0 ∷ 5000 ∷ 3000 ∷ []
  steps : (scaled 10 printed).steps ≡ 3
  -- of the gate's outflow 1,000 × 750 millionths reach the end, of cell 1's 750 thousandths, and of cell 2's all
  from_gate : reach_of road 0 ≡ 750000
  from_gate_thousands : thousands_of road 0 ≡ 1000000
  from_first : reach_of road 1 ≡ 750
  from_first_thousands : thousands_of road 1 ≡ 1000
  from_last : reach_of road 2 ≡ 1
  from_last_thousands : thousands_of road 2 ≡ 1

pub worked : WorkedNumbers
unfolding times_of product_from count_from reach_of thousands_of share_at
worked = record {
  jam = refl;
  capacity = refl;
  gate = refl;
  speed = refl;
  share = refl;
  held = refl;
  queue = refl;
  gate_queue = refl;
  row = refl;
  steps = refl;
  from_gate = refl;
  from_gate_thousands = refl;
  from_first = refl;
  from_first_thousands = refl;
  from_last = refl;
  from_last_thousands = refl;
}

-- a corridor in free flow, with speeds 1,000, shares 999 and 4 parts per step at its gate: F of cell i + 1 after i + 1 steps and n more. All that
-- a cell holds leaves it in the next step, so this F is the onward total of the cell before, one step earlier
unfoldable pub corridor : ℕ → ℕ → ℕ → ℕ
corridor K n zero = 4 * K * n
corridor K n (suc i) = onward_of 999 (corridor K n i)

-- cell 6 after 13 steps, counted 1,000 times finer, is within 2 × 13 parts of the study's number. If each step's share were rounded by itself,
-- nothing of the 4 parts per step would reach it
pub corridor_within : leb (corridor 1000 7 5) (1000 * corridor 1 7 5 + 2 * 13 * 1000) ≡ true
unfolding corridor onward_of thousandths_of
corridor_within = refl

-- they differ by more than 2 parts, so the bound must grow with the steps
pub corridor_beyond : leb (corridor 1000 7 5) (1000 * corridor 1 7 5 + 2 * 1000) ≡ false
unfolding corridor onward_of thousandths_of
corridor_beyond = refl

-- the engine's run of such a corridor of three cells has these numbers
abbrev free : Study
free = study
    (record {
      n = 3;
      version = 1;
      seconds = 0;
      gate_capacity = 4;
      speed = 1000 ∷ 1000 ∷ 1000 ∷ [];
      wave = 1000 ∷ 1000 ∷ 1000 ∷ [];
      share = 999 ∷ 999 ∷ 0 ∷ [];
      ramp = 0 ∷ 0 ∷ 0 ∷ [];
      jam = 100 ∷ 100 ∷ 100 ∷ [];
      capacity = 100 ∷ 100 ∷ 100 ∷ [];
    })
    (record {
      done = 0;
      gate_time = 0;
      road_time = 0;
      ramp_time = 0;
      gate_queue = 100;
      gate_cumulative = 0;
      held = 0 ∷ 0 ∷ 0 ∷ [];
      queue = 0 ∷ 0 ∷ 0 ∷ [];
      cumulative = 0 ∷ 0 ∷ 0 ∷ [];
    })
    5 (λ k. 0 ∷ 0 ∷ 0 ∷ 0 ∷ 0 ∷ 0 ∷ 0 ∷ []) []

pub corridor_runs : (at (engine_after free 5).cumulative 0 ≡ corridor 1 4 0)
    × ((at (engine_after free 5).cumulative 1 ≡ corridor 1 3 1) × (at (engine_after free 5).cumulative 2 ≡ corridor 1 2 2))
unfolding corridor thousandths_of demand_of gate_demand_of supply_of room_of onward_of entering_of greatest_of outflow_of sum_of fill_of list_of
    capacity_at demand_at share_at cumulative_at moved_to counted_of outflows_of road_at engine_after
corridor_runs = (refl, (refl, refl))

-- step 0 of the printed run: 934 parts leave cell 1; counted ten times finer it is 9,334, which is 0.6 parts less
pub first_step_lem : (at (engine_after printed 1).cumulative 0 ≡ 934) × (at (engine_after (scaled 10 printed) 1).cumulative 0 ≡ 9334)
unfolding times_of thousandths_of demand_of gate_demand_of supply_of room_of onward_of entering_of greatest_of outflow_of sum_of fill_of list_of
    capacity_at demand_at share_at cumulative_at moved_to counted_of outflows_of road_at engine_after
first_step_lem = (refl, refl)
