-- docs/MODEL.md, 'The road and its units': the limits, and the all-zero road and state. Assumes nothing.
use Rattle.std.specs.Prelude.{List, ℕ, ◌+◌, replicate}
use Rattle.model.specs.declared.State.{State}
use Rattle.model.specs.declared.Start.{Start}
use Rattle.model.specs.declared.Refusal.{Refusal}
use Rattle.model.specs.declared.Ended.{Ended}
use Rattle.model.specs.declared.Road.{Road}

-- the limits, which are the numbers of `Road`'s constants: cells, steps and bytes
abbrev pub most_cells : ℕ
most_cells = 64

abbrev pub most_steps : ℕ
most_steps = 1440

abbrev pub most_bytes : ℕ
most_bytes = 65536

-- the limit of a rate and of a jam count
abbrev pub most_rate : ℕ
most_rate = 1000000

-- the limit of a starting queue
abbrev pub most_start : ℕ
most_start = 1000000000

-- the limit of the step's seconds
abbrev pub most_seconds : ℕ
most_seconds = 900

-- the limit of the ramps that share a street
abbrev pub most_ramps : ℕ
most_ramps = 8

-- the limit of the total, for each step done
abbrev pub most_present : ℕ
most_present = 200000000000

-- the greatest number of 64 bits
abbrev pub most_long : ℕ
most_long = 18446744073709551615

-- an array with an entry for each of 64 cells: all 0
abbrev pub zeros : List ℕ
zeros = replicate most_cells 0

-- the all-zero road, and the all-zero state
abbrev pub empty_road : Road
empty_road = record {
  n = 0;
  version = 0;
  seconds = 0;
  gate_capacity = 0;
  speed = zeros;
  wave = zeros;
  share = zeros;
  ramp = zeros;
  jam = zeros;
  capacity = zeros;
}

abbrev pub empty_state : State
empty_state = record {
  done = 0;
  gate_time = 0;
  road_time = 0;
  ramp_time = 0;
  gate_queue = 0;
  gate_cumulative = 0;
  held = zeros;
  queue = zeros;
  cumulative = zeros;
}

-- total time spent: gate, road and ramp time together
abbrev pub total_of : State → ℕ
total_of s = s.gate_time + s.road_time + s.ramp_time

-- the state before step 0: its queues and held counts are the start's; every F, every time and the steps done are 0
abbrev pub start_state : Start → State
start_state start = record {
  done = 0;
  gate_time = 0;
  road_time = 0;
  ramp_time = 0;
  gate_queue = start.gate_queue;
  gate_cumulative = 0;
  held = start.held;
  queue = start.queue;
  cumulative = zeros;
}

-- the start of a study that begins with this state
abbrev pub start_in : State → Start
start_in s = record { gate_queue = s.gate_queue; held = s.held; queue = s.queue }

-- an answer of running or judging: a refusal with its step, place, road and state
abbrev pub ended_at : Refusal → ℕ → ℕ → Road → State → Ended
ended_at refusal step place road state = record { refusal = refusal; step = step; place = place; road = road; state = state }

-- a refusal that names no state gives an all-zero road and state
abbrev pub without_state : Refusal → ℕ → Ended
without_state refusal place = ended_at refusal 0 place empty_road empty_state
