-- docs/MODEL.md, 'One step': every place moved by a row of outflows, from the state before the step; present, the three times and exits. Assumes nothing.
use Rattle.std.specs.Prelude.{List, ℕ, ◌+◌, ◌-◌, take}
use Rattle.model.specs.declared.State.{State}
use Rattle.model.specs.declared.Road.{Road}
use Rattle.model.specs.Numbers.{sum_of, fill_of, list_of, at}
use Rattle.model.specs.Flow.{onward_of}
use Rattle.model.specs.Flow.{gate_arrivals, arrivals_at, release_at, entering_at}

-- held becomes held + entering + release − outflow; 0 if the outflow is above these three together, which no demand within the limits is
abbrev pub held_of : Road → State → List ℕ → List ℕ → ℕ → ℕ
held_of r s row y i = at s.held i + entering_at r s y i + release_at row i - at y (i + 1)

-- a ramp's queue becomes queue + arrivals − release; 0 if the release is above both together, which is refusal 9
abbrev pub queue_of : State → List ℕ → ℕ → ℕ
queue_of s row i = at s.queue i + arrivals_at row i - release_at row i

-- F grows by the outflow
abbrev pub cumulative_of : State → List ℕ → ℕ → ℕ
cumulative_of s y i = at s.cumulative i + at y (i + 1)

-- the gate and the first n cells moved. The gate's queue becomes queue + arrivals − outflow; 0 if the outflow is above both, which no demand within the limits is
unfoldable pub moved_to : Road → State → List ℕ → List ℕ → ℕ → State
moved_to r s row y n = record {
  done = s.done;
  gate_time = s.gate_time;
  road_time = s.road_time;
  ramp_time = s.ramp_time;
  gate_queue = s.gate_queue + gate_arrivals row - at y 0;
  gate_cumulative = s.gate_cumulative + at y 0;
  held = fill_of (held_of r s row y) n s.held;
  queue = fill_of (queue_of s row) n s.queue;
  cumulative = fill_of (cumulative_of s y) n s.cumulative;
}

-- all places moved; entries past cell n are unchanged
abbrev pub moved_of : Road → State → List ℕ → List ℕ → State
moved_of r s row y = moved_to r s row y r.n

-- the sum of all held counts, and of all ramp queues
abbrev pub held_sum : Road → State → ℕ
held_sum r s = sum_of (take r.n s.held)

abbrev pub queue_sum : Road → State → ℕ
queue_sum r s = sum_of (take r.n s.queue)

-- present: the gate queue, all held counts and all ramp queues together
abbrev pub present_of : Road → State → ℕ
present_of r s = s.gate_queue + held_sum r s + queue_sum r s

-- a step is counted: gate time grows by the gate queue after it, road time by all held counts, ramp time by all ramp queues
unfoldable pub counted_of : Road → State → State
counted_of r s = record {
  done = s.done + 1;
  gate_time = s.gate_time + s.gate_queue;
  road_time = s.road_time + held_sum r s;
  ramp_time = s.ramp_time + queue_sum r s;
  gate_queue = s.gate_queue;
  gate_cumulative = s.gate_cumulative;
  held = s.held;
  queue = s.queue;
  cumulative = s.cumulative;
}

-- the state after a step with the outflows y
abbrev pub next_of : Road → State → List ℕ → List ℕ → State
next_of r s row y = counted_of r (moved_of r s row y)

-- exits: the sum over the cells of F less the onward total; 0 at a cell whose share is above 1,000, which reading refuses
abbrev pub exit_at : Road → State → ℕ → ℕ
exit_at r s i = at s.cumulative i - onward_of (at r.share i) (at s.cumulative i)

unfoldable pub exits_of : Road → State → ℕ
exits_of r s = sum_of (list_of (exit_at r s) r.n)
