-- docs/MODEL.md, 'One step': the flow rules of one place, in whole parts (thousandths of a vehicle), and what they take of each place.
-- Assumes nothing.
use Rattle.std.specs.Prelude.{Bool, cond, List, ℕ, zero, suc, ◌+◌, ◌-◌, ◌*◌, ◌/◌, min, leb}
use Rattle.model.specs.declared.State.{State}
use Rattle.model.specs.declared.Road.{Road}
use Rattle.model.specs.Numbers.{at}

-- speed, wave and share are in thousandths: 1,000 of them are the whole
abbrev pub whole : ℕ
whole = 1000

-- s thousandths of x, rounded down
unfoldable pub thousandths_of : ℕ → ℕ → ℕ
thousandths_of s x = s * x / whole

-- demand of a cell: the smaller of C and v × held ÷ 1,000 rounded down
unfoldable pub demand_of : ℕ → ℕ → ℕ → ℕ
demand_of speed capacity held = min capacity (thousandths_of speed held)

-- demand of the gate: the smaller of its capacity and its queue
unfoldable pub gate_demand_of : ℕ → ℕ → ℕ
gate_demand_of capacity queue = min capacity queue

-- supply of a cell: the smaller of C and w × (J − held) ÷ 1,000 rounded down; 0 if held is above J
unfoldable pub supply_of : ℕ → ℕ → ℕ → ℕ → ℕ
supply_of wave capacity jam held = min capacity (thousandths_of wave (jam - held))

-- the most that a ramp may release: its queue and the step's arrivals there
abbrev pub most_release_of : ℕ → ℕ → ℕ
most_release_of queue arrivals = queue + arrivals

-- a cell's supply less its release; 0 if the release is above the supply
unfoldable pub room_of : ℕ → ℕ → ℕ
room_of supply release = supply - release

-- the onward total of a place: b × F ÷ 1,000 rounded down
unfoldable pub onward_of : ℕ → ℕ → ℕ
onward_of share cumulative = thousandths_of share cumulative

-- what enters the next cell in a step: the growth of that total, never below 0
unfoldable pub entering_of : ℕ → ℕ → ℕ → ℕ
entering_of share cumulative outflow = onward_of share (cumulative + outflow) - onward_of share cumulative

-- the greatest number up to d that passes a test; 0 if no number from 1 to d does
unfoldable pub greatest_of : (ℕ → Bool) → ℕ → ℕ
greatest_of test zero = zero
greatest_of test (suc d) = cond (test (suc d)) (suc d) (greatest_of test d)

-- the outflow of a place: the greatest whole number that is at most its demand and lets no more into the next cell than its room
unfoldable pub outflow_of : ℕ → ℕ → ℕ → ℕ → ℕ
outflow_of share cumulative room demand = greatest_of (λ y. leb (entering_of share cumulative y) room) demand

-- Place by place: place 0 is the gate and place i + 1 the cell at i of the arrays, so the cell at p is the one after place p.

-- a row's numbers in the record's order: gate arrivals; then for each cell its ramp arrivals and its release
abbrev pub gate_arrivals : List ℕ → ℕ
gate_arrivals row = at row 0

abbrev pub arrivals_at : List ℕ → ℕ → ℕ
arrivals_at row i = at row (2 * i + 1)

abbrev pub release_at : List ℕ → ℕ → ℕ
release_at row i = at row (2 * i + 2)

-- the capacity of the cell at i in a step
unfoldable pub capacity_at : Road → ℕ → ℕ
capacity_at r i = at r.capacity i

-- the demand of a place
unfoldable pub demand_at : Road → State → ℕ → ℕ
demand_at r s zero = gate_demand_of r.gate_capacity s.gate_queue
demand_at r s (suc i) = demand_of (at r.speed i) (capacity_at r i) (at s.held i)

-- the supply of the cell at i
abbrev pub supply_at : Road → State → ℕ → ℕ
supply_at r s i = supply_of (at r.wave i) (capacity_at r i) (at r.jam i) (at s.held i)

-- the most that the release at the cell at i may be: the ramp's queue and this step's arrivals there
unfoldable pub most_release_at : State → List ℕ → ℕ → ℕ
most_release_at s row i = most_release_of (at s.queue i) (arrivals_at row i)

-- the supply of the cell at i less its release
abbrev pub room_at : Road → State → List ℕ → ℕ → ℕ
room_at r s row i = room_of (supply_at r s i) (release_at row i)

-- the onward share of a place; the gate's is 1,000
unfoldable pub share_at : Road → ℕ → ℕ
share_at r zero = whole
share_at r (suc i) = at r.share i

-- F, the cumulative outflow of a place since step 0
unfoldable pub cumulative_at : State → ℕ → ℕ
cumulative_at s zero = s.gate_cumulative
cumulative_at s (suc i) = at s.cumulative i

-- what enters the next cell from place p with its outflow in y, a row of outflows, gate first
abbrev pub entering_at : Road → State → List ℕ → ℕ → ℕ
entering_at r s y p = entering_of (share_at r p) (cumulative_at s p) (at y p)

-- the greatest outflow of a place before the last
abbrev pub outflow_at : Road → State → List ℕ → ℕ → ℕ
outflow_at r s row p = outflow_of (share_at r p) (cumulative_at s p) (room_at r s row p) (demand_at r s p)
