-- What the inner functions of a step require. Assumes nothing.
use Rattle.std.specs.Prelude.{◌≡◌, refl, List, ℕ, suc, ◌+◌, ◌-◌, ◌*◌, ◌^◌, ◌≤◌, ◌<◌, length, set}
use Rattle.std.proofs.Common.{sym, ap, ◌∙◌, add-one, arith}
use Rattle.model.specs.Flow.{whole, entering_of}
use Rattle.flow.specs.FlowLaws.{supply_capacity, room_supply}
use Rattle.model.specs.declared.Road.{Road}
use Rattle.model.specs.declared.State.{State}
use Rattle.model.specs.Numbers.{at, fill_of}
use Rattle.model.specs.Road.{most_cells, most_steps, most_rate, total_of}
use Rattle.model.specs.Limits.{most_queue, most_cumulative}
use Rattle.limits.specs.LimitsLaws.{InputOk}
use Rattle.model.specs.Flow.{gate_arrivals, arrivals_at, release_at, supply_at, capacity_at, share_at, cumulative_at, entering_at}
use Rattle.model.specs.Move.{moved_to, moved_of, present_of}
use Rattle.theory.specs.MoveLaws.{moved_more}
use Rattle.model.specs.Schedules.{ReleasesFit, Obeys}
use Rattle.theory.specs.RulesLaws.{Sized, entering_cell, release_there, demand_at_gate, demand_at_cell, demand_rate}

-- moving requires: everything is within the limits, and the row of outflows obeys the rules
pub record Movable (r : Road) (s : State) (row y : List ℕ) : Type 0 where
  pub input : InputOk r s row
  pub sized : Sized r s
  pub places : length y ≡ r.n + 1
  pub obeys : Obeys r s row y

-- the engine's step requires: everything is within the limits, each release fits, and a step is left
pub record Steppable (r : Road) (s : State) (row : List ℕ) : Type 0 where
  pub input : InputOk r s row
  pub sized : Sized r s
  pub released : ReleasesFit r s row
  pub left : s.done < most_steps

-- counting requires: another step and its present fit their machine numbers
pub record Countable (r : Road) (s : State) : Type 0 where
  pub done : s.done < most_steps
  pub total : total_of s < 2 ^ 63
  pub present : present_of r s < 2 ^ 63

-- the loop over the cells has moved the first i of them
pub record MovedCells (r : Road) (s : State) (row y : List ℕ) (t : State) (entering i : ℕ) : Type 0 where
  pub within : i ≤ r.n
  pub enters : entering ≡ entering_at r s y i
  pub moved : t ≡ moved_to r s row y i

pub moved_none : {r : Road} {s : State} {row y : List ℕ} {entering : ℕ} → entering ≡ entering_of whole s.gate_cumulative (at y 0)
    → MovedCells r s row y (record {
      done = s.done;
      gate_time = s.gate_time;
      road_time = s.road_time;
      ramp_time = s.ramp_time;
      gate_queue = s.gate_queue + gate_arrivals row - at y 0;
      gate_cumulative = s.gate_cumulative + at y 0;
      held = s.held;
      queue = s.queue;
      cumulative = s.cumulative;
    }) entering 0
unfolding share_at cumulative_at moved_to fill_of
moved_none e = record { within = omega arith; enters = e; moved = refl }

pub moved_cell : {r : Road} {s : State} {row y : List ℕ} {t : State} {entering i next : ℕ} → MovedCells r s row y t entering i → i < r.n
    → next ≡ entering_of (at r.share i) (at s.cumulative i) (at y (i + 1))
    → MovedCells r s row y (record {
      done = t.done;
      gate_time = t.gate_time;
      road_time = t.road_time;
      ramp_time = t.ramp_time;
      gate_queue = t.gate_queue;
      gate_cumulative = t.gate_cumulative;
      held = set t.held i (at s.held i + entering + release_at row i - at y (i + 1));
      queue = set t.queue i (at s.queue i + arrivals_at row i - release_at row i);
      cumulative = set t.cumulative i (at s.cumulative i + at y (i + 1));
    }) next (i + 1)
moved_cell {r} {s} {row} {y} {t} {entering} {i} h l e = record {
  within = omega arith;
  enters = e ∙ sym (entering_cell r s y i);
  moved = moved_more r s row y i t entering h.moved h.enters;
}

pub moved_end : {r : Road} {s : State} {row y : List ℕ} {t : State} {entering i : ℕ} → MovedCells r s row y t entering i → r.n ≤ i
    → t ≡ moved_of r s row y
moved_end {r} {s} {row} {y} {i = i} h l = let e : i ≡ r.n = omega (arith, h.within) in h.moved ∙ ap (moved_to r s row y) e

-- the facts about the numbers of a turn of that loop
pub record Turn (r : Road) (s : State) (row y : List ℕ) (i entering : ℕ) : Type 0 where
  pub cells : r.n ≤ most_cells
  pub numbers : length row ≡ 1 + 2 * r.n
  pub places : length y ≡ r.n + 1
  pub enters : entering ≤ most_rate
  pub release : release_at row i ≤ most_rate
  pub arrivals : arrivals_at row i ≤ most_rate
  pub held : at s.held i ≤ most_rate
  pub queue : at s.queue i ≤ most_queue most_steps
  pub cumulative : at s.cumulative i ≤ most_cumulative most_steps
  pub waits : release_at row i ≤ at s.queue i + arrivals_at row i
  pub leaves : at y (i + 1) ≤ at s.held i

pub turn : {r : Road} {s : State} {row y : List ℕ} {t : State} {entering i : ℕ} → Movable r s row y → MovedCells r s row y t entering i → i < r.n
    → Turn r s row y i entering
unfolding capacity_at
turn {r} {s} {row} {y} {i = i} m h l =
    let ok = m.input in
    let leaves : at y (i + 1) ≤ at s.held i = rw add-one (omega (arith, m.obeys.demand (suc i) l, demand_at_cell r ok.road s i l)) in
    record {
      cells = ok.road.cells;
      numbers = ok.row.numbers;
      places = m.places;
      enters = omega (
        arith,
        h.enters,
        m.obeys.enters i l,
        room_supply (supply_at r s i) (release_at row i),
        supply_capacity (at r.wave i) (at r.capacity i) (at r.jam i) (at s.held i),
        ok.road.capacity i l,
      );
      release = ok.row.release i l;
      arrivals = ok.row.arrivals i l;
      held = omega (arith, ok.state.held i l, ok.road.jam i l);
      queue = omega (arith, ok.state.queue i l, ok.state.done);
      cumulative = omega (arith, ok.state.cumulative i l, ok.state.done);
      waits = omega (arith, m.obeys.released.queue i l, release_there s row i);
      leaves = leaves;
    }

-- the facts about the numbers of the gate's move
pub record Gate (s : State) (row y : List ℕ) : Type 0 where
  pub there : at y 0 ≤ s.gate_queue
  pub queue : s.gate_queue ≤ most_queue most_steps
  pub arrivals : gate_arrivals row ≤ most_rate
  pub cumulative : s.gate_cumulative ≤ most_cumulative most_steps
  pub outflow : at y 0 ≤ most_rate

pub gate : {r : Road} {s : State} {row y : List ℕ} → Movable r s row y → Gate s row y
unfolding cumulative_at
gate {r} {s} m =
    let ok = m.input in
    record {
      there = omega (arith, m.obeys.demand 0 (omega arith), demand_at_gate r s);
      queue = omega (arith, ok.state.gate_queue, ok.state.done);
      arrivals = ok.row.gate;
      cumulative = omega (arith, ok.state.gate_cumulative, ok.state.done);
      outflow = omega (arith, m.obeys.demand 0 (omega arith), demand_rate r ok.road s 0 (omega arith));
    }
