-- An example of a better road: one speed is larger, both runs are accepted, and the total falls from 1 to 0. So `better_accepted` is not empty.
-- Assumes nothing.
use Rattle.std.specs.Prelude.{◌≡◌, refl, List, [], ◌++◌, ℕ, zero, suc, ◌≤◌, ◌<◌}
use Rattle.std.proofs.Common.{le_refl, arith}
use Rattle.model.specs.Numbers.{at, one_of, first_from, first_of, first_fault, sum_of, fill_of, list_of}
use Rattle.model.specs.Flow.{thousandths_of, demand_of, gate_demand_of, supply_of, room_of, onward_of, entering_of, greatest_of, outflow_of}
use Rattle.model.specs.Road.{total_of}
use Rattle.model.specs.Schedules.{road_at, outflows_of, engine_after}
use Rattle.model.specs.Record.{number_of, seconds_size}
use Rattle.model.specs.Limits.{place_ok, row_ok}
use Rattle.model.specs.Flow.{capacity_at, demand_at, most_release_at, share_at, cumulative_at}
use Rattle.model.specs.Move.{moved_to, counted_of}
use Rattle.model.specs.Stepping.{lowest_of, table_fault}
use Rattle.theory.specs.BetterRoad.{BetterRoad}
use Rattle.model.specs.Reading.{reading_by, study_of}
use Rattle.model.specs.Running.{end_of, opening_of, running_of}
use Rattle.model.specs.Demand.{Openable}
use Rattle.model.specs.WorkedRoads.{two, four, header, cell, row, list}
use Rattle.theory.specs.BetterRoadNotEmpty.{single, FasterRoad}

faster : (i : ℕ) → i < 2 → at (study_of (single (two 1 244)) []).road.speed i ≤ at (study_of (single (two 3 232)) []).road.speed i
unfolding single two four header cell row reading_by one_of number_of seconds_size fill_of list_of first_from first_of place_ok row_ok
faster zero l = omega arith
faster (suc zero) l = omega arith
faster (suc (suc i)) l = absurd (omega arith)

same_rows : (k : ℕ) → k < 1 → (study_of (single (two 3 232)) []).rows k ≡ (study_of (single (two 1 244)) []).rows k
unfolding single two four header cell row reading_by one_of number_of seconds_size fill_of list_of first_from first_of place_ok row_ok
same_rows zero l = refl
same_rows (suc k) l = absurd (omega arith)

better : BetterRoad (study_of (single (two 1 244)) []) (study_of (single (two 3 232)) [])
unfolding single two four header cell row reading_by one_of number_of seconds_size fill_of list_of first_from first_of place_ok row_ok capacity_at
better = record {
  road = record {
    alike = record { n = refl; share = λ i l. refl };
    gate = omega arith;
    speed = faster;
    wave = λ i l. le_refl _;
    jam = λ i l. le_refl _;
    capacity = λ i l. le_refl _;
  };
  start = refl;
  steps = refl;
  rows = same_rows;
  lanes = refl;
}

pub faster_road : FasterRoad
unfolding single two four header cell row reading_by one_of number_of seconds_size
    thousandths_of demand_of gate_demand_of supply_of room_of onward_of entering_of greatest_of outflow_of
    sum_of fill_of list_of first_from first_of first_fault place_ok row_ok
    capacity_at demand_at most_release_at share_at cumulative_at moved_to counted_of outflows_of lowest_of
    table_fault road_at engine_after end_of opening_of running_of
faster_road = record {
  first = record { reads = refl; opens = refl };
  other = record { reads = refl; opens = refl };
  pair = better;
  accepts = refl;
  too = refl;
  before = refl;
  after = refl;
}
