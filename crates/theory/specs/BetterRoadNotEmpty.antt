-- An example of a better road: one speed is larger, both runs are accepted, and the total falls from 1 to 0. So `better_accepted` is not empty.
-- Assumes nothing.
use Rattle.std.specs.Prelude.{◌≡◌, refl, List, [], ◌++◌, ℕ, zero, suc, ◌≤◌, ◌<◌}
use Rattle.std.proofs.Common.{le_refl, arith}
use Rattle.model.specs.Numbers.{at, one_of, first_from, first_of, first_fault, sum_of, fill_of, list_of}
use Rattle.model.specs.Flow.{thousandths_of, demand_of, gate_demand_of, supply_of, room_of, onward_of, entering_of, greatest_of, outflow_of}
use Rattle.model.specs.Road.{total_of}
use Rattle.model.specs.Schedules.{road_at, outflows_of, engine_after}
use Rattle.model.specs.Record.{number_of, seconds_size}
use Rattle.model.specs.Limits.{place_ok, row_ok}
use Rattle.model.specs.Flow.{capacity_at, demand_at, most_release_at, share_at, cumulative_at}
use Rattle.model.specs.Move.{moved_to, counted_of}
use Rattle.model.specs.Stepping.{lowest_of, table_fault}
use Rattle.theory.specs.BetterRoad.{BetterRoad}
use Rattle.model.specs.Reading.{reading_by, study_of}
use Rattle.model.specs.Running.{end_of, opening_of, running_of}
use Rattle.model.specs.Demand.{Openable}
use Rattle.model.specs.WorkedRoads.{two, four, header, cell, row, list}

-- one part in cell 1, with share 0 and the speed given: with speed 500 it is still there after the one step, with 1000 it has left
unfoldable pub single : List ℕ → List ℕ
single speed = header 80 1 ++ (cell speed (two 0 0) 0 1 0 ++ (cell (two 0 0) (two 0 0) 0 0 0 ++ row 0))

-- speed 500, and speed 1000
pub record FasterRoad : Type 0 where
  pub first : Openable (single (two 1 244)) []
  pub other : Openable (single (two 3 232)) []
  pub pair : BetterRoad (study_of (single (two 1 244)) []) (study_of (single (two 3 232)) [])
  pub accepts : (running_of (single (two 1 244)) [] list).number ≡ 0
  pub too : (running_of (single (two 3 232)) [] list).number ≡ 0
  pub before : total_of (running_of (single (two 1 244)) [] list).state ≡ 1
  pub after : total_of (running_of (single (two 3 232)) [] list).state ≡ 0
