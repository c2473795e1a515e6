-- docs/MODEL.md, 'Weights': the weights must fall. Assumes nothing.
use Rattle.std.specs.Prelude.{◌≡◌, refl, [], ◌∷◌, ℕ}
use Rattle.model.specs.Numbers.{at, one_of, first_from, first_of, first_fault, sum_of, fill_of, list_of, row_at}
use Rattle.model.specs.Flow.{thousandths_of, demand_of, gate_demand_of, supply_of, room_of, onward_of, entering_of, greatest_of, outflow_of}
use Rattle.model.specs.Flow.{capacity_at, demand_at, most_release_at, share_at, cumulative_at}
use Rattle.model.specs.Move.{moved_to, counted_of}
use Rattle.model.specs.Schedules.{road_at, outflows_of, schedule_after, engine_after}
use Rattle.model.specs.Weights.{weighted_present, weighted_total, weighted_total_of_run, weighted_total_of_schedule}
use Rattle.model.specs.Record.{number_of, seconds_size}
use Rattle.model.specs.Limits.{place_ok, row_ok}
use Rattle.model.specs.Reading.{reading_by, study_of}
use Rattle.model.specs.Stepping.{lowest_of, table_fault}
use Rattle.model.specs.Running.{end_of, opening_of, running_of}
use Rattle.model.specs.WorkedRecord.{sample, header, upstream, downstream, row}
use Rattle.model.specs.WorkedSchedule.{still}

-- weight 0 at the gate, 200 at cell 1, 255 at cell 2; 0 at the ramps
abbrev pub rising : ℕ → ℕ
rising = at (0 ∷ 200 ∷ 255 ∷ [])

abbrev pub zero_weights : ℕ → ℕ
zero_weights i = 0

-- the engine's total is larger than that of the schedule that sends nothing, which keeps vehicles at the gate, where the weight is 0
pub record ScheduleWeighsLess : Type 0 where
  pub engine : weighted_total_of_run rising zero_weights sample [] still ≡ 4833200
  pub schedule : weighted_total_of_schedule rising zero_weights (study_of sample []) still 3 ≡ 4719000

pub schedule_weighs_less : ScheduleWeighsLess
unfolding sample header upstream downstream row reading_by one_of number_of seconds_size
    thousandths_of demand_of gate_demand_of supply_of room_of onward_of entering_of greatest_of outflow_of
    sum_of fill_of list_of first_from first_of first_fault place_ok row_ok
    capacity_at demand_at most_release_at share_at cumulative_at moved_to counted_of outflows_of lowest_of
    table_fault road_at schedule_after engine_after row_at end_of opening_of running_of weighted_present weighted_total weighted_total_of_run
schedule_weighs_less = record { engine = refl; schedule = refl }
