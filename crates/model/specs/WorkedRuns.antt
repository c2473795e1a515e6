-- docs/MODEL.md, 'Stepping' to 'History': more of their rules worked out in numbers, so that a wrong definition fails here. Assumes nothing.
use Rattle.std.specs.Prelude.{◌≡◌, refl, [], ◌∷◌, replicate}
use Rattle.std.specs.Int.Count.{ones_in, ones}
use Rattle.model.specs.declared.State.{State}
use Rattle.model.specs.Numbers.{at, one_of, first_from, first_of, first_fault, sum_of, fill_of, list_of, concat_of, row_at, front_of}
use Rattle.model.specs.Road.{zeros, empty_road, empty_state}
use Rattle.model.specs.Flow.{thousandths_of, demand_of, gate_demand_of, supply_of, room_of, onward_of, entering_of, greatest_of, outflow_of}
use Rattle.model.specs.Flow.{capacity_at, demand_at, most_release_at, share_at, cumulative_at}
use Rattle.model.specs.Move.{moved_to, counted_of, exits_of}
use Rattle.model.specs.Lanes.{open_capacity, lanes_ok}
use Rattle.model.specs.Schedules.{road_at, outflows_of, schedule_after, engine_after}
use Rattle.model.specs.Record.{number_of, seconds_size}
use Rattle.model.specs.Refusals.{fault}
use Rattle.model.specs.Limits.{place_ok, row_ok, frame_ok, input_ok}
use Rattle.model.specs.Reading.{reading_by, study_of}
use Rattle.model.specs.Stepping.{lowest_of, stepping_of, table_fault}
use Rattle.model.specs.Running.{end_with, end_of, opening_of, running_of, steps_made}
use Rattle.model.specs.Judging.{outflow_fault_at, verdict_of, judging_of}
use Rattle.model.specs.Judging.{history_of, queue_after}
use Rattle.model.specs.WorkedPrinted.{past, road, start, row, built, works}
use Rattle.model.specs.WorkedEdges.{released_by}
use Rattle.model.specs.WorkedRecord.{sample, header, upstream, downstream, row as bytes}
use Rattle.model.specs.WorkedSchedule.{still}
use Rattle.model.specs.WorkedRoads.{two, four, cell, hastened, list, header as raised_header, row as raised_row}

-- lanes: one of three closed at cell 2 reduces the outflow to 666, and 18 names the lowest cell over all rows
pub closed_outflow : at (released_by 1500 300 works).state.cumulative 1 ≡ 666
unfolding released_by road row built works open_capacity ones ones_in lanes_ok
    thousandths_of demand_of gate_demand_of supply_of room_of onward_of entering_of greatest_of outflow_of
    sum_of fill_of list_of first_from first_of first_fault place_ok row_ok frame_ok input_ok
    capacity_at demand_at most_release_at share_at cumulative_at moved_to counted_of exits_of outflows_of lowest_of stepping_of
closed_outflow = refl

pub lowest_cell : table_fault (1 ∷ 1 ∷ 1 ∷ 2 ∷ 2 ∷ 1 ∷ 1 ∷ 1 ∷ []) 2 3 ≡ fault 18 1
unfolding table_fault first_from first_of lanes_ok row_at
lowest_cell = refl

-- stepping: 18 before 8
abbrev done : State
done = record {
  done = 1440;
  gate_time = 0;
  road_time = 0;
  ramp_time = 0;
  gate_queue = 0;
  gate_cumulative = 0;
  held = zeros;
  queue = zeros;
  cumulative = zeros;
}

pub eighteen_eight : (stepping_of road done (row 300) built (7 ∷ 8 ∷ past 62)).number ∷ (stepping_of road done (row 300) built built).number ∷ [] ≡ 18 ∷ 8 ∷ []
unfolding road row built lanes_ok first_from first_of place_ok row_ok frame_ok input_ok stepping_of
eighteen_eight = refl

-- judging a row: 13 above the demand, 14 above the room, and 9 before 13
pub verdicts : verdict_of road start (row 300) (2001 ∷ 0 ∷ 0 ∷ [])
    ∷ verdict_of road start (row 300) (1501 ∷ 0 ∷ 0 ∷ [])
    ∷ verdict_of road start (row 2001) (2001 ∷ 0 ∷ 0 ∷ [])
    ∷ []
    ≡ fault 13 0 ∷ fault 14 0 ∷ fault 9 2 ∷ []
unfolding road start row verdict_of outflow_fault_at lowest_of first_fault first_of first_from
    thousandths_of demand_of gate_demand_of supply_of room_of onward_of entering_of capacity_at demand_at most_release_at share_at cumulative_at
verdicts = refl

-- judging a schedule in its own states: nothing is sent in steps 0 and 1, and then more than the demand of cell 1
pub own_states : (judging_of sample [] (0 ∷ 0 ∷ 0 ∷ 0 ∷ 0 ∷ 0 ∷ 0 ∷ 1200 ∷ 0 ∷ [])).number ≡ 13
unfolding sample header upstream downstream bytes reading_by one_of number_of seconds_size
    thousandths_of demand_of gate_demand_of supply_of room_of onward_of entering_of greatest_of outflow_of
    sum_of fill_of list_of first_from first_of first_fault place_ok row_ok
    capacity_at demand_at most_release_at share_at cumulative_at moved_to counted_of outflows_of lowest_of outflow_fault_at verdict_of
    table_fault road_at schedule_after engine_after row_at end_of opening_of judging_of
own_states = refl

-- running: 11 if a number is missing, the steps made before a refusal, and the state before it
pub short_list : (running_of sample [] (replicate 8 0)).number ≡ 11
unfolding sample header upstream downstream bytes reading_by one_of number_of seconds_size
    fill_of list_of first_from first_of place_ok row_ok table_fault opening_of running_of
short_list = refl

pub made_before : steps_made (study_of sample []) (end_with 10 1 2 empty_road empty_state) ≡ 1
made_before = refl

pub state_before : (running_of (hastened (two 3 232)) [] list).state.done ≡ 1
unfolding two four raised_header cell raised_row hastened reading_by one_of number_of seconds_size
    thousandths_of demand_of gate_demand_of supply_of room_of onward_of entering_of greatest_of outflow_of
    sum_of fill_of list_of first_from first_of first_fault place_ok row_ok
    capacity_at demand_at most_release_at share_at cumulative_at moved_to counted_of outflows_of lowest_of
    table_fault road_at engine_after end_of opening_of running_of
state_before = refl

-- history: the ramps' queues after each step of the schedule that sends nothing
pub queues_after : queue_after sample [] still still still ≡ 0 ∷ 0 ∷ 1700 ∷ 0 ∷ 0 ∷ 1900 ∷ 0 ∷ 0 ∷ 2100 ∷ []
unfolding sample header upstream downstream bytes reading_by one_of number_of seconds_size
    thousandths_of demand_of gate_demand_of supply_of room_of onward_of entering_of greatest_of outflow_of
    sum_of fill_of list_of concat_of first_from first_of first_fault place_ok row_ok
    capacity_at demand_at most_release_at share_at cumulative_at moved_to counted_of outflows_of lowest_of outflow_fault_at verdict_of
    table_fault road_at schedule_after row_at front_of end_of opening_of history_of queue_after
queues_after = refl
