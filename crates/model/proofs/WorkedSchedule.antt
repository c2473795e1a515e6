-- docs/MODEL.md, 'A run printed whole': the numbers of the run and of the schedule that sends nothing. Assumes nothing.
use Rattle.std.specs.Prelude.{refl, List, [], ◌∷◌, ℕ}
use Rattle.std.proofs.Common.{ap}
use Rattle.std.specs.Int.Count.{ones_in, ones}
use Rattle.model.specs.Numbers.{at, one_of, first_from, first_of, first_fault, sum_of, fill_of, list_of, row_at}
use Rattle.model.specs.Flow.{thousandths_of, demand_of, gate_demand_of, supply_of, room_of, onward_of, entering_of, greatest_of, outflow_of}
use Rattle.model.specs.Flow.{capacity_at, demand_at, most_release_at, share_at, cumulative_at}
use Rattle.model.specs.Move.{moved_to, counted_of, exits_of}
use Rattle.model.specs.Lanes.{open_capacity, lanes_ok}
use Rattle.model.specs.Schedules.{road_at, outflows_of, schedule_after, engine_after}
use Rattle.model.specs.Record.{number_of, seconds_size}
use Rattle.model.specs.Limits.{place_ok, row_ok}
use Rattle.model.specs.Reading.{reading_by}
use Rattle.model.specs.Stepping.{lowest_of, table_fault}
use Rattle.model.specs.Running.{end_of, opening_of, running_of}
use Rattle.model.specs.Judging.{outflow_fault_at, verdict_of, judging_of}
use Rattle.model.specs.WorkedRecord.{sample, header, upstream, downstream, row}
use Rattle.model.specs.WorkedSchedule.{works, BothNumbers, Both, BothClosed}

-- running writes all three rows and judging accepts the schedule, which has the larger total, the same ramp time and no exits
pub both_numbers : BothNumbers [] (3 ∷ 33098 ∷ 5700 ∷ 3701 ∷ []) (3 ∷ 40500 ∷ 5700 ∷ 0 ∷ [])
unfolding sample header upstream downstream row reading_by one_of number_of seconds_size
    thousandths_of demand_of gate_demand_of supply_of room_of onward_of entering_of greatest_of outflow_of
    sum_of fill_of list_of first_from first_of first_fault place_ok row_ok
    capacity_at demand_at most_release_at share_at cumulative_at moved_to counted_of exits_of outflows_of lowest_of outflow_fault_at verdict_of
    table_fault road_at schedule_after engine_after row_at end_of opening_of running_of judging_of
both_numbers = record { run = refl; judged = refl }

abbrev first : List ℕ → ℕ
first l = at l 0

pub both : Both
unfolding sample header upstream downstream row reading_by one_of number_of seconds_size fill_of list_of first_from first_of place_ok row_ok table_fault opening_of
both = record { openable = record { reads = refl; opens = refl }; right = refl; run = ap first both_numbers.run; judged = ap first both_numbers.judged }

-- fewer vehicles leave than without works
pub both_numbers_closed : BothNumbers works (3 ∷ 34431 ∷ 5700 ∷ 3034 ∷ []) (3 ∷ 40500 ∷ 5700 ∷ 0 ∷ [])
unfolding sample header upstream downstream row reading_by one_of number_of seconds_size
    thousandths_of demand_of gate_demand_of supply_of room_of onward_of entering_of greatest_of outflow_of
    sum_of fill_of list_of first_from first_of first_fault place_ok row_ok open_capacity lanes_ok ones ones_in
    capacity_at demand_at most_release_at share_at cumulative_at moved_to counted_of exits_of outflows_of lowest_of outflow_fault_at verdict_of
    table_fault road_at schedule_after engine_after row_at end_of opening_of running_of judging_of
both_numbers_closed = record { run = refl; judged = refl }

pub both_closed : BothClosed
unfolding sample header upstream downstream row reading_by one_of number_of seconds_size
    fill_of list_of first_from first_of place_ok row_ok table_fault lanes_ok ones ones_in row_at opening_of
both_closed = record { openable = record { reads = refl; opens = refl }; run = ap first both_numbers_closed.run; judged = ap first both_numbers_closed.judged }
