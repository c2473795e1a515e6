-- docs/MODEL.md, 'Writing' to 'A run printed whole': more of their rules worked out in numbers, so that a wrong definition fails here. Assumes nothing.
use Rattle.std.specs.Prelude.{◌≡◌, refl, true, false, List, [], ◌∷◌, ◌++◌, ℕ, set}
use Rattle.std.specs.Int.Count.{ones_in, ones}
use Rattle.std.specs.Float.{inf}
use Rattle.std.specs.Float.Ieee.{round}
use Rattle.model.specs.declared.Law.{Law}
use Rattle.model.specs.declared.Law.TheVariants as law
use Rattle.model.specs.Numbers.{at, one_of, first_from, first_of, first_fault, sum_of, fill_of, list_of}
use Rattle.model.specs.Road.{zeros, empty_road, empty_state}
use Rattle.model.specs.Flow.{thousandths_of, demand_of, gate_demand_of, supply_of, room_of, onward_of, entering_of, greatest_of, outflow_of}
use Rattle.model.specs.Flow.{capacity_at, demand_at, most_release_at, share_at, cumulative_at}
use Rattle.model.specs.Move.{moved_to, counted_of, exits_of}
use Rattle.model.specs.Lanes.{open_capacity, lanes_ok}
use Rattle.model.specs.Schedules.{Study, study, outflows_of}
use Rattle.model.specs.Record.{number_of, seconds_size}
use Rattle.model.specs.Limits.{place_ok, row_ok, frame_ok, input_ok}
use Rattle.model.specs.Reading.{reading_by, study_of}
use Rattle.model.specs.Stepping.{lowest_of, stepping_of}
use Rattle.model.specs.Running.{end_with}
use Rattle.model.specs.Writing.{frame_fault, writing_by}
use Rattle.model.specs.Joining.{joining_by, joining_of}
use Rattle.model.specs.Meter.{wish_of, whole_below, law_finite, law_ok, law_fault_of}
use Rattle.model.specs.Filling.{meter_start, release_of, granted_at, filled_row, metered_of}
use Rattle.model.specs.Put.{released_row}
use Rattle.model.specs.Filling.{filling_of, filled_list}
use Rattle.model.specs.Put.{ramp_ok}
use Rattle.model.specs.Words.{vehicle_seconds, digits_of, decimal_of}
use Rattle.model.specs.Listing.{most_text, header_line, total_line, refused_line, steps_lines, time_of, printed_end}
use Rattle.model.specs.WorkedPrinted.{road, start, row, built}
use Rattle.model.specs.WorkedEdges.{after}
use Rattle.model.specs.WorkedRecord.{sample, header, upstream, downstream, row as bytes}
use Rattle.model.specs.WorkedSchedule.{still}
use Rattle.model.specs.WorkedWishes.{number}

-- writing: 2 before 3, 3 before 19, 19 before 1
pub frame_order : frame_fault 3 0 0 0 0 ∷ frame_fault 2 0 0 1 0 ∷ frame_fault 2 0 64 1440 0 ∷ [] ≡ 2 ∷ 3 ∷ 19 ∷ []
unfolding frame_fault one_of seconds_size
frame_order = refl

-- a road of n cells whose numbers are all 0
abbrev wide : ℕ → Study
wide n = study (record {
  n = n;
  version = 1;
  seconds = 0;
  gate_capacity = 0;
  speed = zeros;
  wave = zeros;
  share = zeros;
  ramp = zeros;
  jam = zeros;
  capacity = zeros;
}) empty_state 1 (λ t. []) []

-- 6 before 15: a row's number above 1,000,000, and a target that is too short
pub row_before_target : (writing_by (study (wide 1).road empty_state 1 (λ t. 1000001 ∷ []) []) 3 0).number ≡ 6
unfolding frame_fault one_of seconds_size place_ok row_ok first_from first_of
row_before_target = refl

-- joining: upstream is read first; 22 before 15
pub upstream_first : (joining_of [] (set sample 4 3) 0 []).number ≡ 1
unfolding sample header upstream downstream bytes reading_by one_of number_of seconds_size joining_of
upstream_first = refl

pub too_wide : (joining_by (wide 64) (wide 1) 0 0).number ≡ 22
unfolding first_from first_of seconds_size
too_wide = refl

-- filling: 16 before 11, and a refusal leaves the list unchanged; what enters each cell in a step at a fixed rate of 300
unfoldable pub endless : List Law
endless = law.Fixed (number 0 1) ∷ law.Fixed (inf false) ∷ []

pub laws_first : (filling_of endless sample [] []).number ≡ 16
unfolding sample header upstream downstream bytes reading_by one_of number_of seconds_size fill_of list_of first_from first_of place_ok row_ok
    endless law_finite law_ok law_fault_of filling_of
laws_first = refl

pub list_kept : filled_list endless sample [] still ≡ still
unfolding sample header upstream downstream bytes reading_by one_of number_of seconds_size fill_of list_of first_from first_of place_ok row_ok
    endless law_finite law_ok law_fault_of filling_of filled_list
list_kept = refl

unfoldable pub fixed : List Law
fixed = law.Fixed (number 0 1) ∷ law.Fixed (number 300 1) ∷ []

pub entries : at (metered_of fixed road (meter_start start) (row 300)).entries 0 ∷ at (metered_of fixed road (meter_start start) (row 300)).entries 1 ∷ []
    ≡ 1500 ∷ 700 ∷ []
unfolding fixed number round road start row
    thousandths_of demand_of gate_demand_of supply_of room_of onward_of entering_of greatest_of outflow_of
    sum_of fill_of list_of capacity_at demand_at most_release_at share_at cumulative_at moved_to counted_of outflows_of
    wish_of whole_below released_row release_of granted_at filled_row metered_of
entries = refl

-- putting a release: place 0 has no ramp, whatever cell 1 has
pub no_cell_zero : ramp_ok (1 ∷ []) 1 0 ∷ ramp_ok (1 ∷ []) 1 1 ∷ [] ≡ false ∷ true ∷ []
unfolding ramp_ok
no_cell_zero = refl

-- printing: 661 vehicle-seconds, `661`, only the refusal's line, and the totals of the last state; the room that the longest text needs
pub seconds_printed : vehicle_seconds 33098 20 ≡ 661
unfolding vehicle_seconds
seconds_printed = refl

pub digits_printed : decimal_of 661 ≡ 54 ∷ 54 ∷ 49 ∷ []
unfolding digits_of
digits_printed = refl

pub refusal_printed : printed_end (study_of sample []) (end_with 10 1 2 empty_road empty_state) ≡ refused_line 10 1 2
refusal_printed = refl

pub totals_printed : printed_end (study road start 0 (λ t. []) []) (end_with 0 0 0 road (after 3)) ≡ header_line ++ (total_line 33098 6532 20866 5700 3701 ++ [])
unfolding steps_lines time_of after road start row built open_capacity ones ones_in lanes_ok
    thousandths_of demand_of gate_demand_of supply_of room_of onward_of entering_of greatest_of outflow_of
    sum_of fill_of list_of first_from first_of first_fault place_ok row_ok frame_ok input_ok
    capacity_at demand_at most_release_at share_at cumulative_at moved_to counted_of exits_of outflows_of lowest_of stepping_of
totals_printed = refl

pub room_printed : most_text ≡ 924161
room_printed = refl
