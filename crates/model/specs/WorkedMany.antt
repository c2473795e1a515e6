-- docs/MODEL.md, 'Many studies': three tables of arrivals for the printed run's record, the second above the limits. Assumes nothing.
use Rattle.std.specs.Prelude.{◌≡◌, refl, List, [], ◌∷◌, ℕ, replicate, take}
use Rattle.std.specs.Float.Ieee.{round, add, sub, mul, le, of_int}
use Rattle.model.specs.Numbers.{one_of, first_from, first_of, first_fault, sum_of, fill_of, list_of, concat_of, row_at, front_of, placed}
use Rattle.model.specs.Flow.{thousandths_of, demand_of, gate_demand_of, supply_of, room_of, onward_of, entering_of, greatest_of, outflow_of}
use Rattle.model.specs.Flow.{capacity_at, demand_at, most_release_at, share_at, cumulative_at}
use Rattle.model.specs.Move.{moved_to, counted_of, exits_of}
use Rattle.model.specs.Schedules.{road_at, outflows_of, engine_after}
use Rattle.model.specs.Record.{number_of, seconds_size, bytes_of, record_row}
use Rattle.model.specs.Limits.{place_ok, row_ok}
use Rattle.model.specs.Refusals.{fault}
use Rattle.model.specs.Reading.{reading_by}
use Rattle.model.specs.Stepping.{lowest_of, table_fault}
use Rattle.model.specs.Running.{end_of, opening_of, running_of, list_after}
use Rattle.model.specs.Meter.{alinea_of, wish_of, whole_below, law_finite, law_ok, law_fault_of}
use Rattle.model.specs.Filling.{release_of, granted_at, filled_row, metered_of}
use Rattle.model.specs.Put.{put_releases, put_table, released_row}
use Rattle.model.specs.Filling.{metered_from, filled_bytes, filling_of, record_after}
use Rattle.model.specs.Longest.{maximum_of as longest_one, longest_of, longest_run, longest_fill}
use Rattle.model.specs.Many.{put_arrivals, put_arrival_rows, answer_entry, many_fault, run_answers, list_after_runs, run_lists, record_after_runs, run_record}
use Rattle.model.specs.Many.{fill_answers, record_after_fillings, fill_record}
use Rattle.model.specs.WorkedRecord.{sample, header, upstream, downstream, row}
use Rattle.model.specs.WorkedSchedule.{still}
use Rattle.model.specs.WorkedWishes.{number}
use Rattle.model.specs.WorkedFilling.{laws}

-- the record's own arrivals; gate arrivals above 1,000,000 in step 1; and only 2,500 at the ramp in step 2
unfoldable pub tables : List ℕ
tables =
    1000 ∷ 0 ∷ 500 ∷ 1000 ∷ 0 ∷ 500 ∷ 1000 ∷ 0 ∷ 500
    ∷ 1000 ∷ 0 ∷ 500 ∷ 1000001 ∷ 0 ∷ 0 ∷ 0 ∷ 0 ∷ 0
    ∷ 0 ∷ 0 ∷ 0 ∷ 0 ∷ 0 ∷ 0 ∷ 0 ∷ 0 ∷ 2500
    ∷ []

-- room for three entries
abbrev room : List ℕ
room = replicate 225 0

-- each entry without the ramps past cell 2
abbrev shown : List ℕ → ℕ → List ℕ
shown answers k = take 13 (row_at answers 75 k)

-- running: each study's own answer, and the last study's outflows and arrivals with the record's releases
pub record RunEntries : Type 0 where
  pub answer : many_fault sample tables room ≡ fault 0 0
  pub first : shown (run_answers sample [] tables still room) 0 ≡ 0 ∷ 0 ∷ 0 ∷ 6532 ∷ 20866 ∷ 5700 ∷ 33098 ∷ 3701 ∷ 11299 ∷ 2500 ∷ 1500 ∷ 0 ∷ 2100 ∷ []
  pub refused : shown (run_answers sample [] tables still room) 1 ≡ 6 ∷ 0 ∷ 1 ∷ 0 ∷ 0 ∷ 0 ∷ 0 ∷ 0 ∷ 0 ∷ 0 ∷ 0 ∷ 0 ∷ 0 ∷ []
  pub last : shown (run_answers sample [] tables still room) 2 ≡ 0 ∷ 0 ∷ 0 ∷ 1642 ∷ 19756 ∷ 5200 ∷ 26598 ∷ 3701 ∷ 9299 ∷ 1500 ∷ 1500 ∷ 0 ∷ 3100 ∷ []
  pub outflows : run_lists sample [] tables still room ≡ 1500 ∷ 934 ∷ 1000 ∷ 1358 ∷ 933 ∷ 1000 ∷ 142 ∷ 934 ∷ 1000 ∷ []
  pub arrivals : record_row (run_record sample tables room) 2 2 ≡ 0 ∷ 0 ∷ 0 ∷ 2500 ∷ 300 ∷ []

pub run_entries : RunEntries
unfolding sample header upstream downstream row tables reading_by one_of number_of seconds_size
    thousandths_of demand_of gate_demand_of supply_of room_of onward_of entering_of greatest_of outflow_of
    sum_of fill_of list_of first_from first_of first_fault place_ok row_ok
    capacity_at demand_at most_release_at share_at cumulative_at moved_to counted_of exits_of outflows_of lowest_of
    table_fault road_at engine_after end_of opening_of running_of list_after front_of concat_of row_at placed bytes_of
    longest_one longest_of longest_run put_arrivals put_arrival_rows answer_entry many_fault run_answers list_after_runs run_lists record_after_runs run_record
run_entries = record { answer = refl; first = refl; refused = refl; last = refl; outflows = refl; arrivals = refl }

-- filling by the laws of 'Filling': the refused study leaves the releases of the first study, and the last study leaves its own
pub record FillEntries : Type 0 where
  pub last : shown (fill_answers laws sample [] tables still room) 2
      ≡ 0 ∷ 0 ∷ 0 ∷ 1625 ∷ 18937 ∷ 5940 ∷ 26502 ∷ 3736 ∷ 9264 ∷ 1500 ∷ 1500 ∷ 0 ∷ 3355 ∷ []
  pub kept : record_row (record_after_fillings laws sample [] tables still 2) 2 1 ≡ 1000001 ∷ 0 ∷ 0 ∷ 0 ∷ 215 ∷ []
  pub arrivals : record_row (fill_record laws sample [] tables still room) 2 2 ≡ 0 ∷ 0 ∷ 0 ∷ 2500 ∷ 330 ∷ []

pub fill_entries : FillEntries
unfolding sample header upstream downstream row tables reading_by one_of number_of seconds_size
    thousandths_of demand_of gate_demand_of supply_of room_of onward_of entering_of greatest_of outflow_of
    sum_of fill_of list_of first_from first_of first_fault place_ok row_ok
    capacity_at demand_at most_release_at share_at cumulative_at moved_to counted_of exits_of outflows_of lowest_of table_fault road_at engine_after
    laws number round add sub mul le of_int alinea_of wish_of whole_below law_finite law_ok law_fault_of
    released_row release_of granted_at filled_row metered_of metered_from filling_of record_after filled_bytes put_table put_releases placed bytes_of
    front_of concat_of row_at longest_one longest_of longest_fill put_arrivals put_arrival_rows answer_entry many_fault fill_answers record_after_fillings fill_record
fill_entries = record { last = refl; kept = refl; arrivals = refl }

-- 27: eight numbers are no table of nine, and 224 leave no room for three entries; the lent lists are unchanged
pub record Lengths : Type 0 where
  pub arrivals : many_fault sample (replicate 8 0) room ≡ fault 27 1
  pub answers : many_fault sample tables (replicate 224 0) ≡ fault 27 2
  pub none : many_fault sample [] [] ≡ fault 0 0
  pub unread : many_fault [] tables room ≡ fault 1 0
  pub unchanged : run_answers sample [] tables still (replicate 224 7) ≡ replicate 224 7

pub lengths : Lengths
unfolding sample header upstream downstream row tables reading_by one_of number_of seconds_size fill_of list_of first_from first_of place_ok row_ok many_fault run_answers
lengths = record { arrivals = refl; answers = refl; none = refl; unread = refl; unchanged = refl }
