-- docs/MODEL.md, 'Going on': the printed run's record cut after its first step; both parts run, judged and filled one after the other. Assumes nothing.
use Rattle.std.specs.Prelude.{◌≡◌, refl, List, [], ◌∷◌, ◌++◌, ℕ, set, replicate}
use Rattle.std.specs.Float.Ieee.{round, add, sub, mul, le, of_int}
use Rattle.model.specs.declared.State.{State}
use Rattle.model.specs.Numbers.{at, one_of, first_from, first_of, first_fault, sum_of, fill_of, list_of, concat_of, row_at, front_of, placed}
use Rattle.model.specs.Road.{total_of, zeros}
use Rattle.model.specs.Flow.{thousandths_of, demand_of, gate_demand_of, supply_of, room_of, onward_of, entering_of, greatest_of, outflow_of}
use Rattle.model.specs.Flow.{capacity_at, demand_at, most_release_at, share_at, cumulative_at}
use Rattle.model.specs.Move.{moved_to, counted_of, exits_of}
use Rattle.model.specs.Schedules.{road_at, outflows_of, schedule_after, engine_after}
use Rattle.model.specs.Weights.{weighted_present, weighted_total}
use Rattle.model.specs.Record.{number_of, seconds_size, bytes_of}
use Rattle.model.specs.Limits.{place_ok, row_ok, state_ok}
use Rattle.model.specs.Reading.{reading_by}
use Rattle.model.specs.Stepping.{lowest_of, table_fault}
use Rattle.model.specs.Running.{EndAnswer, end_of, opening_of, running_of}
use Rattle.model.specs.Judging.{outflow_fault_at, verdict_of}
use Rattle.model.specs.Meter.{alinea_of, wish_of, whole_below, law_finite, law_ok, law_fault_of}
use Rattle.model.specs.Filling.{MeterState, meter_start, meter_state, release_of, granted_at, filled_row, metered_of}
use Rattle.model.specs.Put.{put_releases, put_table, released_row}
use Rattle.model.specs.Filling.{metered_from}
use Rattle.model.specs.Longest.{maximum_of as longest_length, queues_of, longest_of}
use Rattle.model.specs.GoingOn.{state_fault, running_on, list_on, weighted_total_on, longest_on, judging_on, history_on, held_on, queue_on, entries_ok, progress_fault}
use Rattle.model.specs.GoingOn.{filling_on, progress_on, record_on, filled_list_on, longest_fill_on}
use Rattle.model.specs.WorkedPrinted.{past, road, start as first}
use Rattle.model.specs.WorkedRecord.{header, upstream, downstream, row}
use Rattle.model.specs.WorkedWishes.{number}
use Rattle.model.specs.WorkedFilling.{laws}

-- the record with one row, and with two
unfoldable pub one : List ℕ
one = set (set header 3 80) 7 1 ++ (upstream ++ (downstream ++ row))

unfoldable pub two : List ℕ
two = set (set header 3 100) 7 2 ++ (upstream ++ (downstream ++ (row ++ row)))

abbrev pub still : List ℕ
still = replicate 6 0

-- a state after step 0, in which the gate sends 1500: road and ramp time; held counts, queues and F of the cells
abbrev after_first : ℕ → ℕ → List ℕ → List ℕ → List ℕ → State
after_first road ramp held queue cumulative = record {
  done = 1;
  gate_time = 2500;
  road_time = road;
  ramp_time = ramp;
  gate_queue = 2500;
  gate_cumulative = 1500;
  held = held;
  queue = queue;
  cumulative = cumulative;
}

-- the printed run's state after step 0
unfoldable pub between : State
between = after_first 6566 1700 (2566 ∷ 4000 ∷ past 62) (0 ∷ 1700 ∷ past 62) (934 ∷ 1000 ∷ past 62)

-- of an answer: steps done, total and exits
abbrev shown : EndAnswer → List ℕ
shown e = e.state.done ∷ total_of e.state ∷ exits_of e.road e.state ∷ []

-- the first row run, and two rows from the state after it: the printed run's last six outflows, its total and its exits. Weights and longest queues
-- are those of these two steps
pub record RunsOn : Type 0 where
  pub state : (running_of one [] still).state ≡ between
  pub outflows : list_on two [] between still ≡ 1358 ∷ 933 ∷ 1000 ∷ 1252 ∷ 934 ∷ 1000 ∷ []
  pub answer : shown (running_on two [] between still) ≡ 3 ∷ 33098 ∷ 3701 ∷ []
  pub weighted : weighted_total_on (at (1 ∷ 0 ∷ 0 ∷ [])) (λ i. 0) two [] between still ≡ 4032
  pub longest : longest_on two [] between still ≡ queues_of 2142 1142 (0 ∷ 2100 ∷ replicate 62 0)

pub runs_on : RunsOn
unfolding road between one two header upstream downstream row reading_by one_of number_of seconds_size
    thousandths_of demand_of gate_demand_of supply_of room_of onward_of entering_of greatest_of outflow_of
    sum_of fill_of list_of concat_of front_of first_from first_of first_fault place_ok row_ok state_ok
    capacity_at demand_at most_release_at share_at cumulative_at moved_to counted_of exits_of outflows_of lowest_of
    table_fault road_at engine_after end_of opening_of running_of weighted_present weighted_total longest_length longest_of
    state_fault running_on list_on weighted_total_on longest_on
runs_on = record { state = refl; outflows = refl; answer = refl; weighted = refl; longest = refl }

-- a state after s steps with cumulative outflow F of cell 1
abbrev left : ℕ → ℕ → State
left s F = record {
  done = s;
  gate_time = 0;
  road_time = 0;
  ramp_time = 0;
  gate_queue = 0;
  gate_cumulative = 0;
  held = zeros;
  queue = zeros;
  cumulative = F ∷ replicate 63 0;
}

-- 7 comes before 8, and 8 before 11 and 12; two steps after 1,438 pass
pub refused_on : (running_on two [] (left 1439 1439000001) []).number
    ∷ (running_on two [] (left 1439 0) []).number
    ∷ (running_on two [] (left 1438 0) []).number
    ∷ (judging_on two [] (left 1439 0) []).number
    ∷ (history_on two [] (left 1438 0) still still []).number
    ∷ []
    ≡ 7 ∷ 8 ∷ 11 ∷ 8 ∷ 11 ∷ []
unfolding two header upstream downstream row reading_by one_of number_of seconds_size
    fill_of list_of first_from first_of place_ok row_ok state_ok table_fault opening_of state_fault running_on judging_on history_on
refused_on = refl

-- judging: 934 at place 1 in the first of these rows lets in too much, because F of step 0 counts; then the states of the run's own rows
pub record JudgesOn : Type 0 where
  pub number : (judging_on two [] between (1358 ∷ 934 ∷ 1000 ∷ 1252 ∷ 934 ∷ 1000 ∷ [])).number ≡ 14
  pub step : (judging_on two [] between (1358 ∷ 933 ∷ 1000 ∷ 1252 ∷ 935 ∷ 1000 ∷ [])).step ≡ 1
  pub held : held_on two [] between (1358 ∷ 933 ∷ 1000 ∷ 1252 ∷ 934 ∷ 1000 ∷ []) still still ≡ 2142 ∷ 2991 ∷ 4000 ∷ 1890 ∷ 3309 ∷ 4000 ∷ []
  pub queue : queue_on two [] between (1358 ∷ 933 ∷ 1000 ∷ 1252 ∷ 934 ∷ 1000 ∷ []) still still ≡ 0 ∷ 0 ∷ 1900 ∷ 0 ∷ 0 ∷ 2100 ∷ []

pub judges_on : JudgesOn
unfolding between two header upstream downstream row reading_by one_of number_of seconds_size
    thousandths_of demand_of gate_demand_of supply_of room_of onward_of entering_of greatest_of outflow_of
    sum_of fill_of list_of concat_of front_of first_from first_of first_fault place_ok row_ok state_ok
    capacity_at demand_at most_release_at share_at cumulative_at moved_to counted_of outflows_of lowest_of outflow_fault_at verdict_of
    table_fault road_at schedule_after engine_after row_at end_of opening_of state_fault judging_on history_on held_on queue_on
judges_on = record { number = refl; step = refl; held = refl; queue = refl }

-- the state after step 0 filled, with its releases and entries
unfoldable pub filled_between : MeterState
filled_between =
    meter_state (after_first 6350 1900 (2500 ∷ 3850 ∷ past 62) (0 ∷ 1900 ∷ past 62) (1000 ∷ 1000 ∷ past 62))
    (0 ∷ 100 ∷ past 62) (1500 ∷ 750 ∷ past 62)

-- filling in two stretches: the outflows and the total of 'Filling'
pub record FillsOn : Type 0 where
  pub progress : progress_on laws one [] (meter_start first) still ≡ filled_between
  pub total : total_of (filling_on laws two [] filled_between still).state ≡ 33002
  pub outflows : filled_list_on laws two [] filled_between still ≡ 1375 ∷ 1047 ∷ 1000 ∷ 1293 ∷ 894 ∷ 1000 ∷ []
  pub longest : (longest_fill_on laws two [] filled_between still).gate ≡ 2125
  pub bytes : at (record_on laws one [] (meter_start first) still) 83 ≡ 100
  -- a last entry above what its cell holds is refused with 7
  pub refused : (filling_on laws two [] (meter_state first zeros (2001 ∷ replicate 63 0)) still).number ≡ 7

pub fills_on : FillsOn
unfolding first filled_between one two header upstream downstream row reading_by one_of number_of seconds_size
    thousandths_of demand_of gate_demand_of supply_of room_of onward_of entering_of greatest_of outflow_of
    sum_of fill_of list_of first_from first_of first_fault place_ok row_ok state_ok
    capacity_at demand_at most_release_at share_at cumulative_at moved_to counted_of outflows_of lowest_of table_fault road_at engine_after
    laws number round add sub mul le of_int alinea_of wish_of whole_below law_finite law_ok law_fault_of longest_length longest_of
    released_row release_of granted_at filled_row metered_of metered_from put_table put_releases placed bytes_of front_of concat_of
    entries_ok progress_fault filling_on progress_on record_on filled_list_on longest_fill_on
fills_on = record { progress = refl; total = refl; outflows = refl; longest = refl; bytes = refl; refused = refl }
