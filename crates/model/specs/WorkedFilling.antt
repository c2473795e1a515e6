-- docs/MODEL.md, 'Filling': the printed run's record, filled by ALINEA at its ramp, and compared with the schedule that sends nothing. Assumes nothing.
use Rattle.std.specs.Prelude.{◌≡◌, refl, List, [], ◌∷◌, ℕ}
use Rattle.std.specs.Float.Ieee.{round, add, sub, mul, le, of_int}
use Rattle.model.specs.declared.Law.{Law}
use Rattle.model.specs.declared.Law.TheVariants as law
use Rattle.model.specs.Numbers.{one_of, first_from, first_of, first_fault, sum_of, fill_of, list_of, concat_of, row_at, front_of, placed}
use Rattle.model.specs.Road.{total_of}
use Rattle.model.specs.Flow.{thousandths_of, demand_of, gate_demand_of, supply_of, room_of, onward_of, entering_of, greatest_of, outflow_of}
use Rattle.model.specs.Flow.{capacity_at, demand_at, most_release_at, share_at, cumulative_at}
use Rattle.model.specs.Move.{moved_to, counted_of}
use Rattle.model.specs.Schedules.{road_at, outflows_of, schedule_after, engine_after}
use Rattle.model.specs.Record.{number_of, seconds_size, bytes_of}
use Rattle.model.specs.Limits.{place_ok, row_ok}
use Rattle.model.specs.Reading.{reading_by}
use Rattle.model.specs.Stepping.{lowest_of, table_fault}
use Rattle.model.specs.Running.{EndAnswer, end_of, opening_of}
use Rattle.model.specs.Judging.{outflow_fault_at, verdict_of, judging_of}
use Rattle.model.specs.Meter.{alinea_of, wish_of, whole_below, law_finite, law_ok, law_fault_of}
use Rattle.model.specs.Filling.{release_of, granted_at, filled_row, metered_of}
use Rattle.model.specs.Put.{put_releases, put_table, released_row}
use Rattle.model.specs.Filling.{metered_from, filled_bytes, filling_of, record_after, filled_list}
use Rattle.model.specs.WorkedRecord.{sample, header, upstream, downstream, row}
use Rattle.model.specs.WorkedSchedule.{still}
use Rattle.model.specs.WorkedWishes.{number}

-- cell 1 has no ramp, and its law is ignored; the law of cell 2 is ALINEA with gain 0.1 and a target of 5,000 parts
unfoldable pub laws : List Law
laws = law.Fixed (number 0 1) ∷ law.Alinea (record { gain = number 1 10; target = number 5000 1 }) ∷ []

-- of an answer: the refusal's number, total and ramp time
abbrev shown : EndAnswer → List ℕ
shown e = e.number ∷ total_of e.state ∷ e.state.ramp_time ∷ []

-- filling makes all three steps, with these outflows and this total
pub record SampleFills : Type 0 where
  pub answer : shown (filling_of laws sample [] still) ≡ 0 ∷ 33002 ∷ 6440 ∷ []
  pub outflows : filled_list laws sample [] still ≡ 1500 ∷ 1000 ∷ 1000 ∷ 1375 ∷ 1047 ∷ 1000 ∷ 1293 ∷ 894 ∷ 1000 ∷ []

pub fills : SampleFills
unfolding sample header upstream downstream row reading_by one_of number_of seconds_size
    thousandths_of demand_of gate_demand_of supply_of room_of onward_of entering_of greatest_of outflow_of
    sum_of fill_of list_of first_from first_of first_fault place_ok row_ok
    capacity_at demand_at most_release_at share_at cumulative_at moved_to counted_of outflows_of lowest_of table_fault road_at engine_after
    laws number round add sub mul le of_int alinea_of wish_of whole_below law_finite law_ok law_fault_of
    released_row release_of granted_at filled_row metered_of metered_from filling_of filled_list front_of concat_of
fills = record { answer = refl; outflows = refl }

-- judging accepts the schedule that sends nothing for the filled record, with the larger total and the same ramp time
pub rival : shown (judging_of (record_after laws sample [] still) [] still) ≡ 0 ∷ 40500 ∷ 6440 ∷ []
unfolding sample header upstream downstream row reading_by one_of number_of seconds_size
    thousandths_of demand_of gate_demand_of supply_of room_of onward_of entering_of greatest_of outflow_of
    sum_of fill_of list_of first_from first_of first_fault place_ok row_ok
    capacity_at demand_at most_release_at share_at cumulative_at moved_to counted_of outflows_of lowest_of outflow_fault_at verdict_of table_fault road_at engine_after
    laws number round add sub mul le of_int alinea_of wish_of whole_below law_finite law_ok law_fault_of
    released_row release_of granted_at filled_row metered_of metered_from filling_of record_after filled_bytes put_table put_releases placed bytes_of
    schedule_after row_at end_of opening_of judging_of
rival = refl
