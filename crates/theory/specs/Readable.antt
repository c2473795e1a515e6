-- A record that reads without refusal, with a table of lanes that has no fault, is within the limits of running and judging. Assumes nothing.
use Rattle.std.specs.Prelude.{◌≡◌, refl, List, [], ℕ, ◌≤◌, ◌<◌}
use Rattle.std.proofs.Common.{arith}
use Rattle.model.specs.Road.{most_seconds}
use Rattle.model.specs.Schedules.{Study, table_size}
use Rattle.fields.specs.FieldsLaws.{HoldsRow}
use Rattle.model.specs.Stepping.{table_fault}
use Rattle.theory.specs.StepLaws.{number_of_lem, TableOk, table_ok, table_empty}
use Rattle.theory.specs.OpenRoad.{step_roads}
use Rattle.theory.specs.RunsLaws.{StudyOk}
use Rattle.model.specs.Reading.{ReadAnswer, reading_of, study_by}
use Rattle.reading.specs.Within.{read_within_lem, read_row_lem}
use Rattle.reading.specs.Numbers.{read_numbers, read_entries}
use Rattle.model.specs.Listing.{most_outflows}
use Rattle.reading.specs.Table.{read_table}
use Rattle.model.specs.Demand.{Openable}
use Rattle.reading.specs.Versions.{read_seconds}

-- the study is within the limits, its seconds too, and the record holds its rows
pub record Readable (bytes : List ℕ) (a : Study) : Type 0 where
  pub ok : StudyOk a
  pub row : (k : ℕ) → k < a.steps → HoldsRow bytes a.road.n k
  pub outflows : table_size a ≤ most_outflows
  pub table : TableOk a.lanes a.road.n a.steps
  pub seconds : a.road.seconds ≤ most_seconds

pub readable : (bytes lanes : List ℕ) (x : ReadAnswer) → x ≡ reading_of bytes → x.number ≡ 0 → (table_fault lanes x.road.n x.steps).number ≡ 0
    → Readable bytes (study_by bytes lanes x.road x.state x.steps)
readable bytes lanes x e h f =
    let t = table_ok lanes x.road.n x.steps f in
    let c = (read_numbers bytes x e h).capacity.entries in
    let w = read_within_lem bytes x e h in
    let m = read_entries bytes x e h in
    record {
      ok = record {
        road = w.road;
        roads = step_roads (study_by bytes lanes x.road x.state x.steps) w.road (omega (arith, w.road.cells, c)) t;
        start = w.state;
        sized = record {
          held = omega (arith, w.road.cells, m.held);
          queue = omega (arith, w.road.cells, m.queue);
          cumulative = omega (arith, w.road.cells, m.cumulative);
        };
        steps = omega (arith, w.steps, (read_numbers bytes x e h).done);
        row = w.row;
      };
      row = read_row_lem bytes x e h;
      outflows = read_table bytes x e h;
      table = t;
      seconds = read_seconds bytes x e h;
    }

-- the same with the empty table
pub readable_open : (bytes : List ℕ) (x : ReadAnswer) → x ≡ reading_of bytes → x.number ≡ 0 → Readable bytes (study_by bytes [] x.road x.state x.steps)
readable_open bytes x e h = readable bytes [] x e h (number_of_lem (table_empty [] x.road.n x.steps refl))

pub openable_empty : (bytes : List ℕ) → (reading_of bytes).number ≡ 0 → Openable bytes []
openable_empty bytes h = record { reads = h; opens = number_of_lem (table_empty [] (reading_of bytes).road.n (reading_of bytes).steps refl) }
