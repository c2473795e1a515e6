-- Facts about a record and a progress that filling goes on from. Assumes nothing.
use Rattle.std.specs.Prelude.{◌≡◌, List, ℕ, ◌≤◌, ◌<◌, length}
use Rattle.model.specs.Numbers.{at}
use Rattle.model.specs.declared.Progress.{Progress}
use Rattle.model.specs.Schedules.{Study, table_size}
use Rattle.model.specs.Record.{record_row}
use Rattle.model.specs.Filling.{MeterState}
use Rattle.theory.specs.Readable.{Readable}
use Rattle.filling.specs.FillingLoop.{FillableFrom}

-- its arrays have an entry for each of n cells
pub record Long (n : ℕ) (p : Progress) : Type 0 where
  pub held : n ≤ length p.state.held
  pub queue : n ≤ length p.state.queue
  pub cumulative : n ≤ length p.state.cumulative
  pub releases : n ≤ length p.releases
  pub entries : n ≤ length p.entries

-- the record reads and has a step, and neither 7 nor 8 applies
pub record ProgressOk (bytes : List ℕ) (a : Study) (m : MeterState) : Type 0 where
  pub readable : Readable bytes a
  pub some : 1 ≤ a.steps
  pub entered : (i : ℕ) → i < a.road.n → at m.entries i ≤ at a.start.held i
  pub releases : a.road.n ≤ length m.releases
  pub entries : a.road.n ≤ length m.entries

pub progress_fillable : {bytes : List ℕ} {a : Study} {m : MeterState} {list : List ℕ} → ProgressOk bytes a m
    → ((k : ℕ) → a.rows k ≡ record_row bytes a.road.n k) → table_size a ≤ length list → FillableFrom bytes a m list
progress_fillable h rows long = record {
  fillable = record { readable = h.readable; rows = rows; long = long };
  entered = h.entered;
  long_releases = h.releases;
  long_entries = h.entries;
}
