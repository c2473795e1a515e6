-- Theorems: the filled record reads as the record did, running it is not refused, and it gives filling's list, road and state. Assumes nothing.
use Rattle.std.specs.Prelude.{◌≡◌, List, ℕ, ◌≤◌, ◌<◌, length}
use Rattle.std.proofs.Math.Path.{refl, ap, subst⁻¹}
use Rattle.std.proofs.Common.{sym, ◌∙◌, arith}
use Rattle.model.specs.Schedules.{Study, road_at, table_size, engine_after}
use Rattle.limits.specs.LimitsLaws.{row_ok_lem}
use Rattle.model.specs.Record.{record_row}
use Rattle.model.specs.declared.Law.{Law}
use Rattle.model.specs.Reading.{ReadAnswer, reading_of, study_by, study_of}
use Rattle.model.specs.Filling.{filled_row}
use Rattle.model.specs.Put.{released_row}
use Rattle.put.specs.ReleasesLaws.{PutTable, put_table_lem, table_head}
use Rattle.put.specs.SameReading.{rows_replaced}
use Rattle.theory.specs.StepLaws.{number_of_lem}
use Rattle.theory.specs.RunsLaws.{StudyOk, SharedSteps}
use Rattle.theory.proofs.RunsLaws.{shared_less, engine_shared}
use Rattle.model.specs.Running.{run_fault, first_step, end_with, lanes_fault, run_end, running_of, table_of, list_after}
use Rattle.theory.specs.SchedulesLaws.{run_table}
use Rattle.theory.proofs.SchedulesLaws.{step_none, end_all}
use Rattle.theory.proofs.TableLaws.{table_shared}
use Rattle.theory.proofs.RunEnds.{runs_long, writes_long}
use Rattle.model.specs.Demand.{Openable}
use Rattle.theory.specs.Readable.{readable}
use Rattle.model.specs.Filling.{metered_after, granted_in, filled_study, filled_bytes}
use Rattle.filling.specs.FillingLaws.{filled_rows, filled_run, releases_small, filled_ok, filled_passes}

module _ (laws : List Law) (bytes lanes : List ℕ) (openable : Openable bytes lanes) where
  abbrev a : Study
  a = study_of bytes lanes

  abbrev b : Study
  b = filled_study laws (study_of bytes lanes)

  abbrev filled : List ℕ
  filled = filled_bytes laws bytes lanes

  ok : StudyOk (study_of bytes lanes)
  ok = (readable bytes lanes (reading_of bytes) refl openable.reads openable.opens).ok

  -- only the releases of its rows change
  pub filled_table : PutTable bytes (filled_bytes laws bytes lanes) (study_of bytes lanes).road.n (granted_in laws (study_of bytes lanes)) (study_of bytes lanes).steps
  unfolding filled_bytes
  filled_table =
      put_table_lem bytes a.road.n (granted_in laws a) a.steps (readable bytes lanes (reading_of bytes) refl openable.reads openable.opens).row
      (λ t i l m. releases_small laws a t i)

  -- its rows are the filled ones
  pub filled_rows_lem : (k : ℕ) → k < (study_of bytes lanes).steps
      → record_row (filled_bytes laws bytes lanes) (study_of bytes lanes).road.n k ≡ filled_rows laws (study_of bytes lanes) k
  unfolding filled_row
  filled_rows_lem k l =
      filled_table.row k l ∙ ap (λ (n : ℕ). released_row (granted_in laws a k) n (record_row bytes a.road.n k)) (sym (ok.roads k).n)

  -- it reads as the record did
  pub filled_reads : reading_of (filled_bytes laws bytes lanes) ≡ reading_of bytes
  filled_reads =
      rows_replaced bytes filled filled_table.size openable.reads (table_head filled_table)
      (λ t l. rw (filled_rows_lem t l) (row_ok_lem a.road (filled_rows laws a t) ok.road ((filled_ok laws a ok).row t l)))

  pub same_study : study_of (filled_bytes laws bytes lanes) lanes
      ≡ study_by (filled_bytes laws bytes lanes) lanes (study_of bytes lanes).road (study_of bytes lanes).start (study_of bytes lanes).steps
  same_study = ap (λ (x : ReadAnswer). study_by filled lanes x.road x.state x.steps) filled_reads

  -- so its study is the filled study, up to its last step
  pub filled_shared : SharedSteps (study_by (filled_bytes laws bytes lanes) lanes (study_of bytes lanes).road (study_of bytes lanes).start (study_of bytes lanes).steps)
      (filled_study laws (study_of bytes lanes)) (study_of bytes lanes).steps
  unfolding road_at
  filled_shared = record { start = refl; roads = λ j l. refl; rows = filled_rows_lem }

  filled_faults : (k : ℕ) → k < a.steps → (run_fault (study_by filled lanes a.road a.start a.steps) k).number ≡ 0
  filled_faults k l =
      let e : run_fault (study_by filled lanes a.road a.start a.steps) k ≡ run_fault b k =
      rw (engine_shared k (shared_less filled_shared k (omega arith)), filled_shared.roads k l, filled_shared.rows k l) in
      number_of_lem (e ∙ filled_passes laws a ok k l)

  none : first_step (run_fault (study_by filled lanes a.road a.start a.steps)) a.steps ≡ a.steps
  none = step_none (run_fault (study_by filled lanes a.road a.start a.steps)) a.steps filled_faults

  -- so no refusal applies to it under the table that it was filled with
  pub filled_openable : Openable (filled_bytes laws bytes lanes) lanes
  filled_openable = record {
    reads = ap (λ (x : ReadAnswer). x.number) filled_reads ∙ openable.reads;
    opens = ap (λ (x : Study). (lanes_fault x).number) same_study ∙ openable.opens;
  }

  -- running it with a list that is long enough is not refused, and ends in the state of filling
  module _ (list : List ℕ) (long : table_size (study_of bytes lanes) ≤ length list) where
    abbrev c : Study
    c = study_by filled lanes a.road a.start a.steps

    long_on : table_size (study_of filled lanes) ≤ length list
    long_on = subst⁻¹ (λ (x : Study). table_size x ≤ length list) same_study long

    pub filled_runs : running_of (filled_bytes laws bytes lanes) lanes list
        ≡ end_with 0 0 0 (study_of bytes lanes).road (metered_after laws (study_of bytes lanes) (study_of bytes lanes).steps).state
    filled_runs =
        runs_long filled lanes filled_openable list long_on
        ∙ ap run_end same_study
        ∙ end_all c (run_fault c) (engine_after c) none
        ∙ ap (end_with 0 0 0 a.road) (engine_shared a.steps filled_shared ∙ filled_run laws a a.steps)

    -- it writes the outflows of all filled steps
    pub filled_writes : list_after (filled_bytes laws bytes lanes) lanes list ≡ table_of (filled_study laws (study_of bytes lanes)) list (study_of bytes lanes).steps
    filled_writes =
        writes_long filled lanes filled_openable list long_on
        ∙ ap (λ (x : Study). run_table x list) same_study
        ∙ ap (table_of c list) none
        ∙ table_shared refl list a.steps filled_shared
