-- Laws of filling from a record's start: those of `FillingFrom`, with last releases and entries 0. Assumes nothing.
use Rattle.std.specs.Prelude.{◌≡◌, refl, List, ℕ, ◌^◌, ◌≤◌, ◌<◌}
use Rattle.model.specs.Refusals.{fault}
use Rattle.model.specs.Schedules.{Study, road_at, ReleasesFit, engine_after}
use Rattle.model.specs.declared.Law.{Law}
use Rattle.theory.specs.RunsLaws.{StudyOk, ReachedState}
use Rattle.model.specs.Running.{run_fault}
use Rattle.model.specs.Filling.{meter_start}
use Rattle.model.specs.Filling.{metered_after, granted_in, rows_from, filled_study}
use Rattle.filling.specs.FillingFrom as from

-- the rows of a study with their releases filled
abbrev pub filled_rows : List Law → Study → ℕ → List ℕ
filled_rows laws a k = rows_from laws a (meter_start a.start) k

module _ (laws : List Law) (a : Study) where
  pub filled_road : (k : ℕ) → road_at (filled_study laws a) k ≡ road_at a k
  filled_road = from.filled_road laws a (meter_start a.start) refl

  pub filled_run : (k : ℕ) → engine_after (filled_study laws a) k ≡ (metered_after laws a k).state
  filled_run = from.filled_run laws a (meter_start a.start) refl

  pub releases_small : (t i : ℕ) → granted_in laws a t i < 2 ^ 32
  releases_small = from.releases_small laws a (meter_start a.start) refl

  module _ (ok : StudyOk a) where
    pub filled_ok : StudyOk (filled_study laws a)
    filled_ok = from.filled_ok laws a (meter_start a.start) refl ok

    pub filled_released : (k : ℕ) → k < a.steps → ReleasesFit (road_at a k) (metered_after laws a k).state (filled_rows laws a k)
    filled_released = from.filled_released laws a (meter_start a.start) refl ok

    pub filled_passes : (k : ℕ) → k < a.steps → run_fault (filled_study laws a) k ≡ fault 0 0
    filled_passes = from.filled_passes laws a (meter_start a.start) refl ok

    pub filled_reached : (k : ℕ) → k ≤ a.steps → ReachedState (filled_study laws a) (engine_after (filled_study laws a) k) k
    filled_reached = from.filled_reached laws a (meter_start a.start) refl ok
