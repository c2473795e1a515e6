-- Laws of filling from any start: the engine's run of the filled rows has the same states and no fault. Assumes nothing.
use Rattle.std.specs.Prelude.{◌≡◌, List}
use Rattle.std.proofs.Math.Path.{refl}
use Prim.Native.Nat.{ℕ, zero, suc, ◌^◌, ◌≤◌, ◌<◌}
use Rattle.std.proofs.Common.{arith}
use Rattle.model.specs.Refusals.{fault}
use Rattle.model.specs.Schedules.{Study, road_at, ReleasesFit, engine_after}
use Rattle.limits.specs.LimitsLaws.{RowOk}
use Rattle.model.specs.declared.Law.{Law}
use Rattle.theory.specs.StepLaws.{number_of_lem, fit_releases}
use Rattle.theory.specs.Roads.{step_row, row_back}
use Rattle.theory.specs.RunsLaws.{StudyOk, ReachedState}
use Rattle.model.specs.Running.{run_fault}
use Rattle.theory.proofs.SchedulesLaws.{run_reached}
use Rattle.model.specs.Filling.{MeterState, metered_of}
use Rattle.ramps.specs.RampsLaws.{granted_small, filled_fits, filled_row_lem}
use Rattle.model.specs.Filling.{metered_from, granted_from, rows_from, filled_from}

-- the wishes of step 0 are computed from m
module _ (laws : List Law) (a : Study) (m : MeterState) (starts : a.start ≡ m.state) where
  -- the road of a step is unchanged
  pub filled_road : (k : ℕ) → road_at (filled_from laws a m) k ≡ road_at a k
  unfolding road_at
  filled_road k = refl

  -- the engine's run of the filled rows has the states of filling
  pub filled_run : (k : ℕ) → engine_after (filled_from laws a m) k ≡ (metered_from laws a m k).state
  unfolding engine_after metered_from metered_of
  filled_run zero = starts
  filled_run (suc k) = rw (filled_run k, filled_road k)

  pub releases_small : (t i : ℕ) → granted_from laws a m t i < 2 ^ 32
  releases_small t i = granted_small laws (road_at a t) (metered_from laws a m t) (a.rows t) i

  module _ (ok : StudyOk a) where
    row_of : (k : ℕ) → k < a.steps → RowOk (road_at a k) (a.rows k)
    row_of k l = step_row (ok.roads k) (a.rows k) (ok.row k l)

    -- the filled study is within the limits
    pub filled_ok : StudyOk (filled_from laws a m)
    filled_ok = record {
      road = ok.road;
      roads = λ k. rw (filled_road k) (ok.roads k);
      start = ok.start;
      sized = ok.sized;
      steps = ok.steps;
      row = λ k l. row_back (ok.roads k) (rows_from laws a m k) (filled_row_lem laws (road_at a k) (metered_from laws a m k) (a.rows k) (row_of k l));
    }

    -- each filled release fits in the state of filling, and its run has no fault
    pub filled_released : (k : ℕ) → k < a.steps → ReleasesFit (road_at a k) (metered_from laws a m k).state (rows_from laws a m k)
    filled_released k l = filled_fits laws (road_at a k) (metered_from laws a m k) (a.rows k) (row_of k l).numbers

    pub filled_passes : (k : ℕ) → k < a.steps → run_fault (filled_from laws a m) k ≡ fault 0 0
    filled_passes k l =
        rw (filled_run k, filled_road k)
        (fit_releases (road_at a k) (metered_from laws a m k).state (rows_from laws a m k) (filled_released k l))

    -- so its states are within the limits
    pub filled_reached : (k : ℕ) → k ≤ a.steps → ReachedState (filled_from laws a m) (engine_after (filled_from laws a m) k) k
    filled_reached k l = run_reached (filled_from laws a m) filled_ok k l (λ j i. number_of_lem (filled_passes j (omega arith)))
