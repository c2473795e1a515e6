-- Weights past cell n are not read: weights that agree up to cell n give the same weighted totals of a run and of every schedule.
-- Assumes nothing.
use Rattle.std.specs.Prelude.{◌≡◌, List, ℕ, ◌≤◌, ◌<◌}
use Rattle.model.specs.Schedules.{engine_after, scheduled_at}
use Rattle.theory.specs.WeightsLaws.{total_unread}
use Rattle.model.specs.Reading.{study_of}
use Rattle.model.specs.Running.{steps_made, running_of}
use Rattle.model.specs.Weights.{weighted_total_of_run, weighted_total_of_schedule}

module _ (bytes lanes : List ℕ) (w v u x : ℕ → ℕ) (places : (p : ℕ) → p ≤ (study_of bytes lanes).road.n → w p ≡ v p)
    (ramps : (i : ℕ) → i < (study_of bytes lanes).road.n → u i ≡ x i) where
  pub run_unread : (list : List ℕ) → weighted_total_of_run w u bytes lanes list ≡ weighted_total_of_run v x bytes lanes list
  unfolding weighted_total_of_run
  run_unread list =
      total_unread w v u x (study_of bytes lanes).road.n places ramps (engine_after (study_of bytes lanes))
      (steps_made (study_of bytes lanes) (running_of bytes lanes list))

  pub schedule_unread : (zs : List ℕ) (k : ℕ) → weighted_total_of_schedule w u (study_of bytes lanes) zs k ≡ weighted_total_of_schedule v x (study_of bytes lanes) zs k
  schedule_unread zs k = total_unread w v u x (study_of bytes lanes).road.n places ramps (scheduled_at (study_of bytes lanes) zs) k
