-- Weighted totals with weight 1: everywhere, the total; only at the gate, gate time; only at the cells, road time; only at the ramps, ramp time.
-- Assumes nothing.
use Rattle.std.specs.Prelude.{◌≡◌, refl, List, ℕ, suc}
use Rattle.std.proofs.Common.{sym, ◌∙◌}
use Rattle.model.specs.Numbers.{sum_of, list_of}
use Rattle.numbers.specs.RowsLaws.{sum_list_same}
use Rattle.model.specs.declared.State.{State}
use Rattle.model.specs.Road.{total_of}
use Rattle.model.specs.Schedules.{Study, proposed_at, scheduled_at}
use Rattle.model.specs.Move.{held_sum, queue_sum, present_of}
use Rattle.theory.specs.RulesLaws.{Sized}
use Rattle.theory.proofs.RunsLaws.{schedule_sized}
use Rattle.model.specs.Weights.{weighted_present, weighted_total, weighted_total_of_schedule}
use Rattle.theory.specs.WeightsLaws.{ones, none, gate_alone, cells_alone, weighted_ones, weighted_gate, weighted_cells_lem, weighted_ramps}
use Rattle.model.specs.Reading.{reading_of, study_of}
use Rattle.theory.specs.Readable.{readable}
use Rattle.model.specs.Demand.{Reaches, Openable}
use Rattle.theory.proofs.Accounts.{accounts}

-- for every schedule, after every step that it reaches; the rows of the run are such a schedule
module _ (bytes lanes zs : List ℕ) (openable : Openable bytes lanes) (k : ℕ) (reach : Reaches (study_of bytes lanes) zs k) where
  abbrev a : Study
  a = study_of bytes lanes

  at_step_lem : (j : ℕ) → Sized a.road (scheduled_at a zs (suc j))
  at_step_lem j = schedule_sized a (proposed_at a zs) (readable bytes lanes (reading_of bytes) refl openable.reads openable.opens).ok (suc j)

  module _ (w u : ℕ → ℕ) (count : State → ℕ) (h : (s : State) → Sized a.road s → weighted_present w u a.road.n s ≡ count s) where
    counts : weighted_total_of_schedule w u (study_of bytes lanes) zs k ≡ sum_of (list_of (λ j. count (scheduled_at (study_of bytes lanes) zs (suc j))) k)
    unfolding weighted_total
    counts = sum_list_same _ _ k (λ j l. h (scheduled_at a zs (suc j)) (at_step_lem j))

  pub ones_total : weighted_total_of_schedule ones ones (study_of bytes lanes) zs k ≡ total_of (scheduled_at (study_of bytes lanes) zs k)
  ones_total = counts ones ones (present_of a.road) (weighted_ones a.road) ∙ sym (accounts bytes lanes zs openable k reach).total

  pub gate_time_lem : weighted_total_of_schedule gate_alone none (study_of bytes lanes) zs k ≡ (scheduled_at (study_of bytes lanes) zs k).gate_time
  gate_time_lem = counts gate_alone none (λ s. s.gate_queue) (weighted_gate a.road) ∙ sym (accounts bytes lanes zs openable k reach).gate_time

  pub road_time_lem : weighted_total_of_schedule cells_alone none (study_of bytes lanes) zs k ≡ (scheduled_at (study_of bytes lanes) zs k).road_time
  road_time_lem = counts cells_alone none (held_sum a.road) (weighted_cells_lem a.road) ∙ sym (accounts bytes lanes zs openable k reach).road_time

  pub ramp_time_lem : weighted_total_of_schedule none ones (study_of bytes lanes) zs k ≡ (scheduled_at (study_of bytes lanes) zs k).ramp_time
  ramp_time_lem = counts none ones (queue_sum a.road) (weighted_ramps a.road) ∙ sym (accounts bytes lanes zs openable k reach).ramp_time
