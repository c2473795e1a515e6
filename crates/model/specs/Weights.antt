-- docs/MODEL.md, 'Weights': present and total time spent with weights. Assumes nothing.
use Rattle.std.specs.Prelude.{List, ℕ, suc, ◌+◌, ◌*◌, ◌≤◌, ◌<◌}
use Rattle.model.specs.declared.State.{State}
use Rattle.model.specs.Numbers.{at, sum_of, list_of}
use Rattle.model.specs.Schedules.{Study, engine_after, scheduled_at}
use Rattle.model.specs.Reading.{study_of}
use Rattle.model.specs.Running.{steps_made, running_of}

-- the sum of weight times count over the first n cells
abbrev pub weighted_sum : (ℕ → ℕ) → (ℕ → ℕ) → ℕ → ℕ
weighted_sum weight count n = sum_of (list_of (λ i. weight i * count i) n)

-- present of n cells with weights, gate first: w p is the weight of place p, and u i that of the ramp queue of the cell at i
unfoldable pub weighted_present : (ℕ → ℕ) → (ℕ → ℕ) → ℕ → State → ℕ
weighted_present w u n s = w 0 * s.gate_queue + weighted_sum (λ i. w (suc i)) (at s.held) n + weighted_sum u (at s.queue) n

-- the weighted sum of present over the first k steps done; `after` gives the state after each
unfoldable pub weighted_total : (ℕ → ℕ) → (ℕ → ℕ) → ℕ → (ℕ → State) → ℕ → ℕ
weighted_total w u n after k = sum_of (list_of (λ j. weighted_present w u n (after (suc j))) k)

-- no place weighs more than the one before it, gate first
pub record Falling (w : ℕ → ℕ) (n : ℕ) : Type 0 where
  pub falls : (p : ℕ) → p < n → w (suc p) ≤ w p

-- a weighted run takes weights w of places, gate first, and u of ramps, and gives the weighted sum of present over the steps done; 0 if none was done
unfoldable pub weighted_total_of_run : (ℕ → ℕ) → (ℕ → ℕ) → List ℕ → List ℕ → List ℕ → ℕ
weighted_total_of_run w u bytes lanes list =
    weighted_total w u (study_of bytes lanes).road.n (engine_after (study_of bytes lanes)) (steps_made (study_of bytes lanes) (running_of bytes lanes list))

-- the weighted total over k steps of a table of outflows, in its own states
abbrev pub weighted_total_of_schedule : (ℕ → ℕ) → (ℕ → ℕ) → Study → List ℕ → ℕ → ℕ
weighted_total_of_schedule w u a zs k = weighted_total w u a.road.n (scheduled_at a zs) k
