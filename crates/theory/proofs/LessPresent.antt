-- Of two states that are level, the one behind has no less present; so with the totals of two runs. Assumes nothing.
use Rattle.std.specs.Prelude.{ℕ, suc, ◌≤◌, ◌<◌}
use Rattle.std.proofs.Common.{le_refl, arith}
use Rattle.numbers.specs.RowsLaws.{sum_list_le}
use Rattle.model.specs.declared.Road.{Road}
use Rattle.model.specs.declared.State.{State}
use Rattle.limits.specs.LimitsLaws.{RoadOk}
use Rattle.model.specs.Move.{present_of}
use Rattle.model.specs.Weights.{weighted_present, weighted_total, Falling}
use Rattle.theory.specs.WeightsLaws.{ones, weighted_ones}
use Rattle.theory.specs.TwoStates.{Level}
use Rattle.theory.proofs.TwoStates.{weighted_le}

-- present is the case with all weights 1
pub present_le : (r : Road) (s t : State) → RoadOk r → Level r s t → present_of r s ≤ present_of r t
present_le r s t road h =
    omega (
      arith,
      weighted_le r s t road h ones ones (record { falls = λ p l. le_refl 1 }),
      weighted_ones r s h.sized_s,
      weighted_ones r t h.sized_t,
    )

-- the same for the totals of two runs that are level after each step
pub weighted_total_le : (w u : ℕ → ℕ) (r : Road) (f g : ℕ → State) (k : ℕ) → RoadOk r → Falling w r.n
    → ((j : ℕ) → j < k → Level r (f (suc j)) (g (suc j))) → weighted_total w u r.n f k ≤ weighted_total w u r.n g k
unfolding weighted_total
weighted_total_le w u r f g k road falling h =
    sum_list_le (λ j. weighted_present w u r.n (f (suc j))) (λ j. weighted_present w u r.n (g (suc j))) k
    (λ j l. weighted_le r (f (suc j)) (g (suc j)) road (h j l) w u falling)
