-- No schedule is ahead of the greatest outflows. Two states have the same arrivals and releases. One side makes each step with the greatest
-- outflows on a road that is nowhere worse, the other with any row that obeys the rules. Assumes nothing.
use Rattle.std.specs.Prelude.{◌≡◌}
use Prim.Native.Nat.{◌≤◌}
use Rattle.model.specs.declared.Road.{Road}
use Rattle.model.specs.declared.State.{State}
use Rattle.model.specs.Road.{total_of}
use Rattle.theory.specs.TwoStates.{Level}

-- s and t are level, their ramp times are equal, and t's total is not smaller
pub record Behind (r : Road) (s t : State) : Type 0 where
  pub level : Level r s t
  pub ramp_time : s.ramp_time ≡ t.ramp_time
  pub total : total_of s ≤ total_of t
