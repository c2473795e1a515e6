-- Shares 1,000 before the last: present and the three times of a study and of the finer study. Assumes nothing.
use Prim.Native.Nat.{ℕ, ◌+◌, ◌*◌, ◌≤◌}
use Rattle.model.specs.declared.Road.{Road}
use Rattle.model.specs.declared.State.{State}
use Rattle.model.specs.Road.{total_of}
use Rattle.model.specs.Move.{present_of}

-- present, total and gate time of the study exceed those of a finer schedule by at most this much after k steps; one part is K finer parts
pub record AboveAtMost (K k : ℕ) (r : Road) (s t : State) : Type 0 where
  pub present : K * present_of r s ≤ present_of r t + k * K
  pub total : 2 * (K * total_of s) ≤ 2 * total_of t + k * (k + 1) * K
  pub gate_time : 2 * (K * s.gate_time) ≤ 2 * t.gate_time + k * (k + 1) * K

-- and they are never less
pub record NotBelow (K : ℕ) (r : Road) (s t : State) : Type 0 where
  pub present : present_of r t ≤ K * present_of r s
  pub total : total_of t ≤ K * total_of s
  pub gate_time : t.gate_time ≤ K * s.gate_time
