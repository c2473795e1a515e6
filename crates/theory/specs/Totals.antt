-- No share 0 before the last: present and the total of a study and of the finer study, by the product of all shares. Assumes nothing.
use Rattle.std.specs.Prelude.{◌≡◌, ℕ, suc, ◌+◌, ◌*◌, ◌≤◌, ◌<◌}
use Rattle.model.specs.declared.Road.{Road}
use Rattle.model.specs.declared.State.{State}
use Rattle.model.specs.Road.{total_of}
use Rattle.model.specs.Flow.{share_at}
use Rattle.model.specs.Move.{present_of}
use Rattle.theory.specs.Finer.{reach_of, thousands_of}

-- some of what leaves each place before the last goes on
abbrev pub SharesNotZero : Road → Type 0
SharesNotZero r = (p : ℕ) → p < r.n → share_at r p ≡ 0 → ⊥

-- after k steps, by the product of all shares: how far the study's present, total and gate time may exceed those of a finer schedule
pub record AboveByShares (K k : ℕ) (r : Road) (s t : State) : Type 0 where
  pub present : K * present_of r s * reach_of r 0 ≤ present_of r t * reach_of r 0 + suc r.n * ((2 * k * K + 1) * thousands_of r 0)
  pub total : K * total_of s * reach_of r 0 ≤ total_of t * reach_of r 0 + suc r.n * ((k * (k + 1) * K + k) * thousands_of r 0)
  pub gate_time : K * s.gate_time * reach_of r 0 ≤ t.gate_time * reach_of r 0 + k * (k + 1) * K * thousands_of r 0

-- and how far those of a finer schedule in which demand or room decides may exceed the study's
pub record BelowByShares (K k : ℕ) (r : Road) (s t : State) : Type 0 where
  pub present : present_of r t * reach_of r 0 ≤ K * present_of r s * reach_of r 0 + suc r.n * ((k * (K + 1) + K) * thousands_of r 0)
  pub total : 2 * (total_of t * reach_of r 0)
      ≤ 2 * (K * total_of s * reach_of r 0) + suc r.n * ((k * (k + 1) * (K + 1) + 2 * k * K) * thousands_of r 0)
  pub gate_time : 2 * (t.gate_time * reach_of r 0) ≤ 2 * (K * s.gate_time * reach_of r 0) + k * (k + 1) * (K + 1) * thousands_of r 0

-- both bounds, for the two runs
pub record NearTotal (K k : ℕ) (r : Road) (s t : State) : Type 0 where
  pub above : AboveByShares K k r s t
  pub below : BelowByShares K k r s t
  -- road time is the total less gate and ramp time
  pub road_most : 2 * (t.road_time * reach_of r 0)
      ≤ 2 * (K * s.road_time * reach_of r 0) + suc r.n * ((k * (k + 1) * (3 * K + 1) + 2 * k * K) * thousands_of r 0)
  pub road_least : 2 * (K * s.road_time * reach_of r 0)
      ≤ 2 * (t.road_time * reach_of r 0) + suc r.n * ((k * (k + 1) * (3 * K + 1) + 2 * k) * thousands_of r 0)
