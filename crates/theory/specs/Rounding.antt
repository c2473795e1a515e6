-- What rounding costs: how far a study's numbers are from those of the same study counted K times finer, and from the papers' real numbers.
-- The bounds hold after every step that both reach, for every K. Assumes nothing.
use Rattle.std.specs.Prelude.{◌≡◌, ◌⊎◌, List, ℕ, suc, ◌+◌, ◌*◌, ◌≤◌, ◌<◌, length}
use Rattle.model.specs.Numbers.{at}
use Rattle.model.specs.declared.Road.{Road}
use Rattle.model.specs.declared.State.{State}
use Rattle.model.specs.Flow.{cumulative_at}
use Rattle.theory.specs.Finer.{reach_of, thousands_of}
use Rattle.theory.specs.FinerLaws.{most_finer}
use Rattle.theory.specs.Present.{AboveAtMost, NotBelow}

-- states after k steps: s of the study, t of the finer one. For place p let R be the product of the shares from p on and m their number: no F
-- differs by more than 2 k parts (each K finer parts), divided by R ÷ 1,000^m, the part of its outflow that reaches the end
pub record Near (K k : ℕ) (r : Road) (s t : State) : Type 0 where
  pub most : (p : ℕ) → p ≤ r.n → cumulative_at t p * reach_of r p ≤ K * cumulative_at s p * reach_of r p + 2 * k * K * thousands_of r p
  pub least : (p : ℕ) → p ≤ r.n → K * cumulative_at s p * reach_of r p ≤ cumulative_at t p * reach_of r p + k * (K + 1) * thousands_of r p
  -- the gate's queue differs by as much; a held count by what has entered and what has left; ramp queues and ramp time are exact
  pub queue_most : t.gate_queue * reach_of r 0 ≤ K * s.gate_queue * reach_of r 0 + k * (K + 1) * thousands_of r 0
  pub queue_least : K * s.gate_queue * reach_of r 0 ≤ t.gate_queue * reach_of r 0 + 2 * k * K * thousands_of r 0
  pub held_most : (i : ℕ) → i < r.n
      → at t.held i * reach_of r (suc i) ≤ K * at s.held i * reach_of r (suc i) + k * (3 * K + 1) * thousands_of r (suc i)
  pub held_least : (i : ℕ) → i < r.n
      → K * at s.held i * reach_of r (suc i) ≤ at t.held i * reach_of r (suc i) + k * (3 * K + 1) * thousands_of r (suc i)
  pub ramp_queue : (i : ℕ) → i < r.n → at t.queue i ≡ K * at s.queue i
  pub ramp_time : t.ramp_time ≡ K * s.ramp_time

-- the same if all that leaves a cell enters the next one: no F of the finer study is smaller, and none is larger by more than k parts.
-- Present is smaller by at most k parts, and the total by at most k (k + 1) ÷ 2
pub record NearWhole (K k : ℕ) (r : Road) (s t : State) : Type 0 where
  pub least : (p : ℕ) → p ≤ r.n → K * cumulative_at s p ≤ cumulative_at t p
  pub most : (p : ℕ) → p ≤ r.n → cumulative_at t p ≤ K * cumulative_at s p + k * K
  pub not_below : NotBelow K r s t
  pub above : AboveAtMost K k r s t
  -- road time is the total less gate and ramp time
  pub road_most : 2 * t.road_time ≤ 2 * (K * s.road_time) + k * (k + 1) * K
  pub road_least : 2 * (K * s.road_time) ≤ 2 * t.road_time + k * (k + 1) * K

-- every record without a refusal can be counted K times finer: for every K with all lanes open, for K up to 4,294 under a table of lanes
abbrev pub Within : List ℕ → ℕ → Type 0
Within lanes K = (length lanes ≡ 0) ⊎ (K ≤ most_finer)
