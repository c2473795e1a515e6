-- Two states after the same arrivals and releases, one ahead of the other at every place: the one ahead has no more present.
-- Only the road's cells and shares matter. Assumes nothing.
use Rattle.std.specs.Prelude.{◌≡◌, ℕ, suc, ◌+◌, ◌≤◌, ◌<◌}
use Rattle.model.specs.Numbers.{at}
use Rattle.model.specs.declared.Road.{Road}
use Rattle.model.specs.declared.State.{State}
use Rattle.model.specs.Flow.{cumulative_at}
use Rattle.theory.specs.RulesLaws.{onward_at, Sized}

-- at each place what came in is held or has left, equally in s and t; ramp queues are equal, and no F of t is larger than that of s
pub record Level (r : Road) (s t : State) : Type 0 where
  pub sized_s : Sized r s
  pub sized_t : Sized r t
  pub gate : s.gate_queue + cumulative_at s 0 ≡ t.gate_queue + cumulative_at t 0
  pub cells : (i : ℕ) → i < r.n
      → at s.held i + cumulative_at s (suc i) + onward_at r t i ≡ at t.held i + cumulative_at t (suc i) + onward_at r s i
  pub queues : (i : ℕ) → i < r.n → at s.queue i ≡ at t.queue i
  pub cumulatives : (p : ℕ) → p ≤ r.n → cumulative_at t p ≤ cumulative_at s p
