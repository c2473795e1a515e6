-- The sums over a schedule's states, for every record that reads and every table of lanes: the three times, the total, F and conservation. Assumes nothing.
use Rattle.std.specs.Prelude.{◌≡◌, List}
use Prim.Native.Nat.{ℕ, suc, ◌+◌, ◌≤◌}
use Rattle.model.specs.Numbers.{at, sum_of, list_of}
use Rattle.model.specs.Road.{total_of}
use Rattle.model.specs.Schedules.{Study, proposed_at, scheduled_at}
use Rattle.model.specs.Flow.{cumulative_at}
use Rattle.model.specs.Move.{held_sum, queue_sum, present_of, exits_of}
use Rattle.theory.specs.RunsLaws.{arrivals_to}

-- the sums after k steps of a table of outflows
pub record Accounts (a : Study) (zs : List ℕ) (k : ℕ) : Type 0 where
  -- gate, road and ramp time are sums over the states after these steps: of the gate queue, of all held counts and of all ramp queues
  pub gate_time : (scheduled_at a zs k).gate_time ≡ sum_of (list_of (λ j. (scheduled_at a zs (suc j)).gate_queue) k)
  pub road_time : (scheduled_at a zs k).road_time ≡ sum_of (list_of (λ j. held_sum a.road (scheduled_at a zs (suc j))) k)
  pub ramp_time : (scheduled_at a zs k).ramp_time ≡ sum_of (list_of (λ j. queue_sum a.road (scheduled_at a zs (suc j))) k)
  -- the total is the sum of present
  pub total : total_of (scheduled_at a zs k) ≡ sum_of (list_of (λ j. present_of a.road (scheduled_at a zs (suc j))) k)
  -- each F is the sum of its column of outflows
  pub cumulative : (p : ℕ) → p ≤ a.road.n → cumulative_at (scheduled_at a zs k) p ≡ sum_of (list_of (λ j. at (proposed_at a zs j) p) k)
  -- start plus arrivals equals present plus exits
  pub conserved : present_of a.road a.start + arrivals_to a k
      ≡ present_of a.road (scheduled_at a zs k) + exits_of a.road (scheduled_at a zs k)
