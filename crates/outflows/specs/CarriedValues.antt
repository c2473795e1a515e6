-- What a loop over the places carries from one place to the next: share, cumulative outflow and demand. Assumes nothing.
use Rattle.std.specs.Prelude.{◌≡◌, refl, ℕ, ◌+◌, ◌≤◌, ◌<◌}
use Rattle.std.proofs.Common.{sym, ◌∙◌, arith}
use Rattle.model.specs.Flow.{whole, gate_demand_of, demand_of}
use Rattle.model.specs.declared.Road.{Road}
use Rattle.model.specs.declared.State.{State}
use Rattle.model.specs.Numbers.{at}
use Rattle.model.specs.Flow.{capacity_at, demand_at, share_at, cumulative_at}
use Rattle.theory.specs.RulesLaws.{share_cell, cumulative_cell, demand_cell}

pub record CarriedValues (r : Road) (s : State) (share cumulative demand i : ℕ) : Type 0 where
  pub within : i ≤ r.n
  pub shares : share ≡ share_at r i
  pub cumulatives : cumulative ≡ cumulative_at s i
  pub demands : demand ≡ demand_at r s i

-- the values at the gate
pub carried_gate : (r : Road) (s : State) (demand : ℕ) → demand ≡ gate_demand_of r.gate_capacity s.gate_queue
    → CarriedValues r s whole s.gate_cumulative demand 0
unfolding share_at cumulative_at demand_at
carried_gate r s demand e = record { within = omega arith; shares = refl; cumulatives = refl; demands = e }

-- the values after the cell at i
pub carried_cell : (r : Road) (s : State) (i demand : ℕ) → i < r.n
    → demand ≡ demand_of (at r.speed i) (at r.capacity i) (at s.held i)
    → CarriedValues r s (at r.share i) (at s.cumulative i) demand (i + 1)
unfolding capacity_at
carried_cell r s i demand l e = record {
  within = omega arith;
  shares = sym (share_cell r i);
  cumulatives = sym (cumulative_cell s i);
  demands = e ∙ sym (demand_cell r s i);
}
