-- Any shares: one step of a study and of the finer study, with each error divided by the part of the traffic that reaches the end. Assumes nothing.
use Rattle.std.specs.Prelude.{ℕ, suc, ◌+◌, ◌*◌, ◌≤◌, ◌<◌}
use Rattle.model.specs.declared.Road.{Road}
use Rattle.model.specs.declared.State.{State}
use Rattle.model.specs.Flow.{cumulative_at}
use Rattle.theory.specs.RulesLaws.{onward_at}
use Rattle.theory.specs.Finer.{reach_of, thousands_of}

-- t's F and onward total exceed K times those of s by at most U thousands: F times the product R of the shares from its place on, the onward
-- total times the product from the next place on
pub record Most (K U : ℕ) (r : Road) (s t : State) : Type 0 where
  pub outflow : (p : ℕ) → p ≤ r.n → cumulative_at t p * reach_of r p ≤ K * cumulative_at s p * reach_of r p + U * thousands_of r p
  pub onward : (p : ℕ) → p < r.n
      → onward_at r t p * reach_of r (suc p) ≤ K * onward_at r s p * reach_of r (suc p) + U * thousands_of r (suc p)

-- K times those of s exceed t's by at most L thousands
pub record Least (K L : ℕ) (r : Road) (s t : State) : Type 0 where
  pub outflow : (p : ℕ) → p ≤ r.n → K * cumulative_at s p * reach_of r p ≤ cumulative_at t p * reach_of r p + L * thousands_of r p
  pub onward : (p : ℕ) → p < r.n
      → K * onward_at r s p * reach_of r (suc p) ≤ onward_at r t p * reach_of r (suc p) + L * thousands_of r (suc p)
