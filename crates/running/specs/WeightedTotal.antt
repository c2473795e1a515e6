-- The invariant of running's loop about the weighted total. Assumes nothing.
use Rattle.std.specs.Prelude.{◌≡◌, refl, Bool, true, false, cond, ℕ, suc, ◌+◌, ◌*◌, ◌≤◌}
use Rattle.std.proofs.Common.{sym, ap, ◌∙◌, add-one, arith}
use Rattle.model.specs.declared.State.{State}
use Rattle.model.specs.Road.{most_steps}
use Rattle.model.specs.Schedules.{Study, engine_after}
use Rattle.model.specs.Weights.{weighted_present, weighted_total}
use Rattle.theory.specs.WeightsLaws.{weighted_total_none, weighted_total_more}
use Rattle.counts.specs.WeightBounds.{most_weighted_present, most_weighted_total}
use Rattle.model.specs.Running.{run_fault, first_step}
use Rattle.running.specs.Steps.{FaultlessSteps}

-- the weighted total of a run at its end, if weights are wanted
abbrev pub weighted_total_end : Bool → (ℕ → ℕ) → (ℕ → ℕ) → Study → ℕ
weighted_total_end sums w u a = cond sums (weighted_total w u a.road.n (engine_after a) (first_step (run_fault a) a.steps)) 0

-- the weighted total after k steps
pub record WeightedSoFar (sums : Bool) (w u : ℕ → ℕ) (a : Study) (total k : ℕ) : Type 0 where
  pub sum : total ≡ cond sums (weighted_total w u a.road.n (engine_after a) k) 0
  pub small : total ≤ k * most_weighted_present

module _ (sums : Bool) (w u : ℕ → ℕ) (a : Study) where
  pub weighted_none : WeightedSoFar sums w u a 0 0
  weighted_none = record { sum = go sums; small = omega arith }
    where
      go : (b : Bool) → 0 ≡ cond b (weighted_total w u a.road.n (engine_after a) 0) 0
      go true = sym (weighted_total_none w u a.road.n (engine_after a))
      go false = refl

  module _ {total k : ℕ} (h : WeightedSoFar sums w u a total k) where
    pub weighted_fits : k ≤ most_steps → total ≤ most_weighted_total
    weighted_fits l = omega (arith, h.small)

    pub weighted_more : {v : State} {x : ℕ} → FaultlessSteps a v (k + 1) → x ≡ total + cond sums (weighted_present w u a.road.n v) 0
        → x ≤ total + most_weighted_present
        → WeightedSoFar sums w u a x (k + 1)
    weighted_more {v} ran e l = record {
      sum = rw (add-one k) (e ∙ ap (λ (t : ℕ). t + cond sums (weighted_present w u a.road.n v) 0) h.sum ∙ go sums);
      small = omega (arith, h.small);
    }
      where
        after : v ≡ engine_after a (suc k)
        after = rw (add-one k) at ran.state

        go : (b : Bool) → cond b (weighted_total w u a.road.n (engine_after a) k) 0 + cond b (weighted_present w u a.road.n v) 0
            ≡ cond b (weighted_total w u a.road.n (engine_after a) (suc k)) 0
        go true = rw after (sym (weighted_total_more w u a.road.n (engine_after a) k))
        go false = omega arith

    pub weighted_end : k ≡ first_step (run_fault a) a.steps → total ≡ weighted_total_end sums w u a
    weighted_end e = h.sum ∙ ap (λ (j : ℕ). cond sums (weighted_total w u a.road.n (engine_after a) j) 0) e
