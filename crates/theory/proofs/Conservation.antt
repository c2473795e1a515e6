-- Conservation: start plus arrivals equals present plus exits, after a step with any row that obeys the rules. Assumes nothing.
use Rattle.std.specs.Prelude.{List, ℕ, ◌+◌, zero, suc, ◌-◌, ◌≤◌, ◌<◌, ◌≡◌, take}
use Rattle.std.proofs.Math.Path.{ap}
use Rattle.std.proofs.Common.{◌∙◌, le_refl, arith}
use Rattle.model.specs.Numbers.{sum_of, list_of, at}
use Rattle.model.specs.declared.Road.{Road}
use Rattle.model.specs.Flow.{gate_arrivals, arrivals_at, share_at, cumulative_at}
use Rattle.model.specs.Flow.{onward_of}
use Rattle.flow.specs.FlowLaws.{onward_le, onward_whole}
use Rattle.numbers.specs.SumLaws.{sum_start, sum_more}
use Rattle.numbers.specs.RowsLaws.{sum_list_none, sum_list_more, sum_list_same}
use Rattle.model.specs.declared.State.{State}
use Rattle.limits.specs.LimitsLaws.{RoadOk}
use Rattle.theory.specs.RulesLaws.{onward_at, Sized, release_there, share_gate, onward_last, demand_at_gate, demand_at_cell, outflows_obey}
use Rattle.model.specs.Move.{next_of, present_of, exit_at, exits_of}
use Rattle.model.specs.Schedules.{ReleasesFit, Obeys, outflows_of}
use Rattle.theory.specs.MoveLaws.{next_gate_queue, next_held, next_queue, next_cumulative, next_onward, next_sized}
use Rattle.theory.specs.Roads.{Alike}
use Rattle.theory.specs.Conservation.{arrivals_of}

module _ (r : Road) (s : State) (row y : List ℕ) (road : RoadOk r) (z : Sized r s) (ok : Obeys r s row y) where
  abbrev T : State
  T = next_of r s row y

  gate_step : T.gate_queue + cumulative_at T 0 ≡ s.gate_queue + cumulative_at s 0 + gate_arrivals row
  gate_step =
      omega (arith, next_gate_queue r s row y, next_cumulative r s row y z 0 (omega arith), ok.demand 0 (omega arith), demand_at_gate r s)

  -- what leaves a cell goes on or exits
  exit_step : (u : State) (k : ℕ) → k < r.n → exit_at r u k + onward_at r u (suc k) ≡ cumulative_at u (suc k)
  unfolding share_at cumulative_at
  exit_step u k l = omega (arith, onward_le (at r.share k) (at u.cumulative k) (road.share k l))

  -- the gate and the first k cells, with what has gone on from them
  prefix : (k : ℕ) → k ≤ r.n
      → T.gate_queue + sum_of (take k T.held) + sum_of (take k T.queue) + onward_at r T k + sum_of (list_of (exit_at r T) k)
      ≡ s.gate_queue + sum_of (take k s.held) + sum_of (take k s.queue) + onward_at r s k + sum_of (list_of (exit_at r s) k)
      + (gate_arrivals row + sum_of (list_of (arrivals_at row) k))
  prefix zero l =
      rw (share_gate r)
      (omega (
        arith,
        gate_step,
        onward_whole (cumulative_at s 0),
        onward_whole (cumulative_at T 0),
        sum_start T.held,
        sum_start T.queue,
        sum_start s.held,
        sum_start s.queue,
        sum_list_none (exit_at r T),
        sum_list_none (exit_at r s),
        sum_list_none (arrivals_at row),
      ))
  prefix (suc k) l =
      let w = next_sized r s row y z in
      omega (
        arith,
        prefix k (omega arith),
        next_onward r s row y z k (omega arith),
        next_cumulative r s row y z (suc k) l,
        exit_step s k l,
        exit_step T k l,
        ok.demand (suc k) l,
        demand_at_cell r road s k l,
        ok.released.queue k l,
        release_there s row k,
        next_held r s row y z k l,
        next_queue r s row y z k l,
        sum_more k s.held (omega (arith, z.held)),
        sum_more k s.queue (omega (arith, z.queue)),
        sum_more k T.held (omega (arith, w.held)),
        sum_more k T.queue (omega (arith, w.queue)),
        sum_list_more (exit_at r T) k,
        sum_list_more (exit_at r s) k,
        sum_list_more (arrivals_at row) k,
      )

  pub conserved : present_of r s + exits_of r s + arrivals_of r row ≡ present_of r T + exits_of r T
  unfolding exits_of arrivals_of
  conserved = omega (arith, prefix r.n (le_refl r.n), onward_last r road s, onward_last r road T)

-- the same for the engine's step
pub engine_conserved : (r : Road) (s : State) (row : List ℕ) → RoadOk r → Sized r s → ReleasesFit r s row
    → present_of r s + exits_of r s + arrivals_of r row
    ≡ present_of r (next_of r s row (outflows_of r s row)) + exits_of r (next_of r s row (outflows_of r s row))
engine_conserved r s row road z ok = conserved r s row (outflows_of r s row) road z (outflows_obey r s row ok)

-- exits and arrivals of roads with the same cells and shares
module _ (a b : Road) (h : Alike a b) where
  pub exits_alike : (s : State) → exits_of b s ≡ exits_of a s
  unfolding exits_of
  exits_alike s =
      ap (λ (n : ℕ). sum_of (list_of (exit_at b s) n)) h.n
      ∙ sum_list_same (exit_at b s) (exit_at a s) a.n
      (λ i l. ap (λ (x : ℕ). at s.cumulative i - onward_of x (at s.cumulative i)) (h.share i l))

  pub arrivals_alike : (row : List ℕ) → arrivals_of b row ≡ arrivals_of a row
  unfolding arrivals_of
  arrivals_alike row = ap (λ (n : ℕ). gate_arrivals row + sum_of (list_of (arrivals_at row) n)) h.n
