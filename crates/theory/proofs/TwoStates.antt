-- Two states after the same arrivals and releases, one ahead of the other at every place: the one ahead has no more present.
-- Only the road's cells and shares matter. Assumes nothing.
use Rattle.std.specs.Prelude.{◌≡◌, refl, ℕ, zero, suc, ◌+◌, ◌-◌, ◌*◌, ◌≤◌, ◌<◌, take}
use Rattle.std.proofs.Common.{ap, subst, le_refl, mul-le-mul_left, arith}
use Rattle.flow.specs.FlowLaws.{onward_mono, onward_step, onward_whole}
use Rattle.model.specs.Numbers.{sum_of, at}
use Rattle.numbers.specs.SumLaws.{sum_start, sum_more}
use Rattle.numbers.specs.RowsLaws.{sum_list_none, sum_list_more, sum_list_same}
use Rattle.model.specs.declared.Road.{Road}
use Rattle.model.specs.declared.State.{State}
use Rattle.limits.specs.LimitsLaws.{RoadOk}
use Rattle.model.specs.Flow.{share_at, cumulative_at}
use Rattle.theory.specs.RulesLaws.{onward_at, Sized, share_gate, share_le, onward_last}
use Rattle.model.specs.Move.{queue_sum}
use Rattle.model.specs.Weights.{weighted_sum, weighted_present, Falling}
use Rattle.theory.specs.Roads.{Alike, onward_alike, sized_alike}
use Rattle.theory.specs.TwoStates.{Level}

pub level_self : (r : Road) (s : State) → Sized r s → Level r s s
level_self r s z = record {
  sized_s = z;
  sized_t = z;
  gate = refl;
  cells = λ i l. refl;
  queues = λ i l. refl;
  cumulatives = λ p l. le_refl (cumulative_at s p);
}

-- only the cells and shares of the road matter
pub level_alike : (a b : Road) (s t : State) → Alike a b → Level a s t → Level b s t
level_alike a b s t e h = record {
  sized_s = sized_alike a b e s h.sized_s;
  sized_t = sized_alike a b e t h.sized_t;
  gate = h.gate;
  cells = λ i l.
      omega (
        arith,
        h.cells i (omega (arith, e.n)),
        onward_alike a b e s i (omega (arith, e.n)),
        onward_alike a b e t i (omega (arith, e.n)),
      );
  queues = λ i l. h.queues i (omega (arith, e.n));
  cumulatives = λ p l. h.cumulatives p (omega (arith, e.n));
}

-- the larger weight goes with the larger number
weight_swap : (v w x y : ℕ) → v ≤ w → x ≤ y → w * x + v * y ≤ w * y + v * x
weight_swap v w x y l k =
    let e : v + (w - v) ≡ w = omega arith in
    subst (λ (m : ℕ). m * x + v * y ≤ m * y + v * x) e (omega (arith, mul-le-mul_left (w - v) k))

-- if s and t are level, the one behind has no less present
module _ (r : Road) (s t : State) (road : RoadOk r) (h : Level r s t) where
  pub onward_le : (p : ℕ) → p ≤ r.n → onward_at r t p ≤ onward_at r s p
  onward_le p l = onward_mono (share_at r p) (cumulative_at s p) (cumulative_at t p) (h.cumulatives p l)

  -- if F of s is k ahead of F of t, at most k more has gone on
  onward_ahead : (p : ℕ) → p ≤ r.n → onward_at r s p + cumulative_at t p ≤ onward_at r t p + cumulative_at s p
  onward_ahead p l =
      let e : cumulative_at t p + (cumulative_at s p - cumulative_at t p) ≡ cumulative_at s p = omega (arith, h.cumulatives p l) in
      let g : onward_at r s p ≤ onward_at r t p + (cumulative_at s p - cumulative_at t p) =
      rw e at (onward_step (share_at r p) (cumulative_at t p) (cumulative_at s p - cumulative_at t p) (share_le r road p l)) in
      omega (arith, h.cumulatives p l)

  -- a cell holds more than in the other state only by what has entered it and has not gone on
  cell_ahead : (i : ℕ) → i < r.n
      → at s.held i + onward_at r s (suc i) + onward_at r t i ≤ at t.held i + onward_at r t (suc i) + onward_at r s i
  cell_ahead i l = omega (arith, h.cells i l, onward_ahead (suc i) l)

  module _ (w : ℕ → ℕ) (weights : Falling w r.n) where
    -- the gate and the first k cells, plus what has gone on from them, with the weight of the last
    prefix : (k : ℕ) → k ≤ r.n
        → w 0 * s.gate_queue + weighted_sum (λ i. w (suc i)) (at s.held) k + w k * onward_at r s k
        ≤ w 0 * t.gate_queue + weighted_sum (λ i. w (suc i)) (at t.held) k + w k * onward_at r t k
    prefix zero l =
        rw (share_gate r, onward_whole (cumulative_at s 0), onward_whole (cumulative_at t 0))
        (omega (
          arith,
          ap (λ (x : ℕ). w 0 * x) h.gate,
          sum_list_none (λ i. w (suc i) * at s.held i),
          sum_list_none (λ i. w (suc i) * at t.held i),
        ))
    prefix (suc k) l =
        omega (
          arith,
          prefix k (omega arith),
          mul-le-mul_left (w (suc k)) (cell_ahead k l),
          weight_swap (w (suc k)) (w k) (onward_at r t k) (onward_at r s k) (weights.falls k l) (onward_le k (omega arith)),
          sum_list_more (λ i. w (suc i) * at s.held i) k,
          sum_list_more (λ i. w (suc i) * at t.held i) k,
        )

  -- with weights that fall from place to place
  module _ (w u : ℕ → ℕ) (falling : Falling w r.n) where
    -- ramp queues are equal, so their weights don't matter
    same_ramps : weighted_sum u (at s.queue) r.n ≡ weighted_sum u (at t.queue) r.n
    same_ramps = sum_list_same (λ i. u i * at s.queue i) (λ i. u i * at t.queue i) r.n (λ i l. ap (λ (x : ℕ). u i * x) (h.queues i l))

    pub weighted_le : weighted_present w u r.n s ≤ weighted_present w u r.n t
    unfolding weighted_present
    weighted_le =
        let e : (x : State) → w r.n * onward_at r x r.n ≡ 0 = λ x. rw (onward_last r road x) (omega arith) in
        omega (arith, prefix w falling r.n (le_refl r.n), same_ramps, e s, e t)

  -- the sums of the first k ramp queues are equal
  same_queues : (k : ℕ) → k ≤ r.n → sum_of (take k s.queue) ≡ sum_of (take k t.queue)
  same_queues zero l = omega (arith, sum_start s.queue, sum_start t.queue)
  same_queues (suc k) l =
      omega (
        arith,
        same_queues k (omega arith),
        h.queues k l,
        sum_more k s.queue (omega (arith, h.sized_s.queue)),
        sum_more k t.queue (omega (arith, h.sized_t.queue)),
      )

  pub queue_same : queue_sum r s ≡ queue_sum r t
  queue_same = same_queues r.n (le_refl r.n)
