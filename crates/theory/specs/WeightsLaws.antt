-- Laws of weights: the totals with weight 1 everywhere or only at one kind of place, and how a weighted total grows. Assumes nothing.
use Rattle.std.specs.Prelude.{◌≡◌, ℕ, zero, suc, ◌+◌, ◌*◌, min, ◌≤◌, ◌<◌}
use Rattle.std.proofs.Math.Path.{ap}
use native.Mathlib.Omega.{arith}
use Rattle.model.specs.Numbers.{at}
use Rattle.numbers.specs.RowsLaws.{sum_list_none, sum_list_more, sum_list_same, sum_list_take, sum_list_min}
use Rattle.model.specs.declared.Road.{Road}
use Rattle.model.specs.declared.State.{State}
use Rattle.model.specs.Move.{held_sum, queue_sum, present_of}
use Rattle.theory.specs.RulesLaws.{Sized}
use Rattle.model.specs.Weights.{weighted_sum, weighted_present, weighted_total}

-- weight 1 everywhere, and nowhere; weight 1 only at the gate, and only at the cells
abbrev pub ones : ℕ → ℕ
ones p = 1

abbrev pub none : ℕ → ℕ
none p = 0

unfoldable pub gate_alone : ℕ → ℕ
gate_alone zero = 1
gate_alone (suc i) = 0

unfoldable pub cells_alone : ℕ → ℕ
cells_alone zero = 0
cells_alone (suc i) = 1

weighs_none : (count : ℕ → ℕ) (n : ℕ) → weighted_sum none count n ≡ 0
weighs_none count n =
    let e : min n 0 ≡ 0 = omega arith in
    let h = rw e at (sum_list_min (λ i. 0 * count i) 0 n (λ i l. omega arith)) in
    omega (arith, h, sum_list_none (λ i. 0 * count i))

module _ (r : Road) (s : State) (z : Sized r s) where
  weighs_held : weighted_sum ones (at s.held) r.n ≡ held_sum r s
  weighs_held = sum_list_take (λ i. 1 * at s.held i) s.held r.n z.held (λ i l. omega arith)

  weighs_queues : weighted_sum ones (at s.queue) r.n ≡ queue_sum r s
  weighs_queues = sum_list_take (λ i. 1 * at s.queue i) s.queue r.n z.queue (λ i l. omega arith)

  -- all weights 1 give present
  pub weighted_ones : weighted_present ones ones r.n s ≡ present_of r s
  unfolding weighted_present
  weighted_ones = omega (arith, weighs_held, weighs_queues)

  -- weight 1 only at the gate gives the gate queue, only at the cells all held counts, only at the ramps all ramp queues
  pub weighted_gate : weighted_present gate_alone none r.n s ≡ s.gate_queue
  unfolding weighted_present gate_alone
  weighted_gate =
      let road : weighted_sum (λ i. gate_alone (suc i)) (at s.held) r.n ≡ 0 = weighs_none (at s.held) r.n in
      omega (arith, road, weighs_none (at s.queue) r.n)

  pub weighted_cells_lem : weighted_present cells_alone none r.n s ≡ held_sum r s
  unfolding weighted_present cells_alone
  weighted_cells_lem =
      let road : weighted_sum (λ i. cells_alone (suc i)) (at s.held) r.n ≡ held_sum r s = weighs_held in
      omega (arith, road, weighs_none (at s.queue) r.n)

  pub weighted_ramps : weighted_present none ones r.n s ≡ queue_sum r s
  unfolding weighted_present
  weighted_ramps = omega (arith, weighs_none (at s.held) r.n, weighs_queues)

-- only the states after the k steps matter; one more step adds the weighted present after it
module _ (w u : ℕ → ℕ) (n : ℕ) where
  pub weighted_total_same : (f g : ℕ → State) (k : ℕ) → ((j : ℕ) → j < k → f (suc j) ≡ g (suc j)) → weighted_total w u n f k ≡ weighted_total w u n g k
  unfolding weighted_total
  weighted_total_same f g k h =
      sum_list_same (λ j. weighted_present w u n (f (suc j))) (λ j. weighted_present w u n (g (suc j))) k (λ j l. ap (weighted_present w u n) (h j l))

  pub weighted_total_none : (f : ℕ → State) → weighted_total w u n f 0 ≡ 0
  unfolding weighted_total
  weighted_total_none f = sum_list_none (λ j. weighted_present w u n (f (suc j)))

  pub weighted_total_more : (f : ℕ → State) (k : ℕ) → weighted_total w u n f (suc k) ≡ weighted_total w u n f k + weighted_present w u n (f (suc k))
  unfolding weighted_total
  weighted_total_more f k = sum_list_more (λ j. weighted_present w u n (f (suc j))) k

-- weights past cell n are not read
module _ (w v u x : ℕ → ℕ) (n : ℕ) (places : (p : ℕ) → p ≤ n → w p ≡ v p) (ramps : (i : ℕ) → i < n → u i ≡ x i) where
  pub weights_unread : (s : State) → weighted_present w u n s ≡ weighted_present v x n s
  unfolding weighted_present
  weights_unread s =
      omega (
        arith,
        ap (λ (k : ℕ). k * s.gate_queue) (places 0 (omega arith)),
        sum_list_same (λ i. w (suc i) * at s.held i) (λ i. v (suc i) * at s.held i) n (λ i l. ap (λ (k : ℕ). k * at s.held i) (places (suc i) l)),
        sum_list_same (λ i. u i * at s.queue i) (λ i. x i * at s.queue i) n (λ i l. ap (λ (k : ℕ). k * at s.queue i) (ramps i l)),
      )

  pub total_unread : (f : ℕ → State) (k : ℕ) → weighted_total w u n f k ≡ weighted_total v x n f k
  unfolding weighted_total
  total_unread f k =
      sum_list_same (λ j. weighted_present w u n (f (suc j))) (λ j. weighted_present v x n (f (suc j))) k (λ j l. weights_unread (f (suc j)))
