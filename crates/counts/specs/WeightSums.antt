-- The loop over the weighted counts of cells, and the sums of its three parts. Assumes nothing.
use Rattle.std.specs.Prelude.{◌≡◌, refl, Bool, true, false, cond, List, ℕ, suc, ◌+◌, ◌*◌, min, ◌^◌, ◌≤◌, ◌<◌, length}
use Rattle.std.proofs.Common.{sym, ap, ◌∙◌, mul-le-mul, add-one, arith}
use Rattle.std.proofs.Math.ListN.{get_or-eq_default}
use Rattle.model.specs.Numbers.{at, sum_of, list_of}
use Rattle.numbers.specs.RowsLaws.{sum_list_none, sum_list_more, sum_list_same, sum_list_min}
use Rattle.model.specs.declared.State.{State}
use Rattle.model.specs.Road.{most_cells}
use Rattle.model.specs.Weights.{weighted_sum, weighted_present}
use Rattle.counts.specs.WeightBounds.{most_product}

-- a byte times a 32-bit number
pub weighted_count_small : (weight count : ℕ) → weight < 2 ^ 8 → count < 2 ^ 32 → weight * count ≤ most_product
weighted_count_small weight count h l =
    let a : weight ≤ 255 = omega arith in
    let b : count ≤ 4294967295 = omega arith in
    omega (arith, mul-le-mul a b)

-- the first i values of f are added
pub record SummedProducts (f : ℕ → ℕ) (n sum i : ℕ) : Type 0 where
  pub within : i ≤ n
  pub values : sum ≡ sum_of (list_of f i)
  pub small : sum ≤ i * most_product

module _ {f : ℕ → ℕ} {n : ℕ} where
  pub summed_none : SummedProducts f n 0 0
  summed_none = record { within = omega arith; values = sym (sum_list_none f); small = omega arith }

  module _ {sum i : ℕ} (h : SummedProducts f n sum i) where
    pub summed_more : {x : ℕ} → i < n → x ≡ f i → x ≤ most_product → SummedProducts f n (sum + x) (i + 1)
    summed_more l e m = record {
      within = omega arith;
      values = rw (add-one i) (omega (arith, h.values, e, sum_list_more f i));
      small = omega (arith, h.small, m);
    }

    pub summed_end : n ≤ i → n ≤ 64 → (sum ≡ sum_of (list_of f n)) × (sum ≤ 64 * most_product)
    summed_end l m =
        let e : i ≡ n = omega (arith, h.within) in
        (h.values ∙ ap (λ (k : ℕ). sum_of (list_of f k)) e, omega (arith, h.small, e))

-- a product with an entry past the array is 0
zero_past : (weight : ℕ → ℕ) (counts : List ℕ) → length counts ≡ most_cells → (i : ℕ) → most_cells ≤ i → weight i * at counts i ≡ 0
zero_past weight counts h i l = let e : at counts i ≡ 0 = get_or-eq_default counts 0 (omega arith) in rw e (omega arith)

-- n above 64 gives the same as 64
pub weighted_min : (w u : ℕ → ℕ) (n : ℕ) (s : State) → length s.held ≡ most_cells → length s.queue ≡ most_cells
    → weighted_present w u (min n most_cells) s ≡ weighted_present w u n s
unfolding weighted_present
weighted_min w u n s held queue =
    omega (
      arith,
      sum_list_min (λ i. w (suc i) * at s.held i) most_cells n (zero_past (λ i. w (suc i)) s.held held),
      sum_list_min (λ i. u i * at s.queue i) most_cells n (zero_past u s.queue queue),
    )

-- s has this gate queue, these held counts and these ramp queues
pub record Waiting (gate : ℕ) (counts queues : List ℕ) (s : State) : Type 0 where
  pub at_gate : s.gate_queue ≡ gate
  pub on_road : s.held ≡ counts
  pub at_ramps : s.queue ≡ queues

-- what the code adds is the weighted present
pub weighted_is : (places ramps : List ℕ) (n : ℕ) {q : ℕ} {counts queues : List ℕ} {gate road ramp : ℕ} → gate ≡ at places 0 * q
    → road ≡ weighted_sum (λ i. at places (1 + i)) (at counts) n → ramp ≡ weighted_sum (λ i. at ramps (0 + i)) (at queues) n
    → (s : State) → Waiting q counts queues s → gate + road + ramp ≡ weighted_present (at places) (at ramps) n s
unfolding weighted_present
weighted_is places ramps n {counts = counts} {queues = queues} eg er ep s h =
    let road_is : weighted_sum (λ i. at places (1 + i)) (at counts) n ≡ weighted_sum (λ i. at places (suc i)) (at counts) n =
    sum_list_same _ _ n (λ i l. let e : 1 + i ≡ suc i = omega arith in rw e refl) in
    let ramp_is : weighted_sum (λ i. at ramps (0 + i)) (at queues) n ≡ weighted_sum (at ramps) (at queues) n =
    sum_list_same _ _ n (λ i l. let e : 0 + i ≡ i = omega arith in rw e refl) in
    rw (h.at_gate, h.on_road, h.at_ramps) (omega (arith, eg, er, ep, road_is, ramp_is))

-- a weighted total with one more step, and without weights
module _ (total : ℕ) {sums : Bool} where
  pub added_more : {x y : ℕ} → sums ≡ true → x ≡ y → total + x ≡ total + cond sums y 0
  added_more e h = rw (e, h) refl

  pub added_none : (y : ℕ) → sums ≡ false → total ≡ total + cond sums y 0
  added_none y e = rw e (omega arith)
