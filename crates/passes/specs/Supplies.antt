-- Supplies and demands of all cells in separate loops, in 32 bits. Assumes nothing.
use Rattle.std.specs.Prelude.{◌≡◌, List, ℕ, suc, ◌+◌, ◌-◌, ◌*◌, ◌/◌, ◌≤◌, ◌<◌, min, length, set}
use Rattle.std.proofs.Math.Path.{refl}
use Rattle.std.proofs.Common.{arith, length-set}
use Rattle.model.specs.Flow.{whole, thousandths_of, supply_of, demand_of}
use Rattle.model.specs.Numbers.{fill_of, at}
use Rattle.numbers.specs.RowsLaws.{fill_more}
use Rattle.model.specs.declared.Road.{Road}
use Rattle.model.specs.declared.State.{State}
use Rattle.model.specs.Road.{most_cells, most_rate}
use Rattle.model.specs.Flow.{capacity_at, supply_at, demand_at}
use Rattle.passes.specs.Rest.{product_most}

-- the supply and the demand of the cell at i, from columns
unfoldable pub supply_in : List ℕ → List ℕ → List ℕ → List ℕ → ℕ → ℕ
supply_in wave jam capacity held i = supply_of (at wave i) (at capacity i) (at jam i) (at held i)

unfoldable pub demand_in : List ℕ → List ℕ → List ℕ → ℕ → ℕ
demand_in speed capacity held i = demand_of (at speed i) (at capacity i) (at held i)

-- those of a road and a state are the model's
pub supply_model : (r : Road) (s : State) (i : ℕ) → supply_in r.wave r.jam r.capacity s.held i ≡ supply_at r s i
unfolding supply_in capacity_at
supply_model r s i = refl

pub demand_model : (r : Road) (s : State) (i : ℕ) → demand_in r.speed r.capacity s.held i ≡ demand_at r s (suc i)
unfolding demand_in demand_at capacity_at
demand_model r s i = refl

-- what their products require from the first `count` entries
pub record SuppliesRequire (count : ℕ) (wave jam held : List ℕ) : Type 0 where
  pub cells : count ≤ most_cells
  pub waves : (i : ℕ) → i < count → at wave i ≤ whole
  pub jams : (i : ℕ) → i < count → at jam i ≤ most_rate
  pub helds : (i : ℕ) → i < count → at held i ≤ at jam i

pub record DemandsRequire (count : ℕ) (speed held : List ℕ) : Type 0 where
  pub cells : count ≤ most_cells
  pub speeds : (i : ℕ) → i < count → at speed i ≤ whole
  pub helds : (i : ℕ) → i < count → at held i ≤ most_rate

-- the first i entries of a row are filled
pub record FilledTo (f : ℕ → ℕ) (n : ℕ) (l x : List ℕ) (i : ℕ) : Type 0 where
  pub within : i ≤ n
  pub filled : x ≡ fill_of f i l
  pub same : length x ≡ length l

module _ {f : ℕ → ℕ} {n : ℕ} {l : List ℕ} where
  pub filled_none : FilledTo f n l l 0
  unfolding fill_of
  filled_none = record { within = omega arith; filled = refl; same = refl }

  module _ {x : List ℕ} {i : ℕ} (h : FilledTo f n l x i) where
    pub filled_more : {z : ℕ} → i < n → z ≡ f i → FilledTo f n l (set x i z) (i + 1)
    filled_more {z} less e = record {
      within = omega arith;
      filled = let k = h.filled in cc (fill_more f i l);
      same = simp length-set h.same;
    }

    pub filled_end : n ≤ i → x ≡ fill_of f n l
    filled_end less = let e : i ≡ n = omega (arith, h.within) in let k = h.filled in cc

-- the supply and the demand that the code computes
pub supply_found : (wave jam capacity held : List ℕ) (i : ℕ) {z : ℕ} → z ≡ min (at capacity i) (at wave i * (at jam i - at held i) / 1000)
    → z ≡ supply_in wave jam capacity held i
unfolding supply_in supply_of thousandths_of
supply_found wave jam capacity held i e = e

pub demand_found : (speed capacity held : List ℕ) (i : ℕ) {z : ℕ} → z ≡ min (at capacity i) (at speed i * at held i / 1000)
    → z ≡ demand_in speed capacity held i
unfolding demand_in demand_of thousandths_of
demand_found speed capacity held i e = e

-- the bounds of a turn's product
pub supply_product : {count : ℕ} {wave jam held : List ℕ} → SuppliesRequire count wave jam held → (i : ℕ) → i < count
    → at wave i * (at jam i - at held i) ≤ 1000000000
supply_product {wave = wave} {jam} {held} k i l = product_most (at wave i) (at jam i - at held i) (k.waves i l) (omega (arith, k.jams i l))

pub demand_product : {count : ℕ} {speed held : List ℕ} → DemandsRequire count speed held → (i : ℕ) → i < count
    → at speed i * at held i ≤ 1000000000
demand_product {speed = speed} {held} k i l = product_most (at speed i) (at held i) (k.speeds i l) (k.helds i l)

-- the cell at i has no ramp
abbrev pub NoRamp : List ℕ → ℕ → Type 0
NoRamp ramp i = at ramp i ≡ 1 → ⊥
