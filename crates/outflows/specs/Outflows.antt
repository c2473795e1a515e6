-- The row of the engine's outflows, filled place by place. Assumes nothing.
use Rattle.std.specs.Prelude.{◌≡◌, refl, List, [], ◌∷◌, ◌++◌, ℕ, suc, ◌+◌, ◌≤◌, ◌<◌, length, set, drop}
use Rattle.std.proofs.Common.{ap, ◌∙◌, arith, length-set, drop-cons}
use Rattle.std.proofs.Math.Seq.{drop-length}
use Rattle.std.proofs.lemmas.List.{set_at}
use Rattle.model.specs.Flow.{whole, gate_demand_of, demand_of, outflow_of}
use Rattle.model.specs.Numbers.{fill_of, list_of, at}
use Rattle.numbers.specs.RowsLaws.{fill_more, fill_list, length_list}
use Rattle.model.specs.declared.Road.{Road}
use Rattle.model.specs.declared.State.{State}
use Rattle.model.specs.Flow.{room_at, demand_at, share_at, cumulative_at, outflow_at}
use Rattle.model.specs.Schedules.{outflows_of}
use Rattle.outflows.specs.CarriedValues.{CarriedValues, carried_gate, carried_cell}

-- the outflow of one more place
outflows_more : (r : Road) (s : State) (row l : List ℕ) (i : ℕ) (y : List ℕ) (share cumulative demand room z : ℕ)
    → y ≡ fill_of (outflow_at r s row) i l → share ≡ share_at r i → cumulative ≡ cumulative_at s i → demand ≡ demand_at r s i
    → room ≡ room_at r s row i → z ≡ outflow_of share cumulative room demand
    → set y i z ≡ fill_of (outflow_at r s row) (i + 1) l
outflows_more r s row l i y share cumulative demand room z ey eb ef ed er ez =
    let e : z ≡ outflow_at r s row i = cc in
    cc (fill_more (outflow_at r s row) i l)

-- the demand of the last place
outflows_end : (r : Road) (s : State) (row l : List ℕ) (i : ℕ) (y : List ℕ) (demand : ℕ) → i ≡ r.n → length l ≡ r.n + 1
    → y ≡ fill_of (outflow_at r s row) i l → demand ≡ demand_at r s i → set y r.n demand ≡ outflows_of r s row
unfolding outflows_of
outflows_end r s row l i y demand e long ey ed =
    let f = outflow_at r s row in
    let n = r.n in
    let more : n < length l = omega arith in
    let first : y ≡ list_of f n ++ drop n l = ey ∙ ap (λ (k : ℕ). fill_of f k l) e ∙ fill_list f n l (omega arith) in
    let none : drop (suc n) l ≡ [] = (let q : suc n ≡ length l = omega arith in ap (λ (k : ℕ). drop k l) q) ∙ drop-length l in
    ap (λ (x : List ℕ). set x n demand) first
    ∙ ap (λ (x : List ℕ). set (list_of f n ++ x) n demand) (drop-cons l n 0 more)
    ∙ set_at (list_of f n) (at l n) (drop (suc n) l) demand n (length_list f n)
    ∙ ap (λ (x : List ℕ). list_of f n ++ (demand ∷ x)) none
    ∙ ap (λ (x : ℕ). list_of f n ++ (x ∷ [])) (ed ∙ ap (demand_at r s) e)

-- the loop over the places has filled the first i of them
pub record FilledOutflows (r : Road) (s : State) (row l y : List ℕ) (share cumulative demand i : ℕ) : Type 0 where
  pub carried : CarriedValues r s share cumulative demand i
  pub filled : y ≡ fill_of (outflow_at r s row) i l
  pub places : length y ≡ r.n + 1

pub filled_none : {r : Road} {s : State} {row l : List ℕ} {demand : ℕ} → demand ≡ gate_demand_of r.gate_capacity s.gate_queue
    → length l ≡ r.n + 1 → FilledOutflows r s row l l whole s.gate_cumulative demand 0
unfolding fill_of
filled_none {r} {s} {demand = demand} e h = record { carried = carried_gate r s demand e; filled = refl; places = h }

pub filled_more : {r : Road} {s : State} {row l y : List ℕ} {share cumulative demand i room z next : ℕ}
    → FilledOutflows r s row l y share cumulative demand i → i < r.n → room ≡ room_at r s row i → z ≡ outflow_of share cumulative room demand
    → next ≡ demand_of (at r.speed i) (at r.capacity i) (at s.held i)
    → FilledOutflows r s row l (set y i z) (at r.share i) (at s.cumulative i) next (i + 1)
filled_more {r} {s} {row} {l} {y} {share} {cumulative} {demand} {i} {room} {z} {next} h less er ez en =
    let k = h.carried in
    record {
      carried = carried_cell r s i next less en;
      filled =
          outflows_more r s row l i y share cumulative demand room z h.filled k.shares k.cumulatives k.demands er ez;
      places = simp length-set h.places;
    }

pub filled_end : {r : Road} {s : State} {row l y : List ℕ} {share cumulative demand i : ℕ} → FilledOutflows r s row l y share cumulative demand i → r.n ≤ i
    → length l ≡ r.n + 1 → set y r.n demand ≡ outflows_of r s row
filled_end {r} {s} {row} {l} {y} {demand = demand} {i} h end long =
    outflows_end r s row l i y demand (omega (arith, h.carried.within)) long h.filled h.carried.demands
