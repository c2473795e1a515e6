-- Laws of the rules: the engine's row obeys them and is the greatest. Assumes nothing.
use Prim.Native.Nat.{ℕ, ◌≤◌, zero, suc, ◌+◌, ◌<◌}
use Rattle.std.specs.Prelude.{length, ◌≡◌, List, [], ◌∷◌}
use Rattle.std.proofs.Common.{length-append, ◌∙◌, ⊎_elim, le_of_eq, eq-or-lt_of_le, add-one}
use Rattle.std.proofs.Math.ListN.{get_or-append}
use Rattle.std.proofs.Math.Path.{refl, sym}
use native.Mathlib.Omega.{arith}
use Rattle.std.proofs.lemmas.List.{get_or_at}
use Rattle.model.specs.Flow.{onward_of, whole, demand_of, entering_of}
use Rattle.model.specs.declared.Road.{Road}
use Rattle.model.specs.declared.State.{State}
use Rattle.model.specs.Flow.{share_at, cumulative_at, arrivals_at, most_release_at, capacity_at, demand_at, room_at, entering_at, outflow_at}
use Rattle.flow.specs.FlowLaws.{demand_held, gate_demand_queue, demand_capacity_lem, gate_demand_capacity, outflow_le, outflow_fits, outflow_greatest, onward_none}
use Rattle.model.specs.Numbers.{list_of, at}
use Rattle.numbers.specs.RowsLaws.{length_list, list_at}
use Rattle.model.specs.Road.{most_rate}
use Rattle.limits.specs.LimitsLaws.{RoadOk}
use Rattle.model.specs.Schedules.{ReleasesFit, Obeys, Greatest, outflows_of}

-- the onward total of a place
abbrev pub onward_at : Road → State → ℕ → ℕ
onward_at r s p = onward_of (share_at r p) (cumulative_at s p)

-- the arrays have an entry for each cell
pub record Sized (r : Road) (s : State) : Type 0 where
  pub held : r.n ≤ length s.held
  pub queue : r.n ≤ length s.queue
  pub cumulative : r.n ≤ length s.cumulative

-- a release is at most the ramp's queue plus this step's arrivals
pub release_there : (s : State) (row : List ℕ) (i : ℕ) → most_release_at s row i ≤ at s.queue i + arrivals_at row i
unfolding most_release_at
release_there s row i = omega arith

-- without a queue and arrivals nothing may be released
pub release_none : (s : State) (row : List ℕ) (i : ℕ) → at s.queue i ≡ 0 → arrivals_at row i ≡ 0 → most_release_at s row i ≡ 0
release_none s row i a b = omega (arith, release_there s row i)

-- the values at the gate and at a cell
pub share_gate : (r : Road) → share_at r 0 ≡ whole
unfolding share_at
share_gate r = refl

pub share_cell : (r : Road) (i : ℕ) → share_at r (i + 1) ≡ at r.share i
unfolding share_at
share_cell r i = rw add-one

pub cumulative_cell : (s : State) (i : ℕ) → cumulative_at s (i + 1) ≡ at s.cumulative i
unfolding cumulative_at
cumulative_cell s i = rw add-one

pub demand_cell : (r : Road) (s : State) (i : ℕ) → demand_at r s (i + 1) ≡ demand_of (at r.speed i) (capacity_at r i) (at s.held i)
unfolding demand_at
demand_cell r s i = rw add-one

pub entering_cell : (r : Road) (s : State) (y : List ℕ) (i : ℕ)
    → entering_at r s y (i + 1) ≡ entering_of (at r.share i) (at s.cumulative i) (at y (i + 1))
entering_cell r s y i = rw (share_cell r i, cumulative_cell s i)

-- a place sends no more than it holds
pub demand_at_gate : (r : Road) (s : State) → demand_at r s 0 ≤ s.gate_queue
unfolding demand_at
demand_at_gate r s = gate_demand_queue r.gate_capacity s.gate_queue

module _ (r : Road) (ok : RoadOk r) where
  pub share_le : (p : ℕ) → p ≤ r.n → share_at r p ≤ whole
  unfolding share_at
  share_le zero l = omega arith
  share_le (suc i) l = ok.share i l

  -- the last cell's share is 0: nothing goes on from it
  pub share_last : share_at r r.n ≡ 0
  unfolding share_at
  share_last = go r.n refl ok.some
    where
      go : (n : ℕ) → r.n ≡ n → 1 ≤ n → share_at r n ≡ 0
      go zero e l = absurd (omega arith)
      go (suc i) e l = ok.last i (add-one i ∙ sym e)

  pub onward_last : (s : State) → onward_at r s r.n ≡ 0
  onward_last s = rw share_last (onward_none (cumulative_at s r.n))

  pub demand_at_cell : (s : State) (i : ℕ) → i < r.n → demand_at r s (suc i) ≤ at s.held i
  unfolding demand_at
  demand_at_cell s i l = demand_held (at r.speed i) (capacity_at r i) (at s.held i) (ok.speed i l)

  pub demand_rate : (s : State) (p : ℕ) → p ≤ r.n → demand_at r s p ≤ most_rate
  unfolding demand_at capacity_at
  demand_rate s zero l = omega (arith, gate_demand_capacity r.gate_capacity s.gate_queue, ok.gate)
  demand_rate s (suc i) l = omega (arith, demand_capacity_lem (at r.speed i) (at r.capacity i) (at s.held i), ok.capacity i l)

-- the engine's row
pub length_outflows : (r : Road) (s : State) (row : List ℕ) → length (outflows_of r s row) ≡ r.n + 1
unfolding outflows_of
length_outflows r s row =
    length-append (list_of (outflow_at r s row) r.n) (demand_at r s r.n ∷ []) ∙ omega (arith, length_list (outflow_at r s row) r.n)

-- a place before the last has its greatest outflow, and the last cell's is its demand
pub outflows_at_lem : (r : Road) (s : State) (row : List ℕ) (p : ℕ) → p < r.n → at (outflows_of r s row) p ≡ outflow_at r s row p
unfolding outflows_of
outflows_at_lem r s row p l =
    get_or-append (list_of (outflow_at r s row) r.n) (demand_at r s r.n ∷ []) 0 p (omega (arith, length_list (outflow_at r s row) r.n))
    ∙ list_at (outflow_at r s row) r.n p l

pub outflows_last : (r : Road) (s : State) (row : List ℕ) → at (outflows_of r s row) r.n ≡ demand_at r s r.n
unfolding outflows_of
outflows_last r s row = get_or_at (list_of (outflow_at r s row) r.n) (demand_at r s r.n) [] 0 r.n (length_list (outflow_at r s row) r.n)

-- the engine's row obeys the rules
pub outflows_obey : (r : Road) (s : State) (row : List ℕ) → ReleasesFit r s row → Obeys r s row (outflows_of r s row)
outflows_obey r s row ok = record {
  released = ok;
  demand = λ p l. ⊎_elim
      (λ (e : p ≡ r.n). rw e (le_of_eq (outflows_last r s row)))
      (λ (m : p < r.n). rw (outflows_at_lem r s row p m) (outflow_le (share_at r p) (cumulative_at s p) (room_at r s row p) (demand_at r s p)))
      (eq-or-lt_of_le l);
  enters = λ p l. rw (outflows_at_lem r s row p l) (outflow_fits (share_at r p) (cumulative_at s p) (room_at r s row p) (demand_at r s p));
}

-- the engine's row is the greatest
pub outflows_greatest : (r : Road) (s : State) (row : List ℕ) → ReleasesFit r s row → Greatest r s row (outflows_of r s row)
outflows_greatest r s row fits =
    let o = outflows_obey r s row fits in
    record {
      demand = o.demand;
      fits = o.enters;
      most = λ p l z d f. rw (outflows_at_lem r s row p l) (outflow_greatest (share_at r p) (cumulative_at s p) (room_at r s row p) (demand_at r s p) z d f);
      last = outflows_last r s row;
    }
