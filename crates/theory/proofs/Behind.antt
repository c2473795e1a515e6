-- No schedule is ahead of the greatest outflows. Two states have the same arrivals and releases. One side makes each step with the greatest
-- outflows on a road that is nowhere worse, the other with any row that obeys the rules. Assumes nothing.
use Rattle.std.specs.Prelude.{◌≡◌, refl, List}
use Rattle.std.proofs.Common.{sym, ◌∙◌, subst, ⊎_elim, le_refl, eq-or-lt_of_le, arith}
use Prim.Native.Nat.{ℕ, zero, suc, ◌+◌, ◌-◌, ◌≤◌, ◌<◌}
use Rattle.model.specs.Flow.{onward_of}
use Rattle.flow.specs.FlowLaws.{demand_wider, gate_demand_wider, supply_wider, room_release, onward_entering, greatest_mono}
use Rattle.model.specs.declared.Road.{Road}
use Rattle.model.specs.declared.State.{State}
use Rattle.model.specs.Numbers.{at}
use Rattle.model.specs.Road.{total_of}
use Rattle.limits.specs.LimitsLaws.{RoadOk}
use Rattle.model.specs.Flow.{release_at, capacity_at, demand_at, supply_at, room_at, share_at, cumulative_at, entering_at}
use Rattle.theory.specs.RulesLaws.{onward_at, Sized, demand_at_gate, demand_at_cell}
use Rattle.model.specs.Move.{next_of}
use Rattle.model.specs.Schedules.{Obeys, Greatest}
use Rattle.theory.specs.MoveLaws.{next_gate_queue, next_held, next_queue, next_cumulative, next_onward, next_sized, next_ramp_time, next_total}
use Rattle.theory.specs.Roads.{Alike, Wider, alike_back, share_alike, onward_alike, queue_alike, present_alike, sized_alike}
use Rattle.theory.specs.TwoStates.{Level}
use Rattle.theory.proofs.TwoStates.{level_self, level_alike, onward_le, queue_same}
use Rattle.theory.proofs.LessPresent.{present_le}
use Rattle.theory.specs.Behind.{Behind}

-- a state is behind itself
pub behind_self : (r : Road) (s : State) → Sized r s → Behind r s s
behind_self r s z = record { level = level_self r s z; ramp_time = refl; total = le_refl (total_of s) }

pub behind_alike : (a b : Road) (s t : State) → Alike a b → Behind a s t → Behind b s t
behind_alike a b s t e h = record { level = level_alike a b s t e h.level; ramp_time = h.ramp_time; total = h.total }

-- a is the road of t, with any row z that obeys the rules; b, nowhere worse, is the road of s, with y, the greatest outflows
module _ (a b : Road) (s t : State) (row y z : List ℕ) (ok_a : RoadOk a) (ok_b : RoadOk b) (wider : Wider a b)
    (own : Obeys b s row y) (most : Greatest b s row y) (ok : Obeys a t row z) (before : Level a s t) where
  abbrev same : b.n ≡ a.n
  same = wider.alike.n

  sized_b : Sized b s
  sized_b = sized_alike a b wider.alike s before.sized_s

  -- cumulative demand
  demand_step : (p : ℕ) → p ≤ a.n → cumulative_at t p + demand_at a t p ≤ cumulative_at s p + demand_at b s p
  unfolding demand_at
  demand_step zero l =
      gate_demand_wider a.gate_capacity b.gate_capacity s.gate_queue t.gate_queue (cumulative_at s 0) (cumulative_at t 0)
      wider.gate (before.cumulatives 0 l) (omega (arith, before.gate))
  demand_step (suc i) l =
      demand_wider (at a.speed i) (at b.speed i) (capacity_at a i) (capacity_at b i) (at s.held i) (at t.held i)
      (cumulative_at s (suc i)) (cumulative_at t (suc i))
      (wider.speed i l) (ok_b.speed i (omega (arith, same))) (wider.capacity i l) (before.cumulatives (suc i) l)
      (omega (arith, before.cells i l, onward_le a s t ok_a before i (omega arith)))

  -- cumulative supply
  supply_step : (i : ℕ) → i < a.n → onward_at a t i + supply_at a t i ≤ onward_at a s i + supply_at b s i
  supply_step i l =
      let k : onward_at a t i ≤ onward_at a s i = onward_le a s t ok_a before i (omega arith) in
      omega (
        arith,
        k,
        supply_wider (at a.wave i) (at b.wave i) (capacity_at a i) (capacity_at b i) (at a.jam i) (at b.jam i)
            (at s.held i) (at t.held i) (onward_at a s i - onward_at a t i)
            (wider.wave i l) (ok_b.wave i (omega (arith, same))) (wider.capacity i l) (wider.jam i l)
            (omega (arith, before.cells i l, before.cumulatives (suc i) l, k)),
      )

  -- the schedule gets ahead at no place in the step
  outflow_step : (p : ℕ) → p ≤ a.n → cumulative_at t p + at z p ≤ cumulative_at s p + at y p
  outflow_step p l = ⊎_elim
      (λ (e : p ≡ a.n).
      let f : at y p ≡ demand_at b s p = subst (λ (q : ℕ). at y q ≡ demand_at b s q) (same ∙ sym e) most.last in
      omega (arith, demand_step p l, ok.demand p l))
      (λ (m : p < a.n).
      let n : p < b.n = omega (arith, same) in
      let e : share_at b p ≡ share_at a p = share_alike a b wider.alike p l in
      let k : onward_of (share_at a p) (cumulative_at t p + at z p) ≤ onward_at a s p + room_at b s row p =
      omega (
        arith,
        onward_entering (share_at a p) (cumulative_at t p) (at z p),
        ok.enters p m,
        room_release (supply_at a t p) (release_at row p) (ok.released.supply p m),
        room_release (supply_at b s p) (release_at row p) (own.released.supply p n),
        supply_step p m,
      ) in
      greatest_mono (share_at b p) (cumulative_at s p) (cumulative_at t p) (at z p) (room_at b s row p) (demand_at b s p) (at y p)
      (most.most p n) (omega (arith, demand_step p l, ok.demand p l)) (rw e k))
      (eq-or-lt_of_le l)

  abbrev S' : State
  S' = next_of b s row y

  abbrev T' : State
  T' = next_of a t row z

  gate_step : S'.gate_queue + cumulative_at S' 0 ≡ T'.gate_queue + cumulative_at T' 0
  gate_step =
      omega (
        arith,
        before.gate,
        next_gate_queue b s row y,
        next_gate_queue a t row z,
        next_cumulative b s row y sized_b 0 (omega arith),
        next_cumulative a t row z before.sized_t 0 (omega arith),
        own.demand 0 (omega arith),
        ok.demand 0 (omega arith),
        demand_at_gate b s,
        demand_at_gate a t,
      )

  -- the onward total of S', with a's shares
  onward_step' : (p : ℕ) → p ≤ a.n → onward_at a S' p ≡ onward_at a s p + entering_at b s y p
  onward_step' p l =
      omega (
        arith,
        onward_alike a b wider.alike s p l,
        onward_alike a b wider.alike S' p l,
        next_onward b s row y sized_b p (omega (arith, same)),
      )

  cells_step : (i : ℕ) → i < a.n
      → at S'.held i + cumulative_at S' (suc i) + onward_at a T' i ≡ at T'.held i + cumulative_at T' (suc i) + onward_at a S' i
  cells_step i l =
      let m : i < b.n = omega (arith, same) in
      omega (
        arith,
        before.cells i l,
        next_held b s row y sized_b i m,
        next_held a t row z before.sized_t i l,
        next_cumulative b s row y sized_b (suc i) m,
        next_cumulative a t row z before.sized_t (suc i) l,
        onward_step' i (omega arith),
        next_onward a t row z before.sized_t i (omega arith),
        own.demand (suc i) m,
        ok.demand (suc i) l,
        demand_at_cell b ok_b s i m,
        demand_at_cell a ok_a t i l,
      )

  pub step_level : Level a S' T'
  step_level = record {
    sized_s = sized_alike b a (alike_back a b wider.alike) S' (next_sized b s row y sized_b);
    sized_t = next_sized a t row z before.sized_t;
    gate = gate_step;
    cells = cells_step;
    queues = λ i l.
        omega (
          arith,
          next_queue b s row y sized_b i (omega (arith, same)),
          next_queue a t row z before.sized_t i l,
          before.queues i l,
        );
    cumulatives = λ p l.
        omega (
          arith,
          next_cumulative b s row y sized_b p (omega (arith, same)),
          next_cumulative a t row z before.sized_t p l,
          outflow_step p l,
        );
  }

  pub step_ramp_time : s.ramp_time ≡ t.ramp_time → S'.ramp_time ≡ T'.ramp_time
  step_ramp_time h =
      omega (
        arith,
        next_ramp_time b s row y,
        next_ramp_time a t row z,
        queue_alike a b wider.alike S',
        queue_same a S' T' ok_a step_level,
      )

  pub step_total : total_of s ≤ total_of t → total_of S' ≤ total_of T'
  step_total h =
      omega (
        arith,
        next_total b s row y,
        next_total a t row z,
        present_alike a b wider.alike S',
        present_le a S' T' ok_a step_level,
      )
