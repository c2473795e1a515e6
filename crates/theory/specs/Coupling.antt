-- A study and the finer study, each with any rows that obey the rules: at each place what came in is held or has left, K times as much in the
-- finer study. Every step keeps this. Assumes nothing.
use Rattle.std.specs.Prelude.{◌≡◌, refl, List, ℕ, zero, suc, ◌+◌, ◌*◌, ◌≤◌, ◌<◌}
use Rattle.std.proofs.Common.{ap, mul-le-mul_left, arith}
use Rattle.model.specs.Flow.{whole}
use Rattle.flow.specs.FlowLaws.{demand_held, supply_space, room_release, onward_le}
use Rattle.model.specs.declared.Road.{Road}
use Rattle.model.specs.declared.State.{State}
use Rattle.model.specs.Numbers.{at}
use Rattle.limits.specs.LimitsLaws.{RoadOk}
use Rattle.model.specs.Flow.{gate_arrivals, arrivals_at, release_at, capacity_at, demand_at, supply_at, share_at, cumulative_at}
use Rattle.theory.specs.RulesLaws.{onward_at, Sized, release_there, demand_at_gate, share_le}
use Rattle.model.specs.Move.{next_of}
use Rattle.model.specs.Schedules.{Obeys}
use Rattle.theory.specs.MoveLaws.{next_gate_queue, next_held, next_queue, next_cumulative, next_onward, next_sized}
use Rattle.theory.specs.Roads.{StepRoad, step_alike, alike_back, onward_alike, sized_alike}
use Rattle.theory.specs.Finer.{times_of, scaled_state}
use Rattle.theory.specs.FinerLaws.{FinerRoad, finer_alike, finer_speed, finer_wave, finer_jam, finer_onward, times_at, length_times}

-- s is a state of the study, t one of the finer study
pub record Coupling (K : ℕ) (r : Road) (s t : State) : Type 0 where
  pub sized_s : Sized r s
  pub sized_t : Sized r t
  pub held_s : (i : ℕ) → i < r.n → at s.held i ≤ at r.jam i
  pub held_t : (i : ℕ) → i < r.n → at t.held i ≤ K * at r.jam i
  pub gate : t.gate_queue + cumulative_at t 0 ≡ K * (s.gate_queue + cumulative_at s 0)
  pub cells : (i : ℕ) → i < r.n
      → at t.held i + cumulative_at t (suc i) + K * onward_at r s i ≡ K * at s.held i + K * cumulative_at s (suc i) + onward_at r t i
  pub queues : (i : ℕ) → i < r.n → at t.queue i ≡ K * at s.queue i

-- other capacities change nothing in it
module _ (K : ℕ) {r q : Road} (h : StepRoad r q) (s t : State) where
  pub coupled_on : Coupling K r s t → Coupling K q s t
  coupled_on c = record {
    sized_s = sized_alike r q (step_alike h) s c.sized_s;
    sized_t = sized_alike r q (step_alike h) t c.sized_t;
    held_s = λ i l. rw h.jam (c.held_s i (omega (arith, h.n)));
    held_t = λ i l. rw h.jam (c.held_t i (omega (arith, h.n)));
    gate = c.gate;
    cells = λ i l.
        let m : i < r.n = omega (arith, h.n) in
        omega (
          arith,
          c.cells i m,
          ap (λ (z : ℕ). K * z) (onward_alike r q (step_alike h) s i (omega arith)),
          onward_alike r q (step_alike h) t i (omega arith),
        );
    queues = λ i l. c.queues i (omega (arith, h.n));
  }

  pub coupled_back : Coupling K q s t → Coupling K r s t
  coupled_back c = record {
    sized_s = sized_alike q r (alike_back r q (step_alike h)) s c.sized_s;
    sized_t = sized_alike q r (alike_back r q (step_alike h)) t c.sized_t;
    held_s = λ i l. rw h.jam at (c.held_s i (omega (arith, h.n)));
    held_t = λ i l. rw h.jam at (c.held_t i (omega (arith, h.n)));
    gate = c.gate;
    cells = λ i l.
        omega (
          arith,
          c.cells i (omega (arith, h.n)),
          ap (λ (z : ℕ). K * z) (onward_alike r q (step_alike h) s i (omega arith)),
          onward_alike r q (step_alike h) t i (omega arith),
        );
    queues = λ i l. c.queues i (omega (arith, h.n));
  }

pub scaled_cumulative : (K : ℕ) (s : State) (p : ℕ) → cumulative_at (scaled_state K s) p ≡ K * cumulative_at s p
unfolding cumulative_at
scaled_cumulative K s zero = refl
scaled_cumulative K s (suc i) = times_at K s.cumulative i

-- if nothing has left a place, nothing has gone on from it
pub onward_nothing : (r : Road) → RoadOk r → (u : State) (p : ℕ) → p ≤ r.n → cumulative_at u p ≡ 0 → onward_at r u p ≡ 0
onward_nothing r ok u p l e = omega (arith, onward_le (share_at r p) (cumulative_at u p) (share_le r ok p l))

-- before step 0 nothing has left
module _ (K : ℕ) (r : Road) (s : State) (ok : RoadOk r) (none : (p : ℕ) → p ≤ r.n → cumulative_at s p ≡ 0) where
  pub scaled_nothing : (p : ℕ) → p ≤ r.n → cumulative_at (scaled_state K s) p ≡ 0
  scaled_nothing p l = omega (arith, scaled_cumulative K s p, ap (λ (x : ℕ). K * x) (none p l))

  pub coupled_start : Sized r s → ((i : ℕ) → i < r.n → at s.held i ≤ at r.jam i) → Coupling K r s (scaled_state K s)
  coupled_start z held = record {
    sized_s = z;
    sized_t = record {
      held = omega (arith, length_times K s.held, z.held);
      queue = omega (arith, length_times K s.queue, z.queue);
      cumulative = omega (arith, length_times K s.cumulative, z.cumulative);
    };
    held_s = held;
    held_t = λ i l. omega (arith, times_at K s.held i, mul-le-mul_left K (held i l));
    gate = omega (arith, scaled_cumulative K s 0);
    cells = λ i l.
        omega (
          arith,
          times_at K s.held i,
          scaled_cumulative K s (suc i),
          ap (λ (x : ℕ). K * x) (onward_nothing r ok s i (omega arith) (none i (omega arith))),
          onward_nothing r ok (scaled_state K s) i (omega arith) (scaled_nothing i (omega arith)),
        );
    queues = λ i l. times_at K s.queue i;
  }

-- how a step with a row that obeys the rules changes the gate and a cell
module _ (r : Road) (u : State) (row y : List ℕ) (z : Sized r u) (ok : Obeys r u row y) where
  gate_account : (next_of r u row y).gate_queue + cumulative_at (next_of r u row y) 0 ≡ u.gate_queue + cumulative_at u 0 + gate_arrivals row
  gate_account =
      omega (arith, next_gate_queue r u row y, next_cumulative r u row y z 0 (omega arith), ok.demand 0 (omega arith), demand_at_gate r u)

  demand_there : (i : ℕ) → at r.speed i ≤ whole → demand_at r u (suc i) ≤ at u.held i
  unfolding demand_at
  demand_there i h = demand_held (at r.speed i) (capacity_at r i) (at u.held i) h

  cell_account : (i : ℕ) → i < r.n → at r.speed i ≤ whole
      → at (next_of r u row y).held i + cumulative_at (next_of r u row y) (suc i) + onward_at r u i
      ≡ at u.held i + cumulative_at u (suc i) + onward_at r (next_of r u row y) i + release_at row i
  cell_account i l h =
      omega (
        arith,
        next_held r u row y z i l,
        next_cumulative r u row y z (suc i) l,
        next_onward r u row y z i (omega arith),
        ok.demand (suc i) l,
        demand_there i h,
      )

  queue_account : (i : ℕ) → i < r.n → at (next_of r u row y).queue i + release_at row i ≡ at u.queue i + arrivals_at row i
  queue_account i l = omega (arith, next_queue r u row y z i l, ok.released.queue i l, release_there u row i)

  held_account : (i : ℕ) → i < r.n → at r.wave i ≤ whole → at u.held i ≤ at r.jam i → at (next_of r u row y).held i ≤ at r.jam i
  held_account i l h held =
      omega (
        arith,
        next_held r u row y z i l,
        ok.enters i l,
        room_release (supply_at r u i) (release_at row i) (ok.released.supply i l),
        supply_space (at r.wave i) (capacity_at r i) (at r.jam i) (at u.held i) h,
      )

-- a step of both studies
module _ (K : ℕ) (q q' : Road) (s t : State) (row y z : List ℕ) (road : RoadOk q) (f : FinerRoad K q q') (own : Obeys q s row y)
    (fine : Obeys q' t (times_of K row) z) (c : Coupling K q s t) where
  abbrev S' : State
  S' = next_of q s row y

  abbrev T' : State
  T' = next_of q' t (times_of K row) z

  pub sized_finer : Sized q' t
  sized_finer = sized_alike q q' (finer_alike f) t c.sized_t

  cell_step : (i : ℕ) → i < q.n
      → at T'.held i + cumulative_at T' (suc i) + K * onward_at q S' i ≡ K * at S'.held i + K * cumulative_at S' (suc i) + onward_at q T' i
  cell_step i l =
      let m : i < q'.n = omega (arith, f.n) in
      omega (
        arith,
        c.cells i l,
        ap (λ (x : ℕ). K * x) (cell_account q s row y c.sized_s own i l (road.speed i l)),
        cell_account q' t (times_of K row) z sized_finer fine i m (omega (arith, finer_speed f i, road.speed i l)),
        finer_onward f t i (omega arith),
        finer_onward f T' i (omega arith),
        times_at K row (2 * i + 2),
      )

  pub coupled_step : Coupling K q S' T'
  coupled_step = record {
    sized_s = next_sized q s row y c.sized_s;
    sized_t = sized_alike q' q (alike_back q q' (finer_alike f)) T' (next_sized q' t (times_of K row) z sized_finer);
    held_s = λ i l. held_account q s row y c.sized_s own i l (road.wave i l) (c.held_s i l);
    held_t = λ i l.
        omega (
          arith,
          finer_jam f i,
          held_account q' t (times_of K row) z sized_finer fine i (omega (arith, f.n)) (omega (arith, finer_wave f i, road.wave i l))
              (omega (arith, finer_jam f i, c.held_t i l)),
        );
    gate =
        omega (
          arith,
          c.gate,
          ap (λ (x : ℕ). K * x) (gate_account q s row y c.sized_s own),
          gate_account q' t (times_of K row) z sized_finer fine,
          times_at K row 0,
        );
    cells = cell_step;
    queues = λ i l.
        omega (
          arith,
          c.queues i l,
          ap (λ (x : ℕ). K * x) (queue_account q s row y c.sized_s own i l),
          queue_account q' t (times_of K row) z sized_finer fine i (omega (arith, f.n)),
          times_at K row (2 * i + 1),
          times_at K row (2 * i + 2),
        );
  }
