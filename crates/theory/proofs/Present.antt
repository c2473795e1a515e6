-- Shares 1,000 before the last: present and the three times of a study and of the finer study. Assumes nothing.
use Rattle.std.specs.Prelude.{◌≡◌, List, take}
use Rattle.std.proofs.Math.Path.{refl, ap}
use Prim.Native.Nat.{ℕ, zero, suc, ◌+◌, ◌*◌, ◌≤◌}
use Rattle.std.proofs.Common.{le_refl}
use native.Mathlib.Omega.{arith}
use Rattle.model.specs.Numbers.{sum_of}
use Rattle.numbers.specs.SumLaws.{sum_start, sum_more}
use Rattle.model.specs.declared.Road.{Road}
use Rattle.model.specs.declared.State.{State}
use Rattle.model.specs.Road.{total_of}
use Rattle.model.specs.Schedules.{Study, road_at, schedule_after, ObeysUpTo}
use Rattle.model.specs.Flow.{cumulative_at}
use Rattle.model.specs.Move.{present_of}
use Rattle.theory.specs.MoveLaws.{next_total, next_gate_time, next_ramp_time}
use Rattle.theory.specs.Roads.{Alike, step_alike, alike_then, present_alike, queue_alike}
use Rattle.theory.specs.Finer.{scaled}
use Rattle.theory.specs.FinerLaws.{finer_alike}
use Rattle.theory.specs.Coupling.{Coupling}
use Rattle.theory.specs.WholeShares.{SharesWhole, onward_all}
use Rattle.theory.specs.NearRuns.{Deciding, FinerRequires}
use Rattle.theory.proofs.NearRuns.{coupled, whole_most_after, whole_least_after}
use Rattle.theory.specs.Present.{AboveAtMost, NotBelow}

-- ramp queues are K times as long, with any shares
pub queues_finer : (K : ℕ) (r : Road) (s t : State) → Coupling K r s t → (k : ℕ) → k ≤ r.n → sum_of (take k t.queue) ≡ K * sum_of (take k s.queue)
queues_finer K r s t c zero l = omega (arith, sum_start t.queue, ap (λ (x : ℕ). K * x) (sum_start s.queue))
queues_finer K r s t c (suc k) l =
    omega (
      arith,
      queues_finer K r s t c k (omega arith),
      c.queues k l,
      sum_more k t.queue (omega (arith, c.sized_t.queue)),
      ap (λ (x : ℕ). K * x) (sum_more k s.queue (omega (arith, c.sized_s.queue))),
    )

module _ (K : ℕ) (r : Road) (on : SharesWhole r) (s t : State) (c : Coupling K r s t) where
  -- the gate and the first k cells, plus what has left the last of them
  prefix : (k : ℕ) → k ≤ r.n
      → t.gate_queue + sum_of (take k t.held) + cumulative_at t k ≡ K * (s.gate_queue + sum_of (take k s.held) + cumulative_at s k)
  prefix zero l = omega (arith, c.gate, sum_start t.held, ap (λ (x : ℕ). K * x) (sum_start s.held))
  prefix (suc k) l =
      omega (
        arith,
        prefix k (omega arith),
        c.cells k l,
        onward_all r on t k l,
        ap (λ (x : ℕ). K * x) (onward_all r on s k l),
        sum_more k t.held (omega (arith, c.sized_t.held)),
        ap (λ (x : ℕ). K * x) (sum_more k s.held (omega (arith, c.sized_s.held))),
      )

  -- present plus what has left the road is K times as much
  present_account : present_of r t + cumulative_at t r.n ≡ K * (present_of r s + cumulative_at s r.n)
  present_account = omega (arith, prefix r.n (le_refl r.n), queues_finer K r s t c r.n (le_refl r.n))

module _ {K : ℕ} {a : Study} (h : FinerRequires K a) (ys zs : ℕ → List ℕ) where
  abbrev r : Road
  r = a.road

  abbrev b : Study
  b = scaled K a

  abbrev S : ℕ → State
  S = schedule_after a ys

  abbrev T : ℕ → State
  T = schedule_after (scaled K a) zs

  -- the road of a step has the study's cells and shares
  own_road_lem : (j : ℕ) → Alike a.road (road_at a j)
  own_road_lem j = step_alike (h.ok.roads j)

  fine_road : (j : ℕ) → Alike a.road (road_at (scaled K a) j)
  fine_road j = alike_then a.road (road_at a j) (road_at (scaled K a) j) (own_road_lem j) (finer_alike (h.roads j))

  pub own_total : (k : ℕ) → total_of (schedule_after a ys (suc k)) ≡ total_of (schedule_after a ys k) + present_of a.road (schedule_after a ys (suc k))
  unfolding schedule_after
  own_total k = omega (arith, next_total (road_at a k) (S k) (a.rows k) (ys k), present_alike r (road_at a k) (own_road_lem k) (S (suc k)))

  pub fine_total : (k : ℕ)
      → total_of (schedule_after (scaled K a) zs (suc k))
      ≡ total_of (schedule_after (scaled K a) zs k) + present_of a.road (schedule_after (scaled K a) zs (suc k))
  unfolding schedule_after
  fine_total k = omega (arith, next_total (road_at b k) (T k) (b.rows k) (zs k), present_alike r (road_at b k) (fine_road k) (T (suc k)))

  pub own_gate_time : (k : ℕ) → (S (suc k)).gate_time ≡ (S k).gate_time + (S (suc k)).gate_queue
  unfolding schedule_after
  own_gate_time k = next_gate_time (road_at a k) (S k) (a.rows k) (ys k)

  pub fine_gate_time : (k : ℕ) → (T (suc k)).gate_time ≡ (T k).gate_time + (T (suc k)).gate_queue
  unfolding schedule_after
  fine_gate_time k = next_gate_time (road_at b k) (T k) (b.rows k) (zs k)

  pub start_times : ((T 0).gate_time ≡ K * (S 0).gate_time) × (((T 0).ramp_time ≡ K * (S 0).ramp_time) × (total_of (T 0) ≡ K * total_of (S 0)))
  unfolding schedule_after
  start_times = (refl, (refl, omega arith))

  -- ramp time is K times as long, with any shares
  pub ramp_time_finer : (k : ℕ) → ObeysUpTo a ys k → ObeysUpTo (scaled K a) zs k
      → (schedule_after (scaled K a) zs k).ramp_time ≡ K * (schedule_after a ys k).ramp_time
  unfolding schedule_after
  ramp_time_finer zero own fine = refl
  ramp_time_finer (suc k) own fine =
      let c = coupled h ys zs (suc k) own fine in
      omega (
        arith,
        ramp_time_finer k (λ j l. own j (omega arith)) (λ j l. fine j (omega arith)),
        ap (λ (x : ℕ). K * x) (next_ramp_time (road_at a k) (S k) (a.rows k) (ys k)),
        next_ramp_time (road_at b k) (T k) (b.rows k) (zs k),
        ap (λ (x : ℕ). K * x) (queue_alike r (road_at a k) (own_road_lem k) (S (suc k))),
        queue_alike r (road_at b k) (fine_road k) (T (suc k)),
        queues_finer K r (S (suc k)) (T (suc k)) c r.n (le_refl r.n),
      )

  module _ (on : SharesWhole a.road) where
    pub above_at_most : (k : ℕ) → ObeysUpTo a ys k → ObeysUpTo (scaled K a) zs k → Deciding a ys k
        → AboveAtMost K k a.road (schedule_after a ys k) (schedule_after (scaled K a) zs k)
    above_at_most zero own fine decide =
        let e = present_account K r on (S 0) (T 0) (coupled h ys zs 0 own fine) in
        let f = whole_most_after h ys zs on 0 own fine decide in
        record {
          present = omega (arith, e, f r.n (le_refl r.n));
          total = omega (arith, start_times);
          gate_time = omega (arith, start_times);
        }
    above_at_most (suc k) own fine decide =
        let before = above_at_most k (λ j l. own j (omega arith)) (λ j l. fine j (omega arith)) (λ j l. decide j (omega arith)) in
        let c = coupled h ys zs (suc k) own fine in
        let e = present_account K r on (S (suc k)) (T (suc k)) c in
        let f = whole_most_after h ys zs on (suc k) own fine decide in
        let now : K * present_of r (S (suc k)) ≤ present_of r (T (suc k)) + suc k * K = omega (arith, e, f r.n (le_refl r.n)) in
        record {
          present = now;
          total = omega (arith, before.total, now, ap (λ (x : ℕ). K * x) (own_total k), fine_total k);
          gate_time =
              omega (arith, before.gate_time, c.gate, f 0 (omega arith), ap (λ (x : ℕ). K * x) (own_gate_time k), fine_gate_time k);
        }

    pub not_below_lem : (k : ℕ) → ObeysUpTo a ys k → ObeysUpTo (scaled K a) zs k → Deciding (scaled K a) zs k
        → NotBelow K a.road (schedule_after a ys k) (schedule_after (scaled K a) zs k)
    not_below_lem zero own fine decide =
        let e = present_account K r on (S 0) (T 0) (coupled h ys zs 0 own fine) in
        let f = whole_least_after h ys zs on 0 own fine decide in
        record {
          present = omega (arith, e, f r.n (le_refl r.n));
          total = omega (arith, start_times);
          gate_time = omega (arith, start_times);
        }
    not_below_lem (suc k) own fine decide =
        let before = not_below_lem k (λ j l. own j (omega arith)) (λ j l. fine j (omega arith)) (λ j l. decide j (omega arith)) in
        let c = coupled h ys zs (suc k) own fine in
        let e = present_account K r on (S (suc k)) (T (suc k)) c in
        let f = whole_least_after h ys zs on (suc k) own fine decide in
        let now : present_of r (T (suc k)) ≤ K * present_of r (S (suc k)) = omega (arith, e, f r.n (le_refl r.n)) in
        record {
          present = now;
          total = omega (arith, before.total, now, ap (λ (x : ℕ). K * x) (own_total k), fine_total k);
          gate_time =
              omega (arith, before.gate_time, c.gate, f 0 (omega arith), ap (λ (x : ℕ). K * x) (own_gate_time k), fine_gate_time k);
        }
