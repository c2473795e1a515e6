-- No share 0 before the last: present and the total of a study and of the finer study, by the product of all shares. Assumes nothing.
use Rattle.std.specs.Prelude.{◌≡◌, List, ℕ, zero, suc, ◌+◌, ◌-◌, ◌*◌, ◌≤◌, ◌<◌, take}
use Rattle.std.proofs.Common.{ap, le_refl, mul-le-mul_left, mul-le-mul_right, arith}
use Rattle.std.proofs.Math.Path.{subst⁻¹}
use Rattle.std.proofs.Math.Nat.{le_of_mul-le-mul_left}
use Rattle.model.specs.Flow.{whole, onward_of}
use Rattle.model.specs.Numbers.{sum_of, at}
use Rattle.numbers.specs.SumLaws.{sum_start, sum_more}
use Rattle.model.specs.declared.Road.{Road}
use Rattle.model.specs.declared.State.{State}
use Rattle.model.specs.Road.{total_of}
use Rattle.model.specs.Schedules.{Study, schedule_after, engine_after, outflows_at, ObeysUpTo, proposed_at, scheduled_at}
use Rattle.limits.specs.LimitsLaws.{RoadOk}
use Rattle.model.specs.Flow.{share_at, cumulative_at}
use Rattle.theory.specs.RulesLaws.{onward_at, share_le}
use Rattle.model.specs.Move.{present_of}
use Rattle.theory.specs.RunsLaws.{ReleasesFitUpTo}
use Rattle.theory.proofs.RunsLaws.{engine_schedule, engine_obeys}
use Rattle.model.specs.Demand.{Reaches}
use Rattle.theory.specs.Finer.{scaled, reach_of, thousands_of}
use Rattle.theory.specs.FinerRules.{onward_floor, onward_above}
use Rattle.theory.specs.FinerLaws.{reach_on, reach_le}
use Rattle.theory.specs.Coupling.{Coupling}
use Rattle.theory.specs.AnyShares.{Most, Least}
use Rattle.theory.specs.NearRuns.{Deciding, FinerRequires}
use Rattle.theory.proofs.NearRuns.{coupled, most_after, least_after, engine_decides, finer_decides}
use Rattle.theory.proofs.Present.{queues_finer, own_total, fine_total, own_gate_time, fine_gate_time, start_times, ramp_time_finer}
use Rattle.theory.specs.Totals.{SharesNotZero, AboveByShares, BelowByShares, NearTotal}

-- what has left by an off-ramp, F less its onward total, differs by little more than F; W is the product of the shares and D their thousands
module _ (K b W D Z F F' : ℕ) (share : b ≤ whole) (some : W ≤ D) where
  abbrev c : ℕ
  c = whole - b

  exit_least : F' * W ≤ K * F * W + Z * D → (F' + K * onward_of b F) * W ≤ (K * F + onward_of b F') * W + (Z + 1) * D
  exit_least h =
      let e : c + b ≡ whole = omega arith in
      let l : c ≤ whole = omega arith in
      le_of_mul-le-mul_left {k = whole}
      (omega (
        arith,
        mul-le-mul_left c h,
        ap (λ (z : ℕ). z * (F' * W)) e,
        ap (λ (z : ℕ). z * (K * F * W)) e,
        mul-le-mul_right (Z * D) l,
        mul-le-mul_right (K * W) (onward_floor b F),
        mul-le-mul_right W (onward_above b F'),
      ))
      (omega arith)

  exit_most : K * F * W ≤ F' * W + Z * D → (K * F + onward_of b F') * W ≤ (F' + K * onward_of b F) * W + (Z + K) * D
  exit_most h =
      let e : c + b ≡ whole = omega arith in
      let l : c ≤ whole = omega arith in
      le_of_mul-le-mul_left {k = whole}
      (omega (
        arith,
        mul-le-mul_left c h,
        ap (λ (z : ℕ). z * (F' * W)) e,
        ap (λ (z : ℕ). z * (K * F * W)) e,
        mul-le-mul_right (Z * D) l,
        mul-le-mul_right W (onward_floor b F'),
        mul-le-mul_right (K * W) (onward_above b F),
        mul-le-mul_left K some,
      ))
      (omega arith)

-- one more cell: A and A' are what the places before it hold, h and h' what it holds, B and B' both together, G and G' its F
module _ (K W A A' B B' F F' Y Y' h h' G G' j v : ℕ) (a : B ≡ A + h) (a' : B' ≡ A' + h') (cell : h' + G' + K * Y ≡ K * h + K * G + Y') where
  prefix_more_least : K * (A + F) * W ≤ (A' + F') * W + j * v → (F' + K * Y) * W ≤ (K * F + Y') * W + v
      → K * (B + G) * W ≤ (B' + G') * W + suc j * v
  prefix_more_least x y = omega (arith, ap (λ (z : ℕ). z * W) cell, ap (λ (z : ℕ). K * z * W) a, ap (λ (z : ℕ). z * W) a')

  prefix_more_most : (A' + F') * W ≤ K * (A + F) * W + j * v → (K * F + Y') * W ≤ (F' + K * Y) * W + v
      → (B' + G') * W ≤ K * (B + G) * W + suc j * v
  prefix_more_most x y = omega (arith, ap (λ (z : ℕ). z * W) cell, ap (λ (z : ℕ). K * z * W) a, ap (λ (z : ℕ). z * W) a')

-- all cells, the last one's F and the ramp queues Q and Q'
module _ (K W D n Z v A A' F F' Q Q' : ℕ) (ramps : Q' ≡ K * Q) (more : Z ≤ v) where
  all_least : K * (A + F) * W ≤ (A' + F') * W + n * (v * D) → F' * W ≤ K * F * W + Z * D → K * (A + Q) * W ≤ (A' + Q') * W + suc n * (v * D)
  all_least x y = omega (arith, ap (λ (z : ℕ). z * W) ramps, mul-le-mul_right D more)

  all_most : (A' + F') * W ≤ K * (A + F) * W + n * (v * D) → K * F * W ≤ F' * W + Z * D → (A' + Q') * W ≤ K * (A + Q) * W + suc n * (v * D)
  all_most x y = omega (arith, ap (λ (z : ℕ). z * W) ramps, mul-le-mul_right D more)

-- one more step of the totals A of the finer study and B of the study, with P and Q present
module _ (K W D n A A' B B' P Q u v w : ℕ) (a : A' ≡ A + P) (b : B' ≡ B + Q) (sum : u + v ≡ w) where
  total_more_least : K * B * W ≤ A * W + n * (u * D) → K * Q * W ≤ P * W + n * (v * D) → K * B' * W ≤ A' * W + n * (w * D)
  total_more_least h l =
      omega (arith, ap (λ (z : ℕ). z * W) a, ap (λ (z : ℕ). K * z * W) b, ap (λ (z : ℕ). n * (z * D)) sum)

module _ (K W D n A A' B B' P Q u v w : ℕ) (a : A' ≡ A + P) (b : B' ≡ B + Q) (sum : u + 2 * v ≡ w) where
  total_more_most : 2 * (A * W) ≤ 2 * (K * B * W) + n * (u * D) → P * W ≤ K * Q * W + n * (v * D)
      → 2 * (A' * W) ≤ 2 * (K * B' * W) + n * (w * D)
  total_more_most h l =
      omega (arith, ap (λ (z : ℕ). z * W) a, ap (λ (z : ℕ). K * z * W) b, ap (λ (z : ℕ). n * (z * D)) sum)

-- the gate's queue q is smaller by as much as its F is larger, and the converse
module _ (K W D Z q q' F F' : ℕ) (gate : q' + F' ≡ K * (q + F)) where
  queue_least_lem : F' * W ≤ K * F * W + Z * D → K * q * W ≤ q' * W + 1 * (Z * D)
  queue_least_lem h = omega (arith, ap (λ (z : ℕ). z * W) gate)

  queue_most_lem : K * F * W ≤ F' * W + Z * D → q' * W ≤ K * q * W + 1 * (Z * D)
  queue_most_lem h = omega (arith, ap (λ (z : ℕ). z * W) gate)

-- road time x is the total less gate time g and ramp time q
module _ (K W D n k g g' x x' q q' : ℕ) (ramps : q' ≡ K * q) where
  road_least_lem : K * (g + x + q) * W ≤ (g' + x' + q') * W + suc n * ((k * (k + 1) * K + k) * D)
      → 2 * (g' * W) ≤ 2 * (K * g * W) + k * (k + 1) * (K + 1) * D
      → 2 * (K * x * W) ≤ 2 * (x' * W) + suc n * ((k * (k + 1) * (3 * K + 1) + 2 * k) * D)
  road_least_lem h l = omega (arith, ap (λ (z : ℕ). z * W) ramps)

  road_most_lem : 2 * ((g' + x' + q') * W) ≤ 2 * (K * (g + x + q) * W) + suc n * ((k * (k + 1) * (K + 1) + 2 * k * K) * D)
      → K * g * W ≤ g' * W + k * (k + 1) * K * D
      → 2 * (x' * W) ≤ 2 * (K * x * W) + suc n * ((k * (k + 1) * (3 * K + 1) + 2 * k * K) * D)
  road_most_lem h l = omega (arith, ap (λ (z : ℕ). z * W) ramps)

-- a bound with the shares from a place on gives one with all shares
module _ (r : Road) (ok : RoadOk r) (on : SharesNotZero r) (x y u : ℕ) where
  before : (p : ℕ) → p < r.n → x * reach_of r (suc p) ≤ y * reach_of r (suc p) + u * thousands_of r (suc p)
      → x * reach_of r p ≤ y * reach_of r p + u * thousands_of r p
  before p l h =
      let e = reach_on r p l (on p l) in
      omega (
        arith,
        mul-le-mul_left (share_at r p) h,
        mul-le-mul_right (u * thousands_of r (suc p)) (share_le r ok p (omega arith)),
        ap (λ (z : ℕ). x * z) e.0,
        ap (λ (z : ℕ). y * z) e.0,
        ap (λ (z : ℕ). u * z) e.1,
      )

  from_gate_lem : (p : ℕ) → p ≤ r.n → x * reach_of r p ≤ y * reach_of r p + u * thousands_of r p → x * reach_of r 0 ≤ y * reach_of r 0 + u * thousands_of r 0
  from_gate_lem zero l h = h
  from_gate_lem (suc p) l h = from_gate_lem p (omega arith) (before p l h)

module _ (K Z : ℕ) (r : Road) (s t : State) (ok : RoadOk r) (on : SharesNotZero r) (c : Coupling K r s t) where
  abbrev R : ℕ
  R = reach_of r 0

  abbrev D : ℕ
  D = thousands_of r 0

  -- the gate and the first j cells, in the study and in the finer one
  abbrev own : ℕ → ℕ
  own j = s.gate_queue + sum_of (take j s.held)

  abbrev fine : ℕ → ℕ
  fine j = t.gate_queue + sum_of (take j t.held)

  own_more : (j : ℕ) → j < r.n → s.gate_queue + sum_of (take (suc j) s.held) ≡ s.gate_queue + sum_of (take j s.held) + at s.held j
  own_more j l = omega (arith, sum_more j s.held (omega (arith, c.sized_s.held)))

  fine_more : (j : ℕ) → j < r.n → t.gate_queue + sum_of (take (suc j) t.held) ≡ t.gate_queue + sum_of (take j t.held) + at t.held j
  fine_more j l = omega (arith, sum_more j t.held (omega (arith, c.sized_t.held)))

  -- the same plus F of the last of them
  gate_all : fine 0 + cumulative_at t 0 ≡ K * (own 0 + cumulative_at s 0)
  gate_all = omega (arith, c.gate, sum_start t.held, ap (λ (z : ℕ). K * z) (sum_start s.held))

  module _ (m : Most K Z r s t) where
    prefix_least : (j : ℕ) → j ≤ r.n → K * (own j + cumulative_at s j) * R ≤ (fine j + cumulative_at t j) * R + j * ((Z + 1) * D)
    prefix_least zero l = omega (arith, ap (λ (z : ℕ). z * R) gate_all)
    prefix_least (suc j) l =
        prefix_more_least K R (own j) (fine j) (own (suc j)) (fine (suc j)) (cumulative_at s j) (cumulative_at t j) (onward_at r s j) (onward_at r t j)
        (at s.held j) (at t.held j) (cumulative_at s (suc j)) (cumulative_at t (suc j)) j ((Z + 1) * D) (own_more j l) (fine_more j l) (c.cells j l)
        (prefix_least j (omega arith))
        (from_gate_lem r ok on (cumulative_at t j + K * onward_at r s j) (K * cumulative_at s j + onward_at r t j) (Z + 1) j (omega arith)
        (exit_least K (share_at r j) (reach_of r j) (thousands_of r j) Z (cumulative_at s j) (cumulative_at t j) (share_le r ok j (omega arith))
        (reach_le r ok j (omega arith)) (m.outflow j (omega arith))))

    pub present_least : K * present_of r s * R ≤ present_of r t * R + suc r.n * ((Z + 1) * D)
    present_least =
        all_least K R D r.n Z (Z + 1) (own r.n) (fine r.n) (cumulative_at s r.n) (cumulative_at t r.n) (sum_of (take r.n s.queue))
        (sum_of (take r.n t.queue)) (queues_finer K r s t c r.n (le_refl r.n)) (omega arith)
        (prefix_least r.n (le_refl r.n))
        (from_gate_lem r ok on (cumulative_at t r.n) (K * cumulative_at s r.n) Z r.n (le_refl r.n) (m.outflow r.n (le_refl r.n)))

  module _ (m : Least K Z r s t) where
    prefix_most : (j : ℕ) → j ≤ r.n → (fine j + cumulative_at t j) * R ≤ K * (own j + cumulative_at s j) * R + j * ((Z + K) * D)
    prefix_most zero l = omega (arith, ap (λ (z : ℕ). z * R) gate_all)
    prefix_most (suc j) l =
        prefix_more_most K R (own j) (fine j) (own (suc j)) (fine (suc j)) (cumulative_at s j) (cumulative_at t j) (onward_at r s j) (onward_at r t j)
        (at s.held j) (at t.held j) (cumulative_at s (suc j)) (cumulative_at t (suc j)) j ((Z + K) * D) (own_more j l) (fine_more j l) (c.cells j l)
        (prefix_most j (omega arith))
        (from_gate_lem r ok on (K * cumulative_at s j + onward_at r t j) (cumulative_at t j + K * onward_at r s j) (Z + K) j (omega arith)
        (exit_most K (share_at r j) (reach_of r j) (thousands_of r j) Z (cumulative_at s j) (cumulative_at t j) (share_le r ok j (omega arith))
        (reach_le r ok j (omega arith)) (m.outflow j (omega arith))))

    pub present_most : present_of r t * R ≤ K * present_of r s * R + suc r.n * ((Z + K) * D)
    present_most =
        all_most K R D r.n Z (Z + K) (own r.n) (fine r.n) (cumulative_at s r.n) (cumulative_at t r.n) (sum_of (take r.n s.queue))
        (sum_of (take r.n t.queue)) (queues_finer K r s t c r.n (le_refl r.n)) (omega arith)
        (prefix_most r.n (le_refl r.n))
        (from_gate_lem r ok on (K * cumulative_at s r.n) (cumulative_at t r.n) Z r.n (le_refl r.n) (m.outflow r.n (le_refl r.n)))

module _ {K : ℕ} {a : Study} (h : FinerRequires K a) (on : SharesNotZero a.road) (ys zs : ℕ → List ℕ) where
  abbrev road : Road
  road = a.road

  abbrev S : ℕ → State
  S = schedule_after a ys

  abbrev T : ℕ → State
  T = schedule_after (scaled K a) zs

  -- present after each step
  now_least : (k : ℕ) → ObeysUpTo a ys k → ObeysUpTo (scaled K a) zs k → Deciding a ys k
      → K * present_of a.road (S k) * reach_of a.road 0
      ≤ present_of a.road (T k) * reach_of a.road 0 + suc a.road.n * ((2 * k * K + 1) * thousands_of a.road 0)
  now_least k own fine decide =
      present_least K (2 * k * K) road (S k) (T k) h.ok.road on (coupled h ys zs k own fine) (most_after h ys zs k own fine decide)

  now_most : (k : ℕ) → ObeysUpTo a ys k → ObeysUpTo (scaled K a) zs k → Deciding (scaled K a) zs k
      → present_of a.road (T k) * reach_of a.road 0
      ≤ K * present_of a.road (S k) * reach_of a.road 0 + suc a.road.n * ((k * (K + 1) + K) * thousands_of a.road 0)
  now_most k own fine decide =
      present_most K (k * (K + 1)) road (S k) (T k) h.ok.road on (coupled h ys zs k own fine) (least_after h ys zs k own fine decide)

  pub above_by_shares : (k : ℕ) → ObeysUpTo a ys k → ObeysUpTo (scaled K a) zs k → Deciding a ys k
      → AboveByShares K k a.road (schedule_after a ys k) (schedule_after (scaled K a) zs k)
  above_by_shares zero own fine decide = record {
    present = now_least 0 own fine decide;
    total = omega (arith, ap (λ (z : ℕ). z * reach_of road 0) (start_times h ys zs).1.1);
    gate_time = omega (arith, ap (λ (z : ℕ). z * reach_of road 0) (start_times h ys zs).0);
  }
  above_by_shares (suc k) own fine decide =
      let past = above_by_shares k (λ j l. own j (omega arith)) (λ j l. fine j (omega arith)) (λ j l. decide j (omega arith)) in
      let now = now_least (suc k) own fine decide in
      record {
        present = now;
        total =
            total_more_least K (reach_of road 0) (thousands_of road 0) (suc road.n) (total_of (T k)) (total_of (T (suc k))) (total_of (S k))
            (total_of (S (suc k))) (present_of road (T (suc k))) (present_of road (S (suc k))) (k * (k + 1) * K + k) (2 * suc k * K + 1)
            (suc k * (suc k + 1) * K + suc k) (fine_total h ys zs k) (own_total h ys zs k) (omega arith) past.total now;
        gate_time =
            omega (
              arith,
              total_more_least K (reach_of road 0) (thousands_of road 0) 1 (T k).gate_time (T (suc k)).gate_time (S k).gate_time
                  (S (suc k)).gate_time (T (suc k)).gate_queue (S (suc k)).gate_queue (k * (k + 1) * K) (2 * suc k * K) (suc k * (suc k + 1) * K)
                  (fine_gate_time h ys zs k) (own_gate_time h ys zs k) (omega arith) (omega (arith, past.gate_time))
                  (queue_least_lem K (reach_of road 0) (thousands_of road 0) (2 * suc k * K) (S (suc k)).gate_queue (T (suc k)).gate_queue
                  (cumulative_at (S (suc k)) 0) (cumulative_at (T (suc k)) 0) (coupled h ys zs (suc k) own fine).gate
                  ((most_after h ys zs (suc k) own fine decide).outflow 0 (omega arith))),
            );
      }

  pub below_by_shares : (k : ℕ) → ObeysUpTo a ys k → ObeysUpTo (scaled K a) zs k → Deciding (scaled K a) zs k
      → BelowByShares K k a.road (schedule_after a ys k) (schedule_after (scaled K a) zs k)
  below_by_shares zero own fine decide = record {
    present = now_most 0 own fine decide;
    total = omega (arith, ap (λ (z : ℕ). z * reach_of road 0) (start_times h ys zs).1.1);
    gate_time = omega (arith, ap (λ (z : ℕ). z * reach_of road 0) (start_times h ys zs).0);
  }
  below_by_shares (suc k) own fine decide =
      let past = below_by_shares k (λ j l. own j (omega arith)) (λ j l. fine j (omega arith)) (λ j l. decide j (omega arith)) in
      let now = now_most (suc k) own fine decide in
      record {
        present = now;
        total =
            total_more_most K (reach_of road 0) (thousands_of road 0) (suc road.n) (total_of (T k)) (total_of (T (suc k))) (total_of (S k))
            (total_of (S (suc k))) (present_of road (T (suc k))) (present_of road (S (suc k))) (k * (k + 1) * (K + 1) + 2 * k * K)
            (suc k * (K + 1) + K) (suc k * (suc k + 1) * (K + 1) + 2 * suc k * K) (fine_total h ys zs k) (own_total h ys zs k) (omega arith)
            past.total now;
        gate_time =
            omega (
              arith,
              total_more_most K (reach_of road 0) (thousands_of road 0) 1 (T k).gate_time (T (suc k)).gate_time (S k).gate_time
                  (S (suc k)).gate_time (T (suc k)).gate_queue (S (suc k)).gate_queue (k * (k + 1) * (K + 1)) (suc k * (K + 1))
                  (suc k * (suc k + 1) * (K + 1)) (fine_gate_time h ys zs k) (own_gate_time h ys zs k) (omega arith) (omega (arith, past.gate_time))
                  (queue_most_lem K (reach_of road 0) (thousands_of road 0) (suc k * (K + 1)) (S (suc k)).gate_queue (T (suc k)).gate_queue
                  (cumulative_at (S (suc k)) 0) (cumulative_at (T (suc k)) 0) (coupled h ys zs (suc k) own fine).gate
                  ((least_after h ys zs (suc k) own fine decide).outflow 0 (omega arith))),
            );
      }

pub near_total : (K k : ℕ) (r : Road) (s t : State) → t.ramp_time ≡ K * s.ramp_time → AboveByShares K k r s t → BelowByShares K k r s t → NearTotal K k r s t
near_total K k r s t ramps x y = record {
  above = x;
  below = y;
  road_most = road_most_lem K (reach_of r 0) (thousands_of r 0) r.n k s.gate_time t.gate_time s.road_time t.road_time s.ramp_time
      t.ramp_time ramps y.total x.gate_time;
  road_least = road_least_lem K (reach_of r 0) (thousands_of r 0) r.n k s.gate_time t.gate_time s.road_time t.road_time s.ramp_time
      t.ramp_time ramps x.total y.gate_time;
}

module _ {K : ℕ} {a : Study} (h : FinerRequires K a) (on : SharesNotZero a.road) (k : ℕ) (fits : ReleasesFitUpTo a k) where
  pub rounding_total : ReleasesFitUpTo (scaled K a) k → NearTotal K k a.road (engine_after a k) (engine_after (scaled K a) k)
  rounding_total fine =
      subst⁻¹ (λ (u : State). NearTotal K k a.road (engine_after a k) u) (engine_schedule (scaled K a) k)
      (subst⁻¹ (λ (u : State). NearTotal K k a.road u (schedule_after (scaled K a) (outflows_at (scaled K a)) k)) (engine_schedule a k)
      (near_total K k a.road (schedule_after a (outflows_at a) k) (schedule_after (scaled K a) (outflows_at (scaled K a)) k)
      (ramp_time_finer h (outflows_at a) (outflows_at (scaled K a)) k (engine_obeys a k fits) (engine_obeys (scaled K a) k fine))
      (above_by_shares h on (outflows_at a) (outflows_at (scaled K a)) k (engine_obeys a k fits) (engine_obeys (scaled K a) k fine) (engine_decides h k fits))
      (below_by_shares h on (outflows_at a) (outflows_at (scaled K a)) k (engine_obeys a k fits) (engine_obeys (scaled K a) k fine) (finer_decides h k fine))))

  -- demand 3 within the bound: no schedule of the finer study has less present, or a smaller total, by more than this
  pub finer_schedules_total : (zs : List ℕ) → Reaches (scaled K a) zs k → AboveByShares K k a.road (engine_after a k) (scheduled_at (scaled K a) zs k)
  finer_schedules_total zs reaches =
      subst⁻¹ (λ (u : State). AboveByShares K k a.road u (scheduled_at (scaled K a) zs k)) (engine_schedule a k)
      (above_by_shares h on (outflows_at a) (proposed_at (scaled K a) zs) k (engine_obeys a k fits) reaches.obeys (engine_decides h k fits))
