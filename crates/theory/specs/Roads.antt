-- Two roads compared: roads with the same cells and shares, and a road that is nowhere worse than another. Assumes nothing.
use Rattle.std.specs.Prelude.{◌≡◌, List, take}
use Rattle.std.proofs.Math.Path.{refl}
use Rattle.std.proofs.Common.{sym, ap, ◌∙◌, le_refl, arith}
use Prim.Native.Nat.{ℕ, zero, suc, ◌≤◌, ◌<◌}
use Rattle.model.specs.Flow.{onward_of}
use Rattle.model.specs.Numbers.{sum_of, at}
use Rattle.model.specs.declared.Road.{Road}
use Rattle.model.specs.declared.State.{State}
use Rattle.limits.specs.LimitsLaws.{RoadOk, StateOk, RowOk}
use Rattle.model.specs.Flow.{capacity_at, share_at, cumulative_at}
use Rattle.theory.specs.RulesLaws.{onward_at, Sized}
use Rattle.model.specs.Move.{held_sum, queue_sum, present_of}

-- b has a's cells and onward shares
pub record Alike (a b : Road) : Type 0 where
  pub n : b.n ≡ a.n
  pub share : (i : ℕ) → i < a.n → at b.share i ≡ at a.share i

-- b has a's cells and onward shares, and no speed, wave, jam count or capacity of b is smaller
pub record Wider (a b : Road) : Type 0 where
  pub alike : Alike a b
  pub gate : a.gate_capacity ≤ b.gate_capacity
  pub speed : (i : ℕ) → i < a.n → at a.speed i ≤ at b.speed i
  pub wave : (i : ℕ) → i < a.n → at a.wave i ≤ at b.wave i
  pub jam : (i : ℕ) → i < a.n → at a.jam i ≤ at b.jam i
  pub capacity : (i : ℕ) → i < a.n → capacity_at a i ≤ capacity_at b i

-- the roads of one step: the rival's a and the engine's b, which is nowhere worse; both within the limits, both with r's cells and shares
pub record ComparedRoads (r a b : Road) : Type 0 where
  pub alike : Alike r a
  pub wider : Wider a b
  pub rival : RoadOk a
  pub engine : RoadOk b

pub alike_self : (r : Road) → Alike r r
alike_self r = record { n = refl; share = λ i l. refl }

pub alike_back : (a b : Road) → Alike a b → Alike b a
alike_back a b h = record { n = sym h.n; share = λ i l. sym (h.share i (omega (arith, h.n))) }

pub alike_then : (a b c : Road) → Alike a b → Alike b c → Alike a c
alike_then a b c h k = record { n = k.n ∙ h.n; share = λ i l. k.share i (omega (arith, h.n)) ∙ h.share i l }

pub wider_self : (r : Road) → Wider r r
wider_self r = record {
  alike = alike_self r;
  gate = le_refl r.gate_capacity;
  speed = λ i l. le_refl (at r.speed i);
  wave = λ i l. le_refl (at r.wave i);
  jam = λ i l. le_refl (at r.jam i);
  capacity = λ i l. le_refl (capacity_at r i);
}

-- the same road on both sides
pub compared_self : (r : Road) → RoadOk r → ComparedRoads r r r
compared_self r ok = record { alike = alike_self r; wider = wider_self r; rival = ok; engine = ok }

-- the road of a step: the road r with other capacities, within the limits
pub record StepRoad (r q : Road) : Type 0 where
  pub n : q.n ≡ r.n
  pub share : q.share ≡ r.share
  pub ramp : q.ramp ≡ r.ramp
  pub jam : q.jam ≡ r.jam
  pub ok : RoadOk q

pub step_road_self : (r : Road) → RoadOk r → StepRoad r r
step_road_self r ok = record { n = refl; share = refl; ramp = refl; jam = refl; ok = ok }

module _ {r q : Road} (h : StepRoad r q) where
  pub step_alike : Alike r q
  step_alike = record { n = h.n; share = λ i l. ap (λ (x : List ℕ). at x i) h.share }

  -- other capacities change no limit of a state or a row
  pub step_state : (s : State) → StateOk r s → StateOk q s
  step_state s k = record {
    done = k.done;
    total = k.total;
    gate_queue = k.gate_queue;
    gate_cumulative = k.gate_cumulative;
    held = λ i l. rw h.jam (k.held i (omega (arith, h.n)));
    queue = λ i l. k.queue i (omega (arith, h.n));
    no_ramp = λ i l e. k.no_ramp i (omega (arith, h.n)) (rw h.ramp at e);
    cumulative = λ i l. k.cumulative i (omega (arith, h.n));
  }

  pub state_back : (s : State) → StateOk q s → StateOk r s
  state_back s k = record {
    done = k.done;
    total = k.total;
    gate_queue = k.gate_queue;
    gate_cumulative = k.gate_cumulative;
    held = λ i l. rw h.jam at (k.held i (omega (arith, h.n)));
    queue = λ i l. k.queue i (omega (arith, h.n));
    no_ramp = λ i l e. k.no_ramp i (omega (arith, h.n)) (rw h.ramp e);
    cumulative = λ i l. k.cumulative i (omega (arith, h.n));
  }

  pub step_row : (row : List ℕ) → RowOk r row → RowOk q row
  step_row row k = record {
    numbers = omega (arith, k.numbers, h.n);
    gate = k.gate;
    arrivals = λ i l. k.arrivals i (omega (arith, h.n));
    release = λ i l. k.release i (omega (arith, h.n));
    no_arrivals = λ i l e. k.no_arrivals i (omega (arith, h.n)) (rw h.ramp at e);
    no_release = λ i l e. k.no_release i (omega (arith, h.n)) (rw h.ramp at e);
  }

  pub row_back : (row : List ℕ) → RowOk q row → RowOk r row
  row_back row k = record {
    numbers = omega (arith, k.numbers, h.n);
    gate = k.gate;
    arrivals = λ i l. k.arrivals i (omega (arith, h.n));
    release = λ i l. k.release i (omega (arith, h.n));
    no_arrivals = λ i l e. k.no_arrivals i (omega (arith, h.n)) (rw h.ramp e);
    no_release = λ i l e. k.no_release i (omega (arith, h.n)) (rw h.ramp e);
  }

-- what agrees on roads with the same cells and shares
module _ (a b : Road) (h : Alike a b) where
  pub share_alike : (p : ℕ) → p ≤ a.n → share_at b p ≡ share_at a p
  unfolding share_at
  share_alike zero l = refl
  share_alike (suc i) l = h.share i l

  pub onward_alike : (s : State) (p : ℕ) → p ≤ a.n → onward_at b s p ≡ onward_at a s p
  onward_alike s p l = ap (λ (x : ℕ). onward_of x (cumulative_at s p)) (share_alike p l)

  pub held_alike : (s : State) → held_sum b s ≡ held_sum a s
  held_alike s = ap (λ (n : ℕ). sum_of (take n s.held)) h.n

  pub queue_alike : (s : State) → queue_sum b s ≡ queue_sum a s
  queue_alike s = ap (λ (n : ℕ). sum_of (take n s.queue)) h.n

  pub present_alike : (s : State) → present_of b s ≡ present_of a s
  present_alike s = omega (arith, held_alike s, queue_alike s)

  pub sized_alike : (s : State) → Sized a s → Sized b s
  sized_alike s z = record {
    held = omega (arith, h.n, z.held);
    queue = omega (arith, h.n, z.queue);
    cumulative = omega (arith, h.n, z.cumulative);
  }
