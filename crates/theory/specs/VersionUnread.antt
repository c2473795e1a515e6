-- Theorem: no step, run or schedule depends on its road's version or seconds. Assumes nothing.
use Rattle.std.specs.Prelude.{◌≡◌, Bool, eqb, length}
use Rattle.std.proofs.Math.Path.{refl, ap}
use Rattle.std.proofs.Common.{◌∙◌, arith}
use Rattle.std.proofs.Math.Bool.{true, false, cond}
use mathlib.Core.List.{List}
use Prim.Native.Nat.{ℕ, zero, suc, ◌+◌, ◌≤◌, ◌<◌}
use Rattle.std.proofs.lemmas.Bool.{eqb-false}
use Rattle.model.specs.Refusals.{fault}
use Rattle.model.specs.Numbers.{first_fault}
use Rattle.numbers.specs.FirstLaws.{first_same, fault_within, fault_same}
use Rattle.numbers.specs.RowsLaws.{fill_same, list_same}
use Rattle.model.specs.declared.Road.{Road}
use Rattle.model.specs.declared.State.{State}
use Rattle.model.specs.Road.{total_of}
use Rattle.model.specs.Lanes.{built_in, open_in}
use Rattle.model.specs.Schedules.{Study, open_road, road_at, outflows_of, schedule_after, engine_after, outflows_at}
use Rattle.model.specs.Limits.{place_ok, input_ok}
use Rattle.model.specs.Flow.{capacity_at, demand_at, share_at, outflow_at}
use Rattle.model.specs.Move.{held_of, moved_to, counted_of, next_of, exits_of}
use Rattle.model.specs.Stepping.{lowest_of, releases_of, stepping_of}
use Rattle.model.specs.Judging.{outflow_fault_at, verdict_of}

-- a road with another version and other seconds
abbrev pub with_version : ℕ → ℕ → Road → Road
with_version version seconds r = record {
  n = r.n;
  version = version;
  seconds = seconds;
  gate_capacity = r.gate_capacity;
  speed = r.speed;
  wave = r.wave;
  share = r.share;
  ramp = r.ramp;
  jam = r.jam;
  capacity = r.capacity;
}

-- b is the study a, except for the version and the seconds of its road
pub record OtherVersion (a b : Study) : Type 0 where
  pub road : b.road ≡ with_version b.road.version b.road.seconds a.road
  pub start : b.start ≡ a.start
  pub steps : b.steps ≡ a.steps
  pub rows : (k : ℕ) → k < a.steps → b.rows k ≡ a.rows k
  pub lanes : b.lanes ≡ a.lanes

-- faults that agree at each of n places have the same lowest fault
lowest_same : (f g : ℕ → ℕ) (n base : ℕ) → ((i : ℕ) → i < n → f i ≡ g i) → lowest_of f n base ≡ lowest_of g n base
unfolding lowest_of
lowest_same f g n base h = rw (fault_same f g n h) (go (eqb (first_fault g n) n) refl)
  where
    go : (b : Bool) → eqb (first_fault g n) n ≡ b
        → cond b (fault 0 0) (fault (f (first_fault g n)) (first_fault g n + base)) ≡ cond b (fault 0 0) (fault (g (first_fault g n)) (first_fault g n + base))
    go true e = refl
    go false e =
        let l : first_fault g n < n = omega (arith, fault_within g n, eqb-false (first_fault g n) n e) in
        ap (λ (x : ℕ). fault x (first_fault g n + base)) (h (first_fault g n) l)

-- one step
module _ (version seconds : ℕ) (r : Road) where
  pub share_version : (p : ℕ) → share_at (with_version version seconds r) p ≡ share_at r p
  unfolding share_at
  share_version zero = refl
  share_version (suc i) = refl

  demand_version : (s : State) (p : ℕ) → demand_at (with_version version seconds r) s p ≡ demand_at r s p
  unfolding demand_at capacity_at
  demand_version s zero = refl
  demand_version s (suc i) = refl

  outflow_version : (s : State) (row : List ℕ) (p : ℕ) → outflow_at (with_version version seconds r) s row p ≡ outflow_at r s row p
  unfolding capacity_at
  outflow_version s row p = rw (share_version p, demand_version s p)

  pub outflows_version : (s : State) (row : List ℕ) → outflows_of (with_version version seconds r) s row ≡ outflows_of r s row
  unfolding outflows_of
  outflows_version s row =
      rw (
        list_same (outflow_at (with_version version seconds r) s row) (outflow_at r s row) r.n (λ p l. outflow_version s row p),
        demand_version s r.n,
      )

  held_version : (s : State) (row y : List ℕ) (i : ℕ) → held_of (with_version version seconds r) s row y i ≡ held_of r s row y i
  held_version s row y i = rw (share_version i)

  pub next_version : (s : State) (row y : List ℕ) → next_of (with_version version seconds r) s row y ≡ next_of r s row y
  unfolding counted_of moved_to
  next_version s row y =
      rw (fill_same (held_of (with_version version seconds r) s row y) (held_of r s row y) r.n s.held (λ i l. held_version s row y i))

  pub releases_version : (s : State) (row : List ℕ) → releases_of (with_version version seconds r) s row ≡ releases_of r s row
  unfolding capacity_at
  releases_version s row = refl

  pub exits_version : (s : State) → exits_of (with_version version seconds r) s ≡ exits_of r s
  unfolding exits_of
  exits_version s = refl

  -- judging's fault of a row
  fault_version : (s : State) (row y : List ℕ) (p : ℕ) → outflow_fault_at (with_version version seconds r) s row y p ≡ outflow_fault_at r s row y p
  unfolding outflow_fault_at capacity_at
  fault_version s row y p = rw (share_version p, demand_version s p)

  pub verdict_version : (s : State) (row y : List ℕ) → verdict_of (with_version version seconds r) s row y ≡ verdict_of r s row y
  unfolding verdict_of capacity_at
  verdict_version s row y =
      rw (lowest_same (outflow_fault_at (with_version version seconds r) s row y) (outflow_fault_at r s row y) (r.n + 1) 0 (λ p l. fault_version s row y p))

  -- the test of 7
  place_version : (s : State) (p : ℕ) → place_ok (with_version version seconds r) s p ≡ place_ok r s p
  unfolding place_ok
  place_version s zero = refl
  place_version s (suc i) = refl

  pub input_version : (s : State) (row : List ℕ) → input_ok (with_version version seconds r) s row ≡ input_ok r s row
  unfolding input_ok
  input_version s row =
      rw (first_same (place_ok (with_version version seconds r) s) (place_ok r s) (r.n + 1) (λ p l. place_version s p))

-- stepping itself, 7 and 18 included
pub stepping_version : (version seconds : ℕ) (r : Road) (s : State) (row built usable : List ℕ)
    → stepping_of (with_version version seconds r) s row built usable ≡ stepping_of r s row built usable
unfolding stepping_of
stepping_version version seconds r s row built usable =
    let q = open_road r built usable in
    rw (
      input_version version seconds r s row,
      releases_version version seconds q s row,
      outflows_version version seconds q s row,
      next_version version seconds q s row (outflows_of q s row),
    )

-- the road of step k, from a road and a table of lanes
abbrev road_with : Road → List ℕ → ℕ → Road
road_with r lanes k = cond (eqb (length lanes) 0) r (open_road r (built_in lanes r.n) (open_in lanes r.n k))

-- whole runs
module _ {a b : Study} (h : OtherVersion a b) where
  abbrev version : ℕ
  version = b.road.version

  abbrev seconds : ℕ
  seconds = b.road.seconds

  pub road_at_lem : (k : ℕ) → road_at b k ≡ with_version version seconds (road_at a k)
  unfolding road_at
  road_at_lem k =
      ap (λ (r : Road). road_with r b.lanes k) h.road
      ∙ ap (λ (l : List ℕ). road_with (with_version version seconds a.road) l k) h.lanes
      ∙ go (eqb (length a.lanes) 0)
    where
      go : (t : Bool)
          → cond t (with_version version seconds a.road)
          (open_road (with_version version seconds a.road) (built_in a.lanes a.road.n) (open_in a.lanes a.road.n k))
          ≡ with_version version seconds (cond t a.road (open_road a.road (built_in a.lanes a.road.n) (open_in a.lanes a.road.n k)))
      go true = refl
      go false = refl

  -- the same outflows from the same state
  outflows_from : (k : ℕ) → k < a.steps → (s : State) → outflows_of (road_at b k) s (b.rows k) ≡ outflows_of (road_at a k) s (a.rows k)
  outflows_from k l s =
      ap (λ (r : Road). outflows_of r s (b.rows k)) (road_at_lem k)
      ∙ outflows_version version seconds (road_at a k) s (b.rows k)
      ∙ ap (outflows_of (road_at a k) s) (h.rows k l)

  next_from : (k : ℕ) → k < a.steps → (s : State) (y : List ℕ) → next_of (road_at b k) s (b.rows k) y ≡ next_of (road_at a k) s (a.rows k) y
  next_from k l s y =
      ap (λ (r : Road). next_of r s (b.rows k) y) (road_at_lem k)
      ∙ next_version version seconds (road_at a k) s (b.rows k) y
      ∙ ap (λ (row : List ℕ). next_of (road_at a k) s row y) (h.rows k l)

  -- the same state after every step
  pub same_state : (k : ℕ) → k ≤ a.steps → engine_after b k ≡ engine_after a k
  unfolding engine_after
  same_state zero l = h.start
  same_state (suc k) l =
      let s = engine_after a k in
      let e : engine_after b k ≡ engine_after a k = same_state k (omega arith) in
      ap (λ (u : State). next_of (road_at b k) u (b.rows k) (outflows_of (road_at b k) u (b.rows k))) e
      ∙ ap (next_of (road_at b k) s (b.rows k)) (outflows_from k l s)
      ∙ next_from k l s (outflows_of (road_at a k) s (a.rows k))

  -- the same outflows in every step
  pub same_outflows : (k : ℕ) → k < a.steps → outflows_at b k ≡ outflows_at a k
  same_outflows k l =
      ap (λ (u : State). outflows_of (road_at b k) u (b.rows k)) (same_state k (omega arith)) ∙ outflows_from k l (engine_after a k)

  -- the same 9 and 10, total and exits
  pub same_releases : (k : ℕ) → k < a.steps
      → releases_of (road_at b k) (engine_after b k) (b.rows k) ≡ releases_of (road_at a k) (engine_after a k) (a.rows k)
  same_releases k l =
      ap (λ (u : State). releases_of (road_at b k) u (b.rows k)) (same_state k (omega arith))
      ∙ ap (λ (r : Road). releases_of r (engine_after a k) (b.rows k)) (road_at_lem k)
      ∙ releases_version version seconds (road_at a k) (engine_after a k) (b.rows k)
      ∙ ap (releases_of (road_at a k) (engine_after a k)) (h.rows k l)

  pub same_total : (k : ℕ) → k ≤ a.steps → total_of (engine_after b k) ≡ total_of (engine_after a k)
  same_total k l = ap total_of (same_state k l)

  pub same_exits : (k : ℕ) → k ≤ a.steps → exits_of b.road (engine_after b k) ≡ exits_of a.road (engine_after a k)
  same_exits k l =
      ap (exits_of b.road) (same_state k l)
      ∙ ap (λ (r : Road). exits_of r (engine_after a k)) h.road
      ∙ exits_version version seconds a.road (engine_after a k)

  -- for any schedule: the same states, and the same verdict on each of its rows
  pub same_schedule : (ys : ℕ → List ℕ) (k : ℕ) → k ≤ a.steps → schedule_after b ys k ≡ schedule_after a ys k
  unfolding schedule_after
  same_schedule ys zero l = h.start
  same_schedule ys (suc k) l =
      ap (λ (u : State). next_of (road_at b k) u (b.rows k) (ys k)) (same_schedule ys k (omega arith)) ∙ next_from k l (schedule_after a ys k) (ys k)

  pub same_verdict : (ys : ℕ → List ℕ) (k : ℕ) → k < a.steps
      → verdict_of (road_at b k) (schedule_after b ys k) (b.rows k) (ys k) ≡ verdict_of (road_at a k) (schedule_after a ys k) (a.rows k) (ys k)
  same_verdict ys k l =
      ap (λ (u : State). verdict_of (road_at b k) u (b.rows k) (ys k)) (same_schedule ys k (omega arith))
      ∙ ap (λ (r : Road). verdict_of r (schedule_after a ys k) (b.rows k) (ys k)) (road_at_lem k)
      ∙ verdict_version version seconds (road_at a k) (schedule_after a ys k) (b.rows k) (ys k)
      ∙ ap (λ (row : List ℕ). verdict_of (road_at a k) (schedule_after a ys k) row (ys k)) (h.rows k l)
