-- The road of a step: the study's road with the capacities that the open lanes leave. Assumes nothing.
use Rattle.std.specs.Prelude.{◌≡◌, Bool, cond, ◌⊎◌, List, ℕ, ◌≤◌, ◌<◌, length}
use Rattle.std.proofs.Math.Path.{refl}
use Rattle.std.proofs.Common.{ap, ◌∙◌, ⊎_elim, arith}
use Rattle.std.proofs.Math.Bool.{true, false}
use Rattle.std.specs.Int.Bits.{bit_and}
use Rattle.std.proofs.Math.Dec.{eqb}
use borrow.Author.Tests.{eqb-false, eq-eqb, ne_eqb}
use Rattle.model.specs.Numbers.{at}
use Rattle.numbers.specs.RowsLaws.{fill_at, fill_same, fill_own}
use Rattle.model.specs.Lanes.{open_capacity, built_in, open_in}
use Rattle.lanes.specs.LanesLaws.{open_all, open_le, open_mono, table_within}
use Rattle.model.specs.declared.Road.{Road}
use Rattle.model.specs.Schedules.{Study, with_capacity, open_road, road_at}
use Rattle.limits.specs.LimitsLaws.{RoadOk}
use Rattle.model.specs.Flow.{capacity_at}
use Rattle.theory.specs.StepLaws.{TableOk}
use Rattle.theory.specs.Roads.{Wider, StepRoad, step_road_self}

module _ (r : Road) (built usable : List ℕ) where
  -- the capacity of a cell
  open_at : r.n ≤ length r.capacity → (i : ℕ) → i < r.n
      → at (open_road r built usable).capacity i ≡ open_capacity (at r.capacity i) (at built i) (at usable i)
  open_at lr i l = fill_at (λ j. open_capacity (at r.capacity j) (at built j) (at usable j)) r.n r.capacity i l lr

  -- if every open lane is built, no capacity is larger, so every limit holds
  pub open_road_ok : RoadOk r → r.n ≤ length r.capacity → ((i : ℕ) → i < r.n → bit_and (at usable i) (at built i) ≡ at usable i)
      → StepRoad r (open_road r built usable)
  open_road_ok ok lr within = record {
    n = refl;
    share = refl;
    ramp = refl;
    jam = refl;
    ok = record {
      some = ok.some;
      cells = ok.cells;
      gate = ok.gate;
      speed = ok.speed;
      wave = ok.wave;
      share = ok.share;
      last = ok.last;
      ramp = ok.ramp;
      jam = ok.jam;
      capacity = λ i l. omega (arith, open_at lr i l, open_le (at r.capacity i) (at built i) (at usable i) (within i l), ok.capacity i l);
    };
  }

  -- with all lanes open it is the road itself
  pub open_road_all : RoadOk r → ((i : ℕ) → i < r.n → (0 < at built i) × (at usable i ≡ at built i)) → open_road r built usable ≡ r
  open_road_all ok all =
      ap (with_capacity r)
      (fill_same (λ i. open_capacity (at r.capacity i) (at built i) (at usable i)) (at r.capacity) r.n r.capacity
      (λ i l. rw (all i l).1 (open_all (at r.capacity i) (at built i) (all i l).0 (omega (arith, ok.capacity i l))))
      ∙ fill_own r.capacity r.n)

-- a road that is nowhere worse is nowhere worse under the same lanes
pub open_road_wider : (a b : Road) (built usable : List ℕ) → a.n ≤ length a.capacity → b.n ≤ length b.capacity → Wider a b
    → Wider (open_road a built usable) (open_road b built usable)
unfolding capacity_at
open_road_wider a b built usable la lb h = record {
  alike = record { n = h.alike.n; share = h.alike.share };
  gate = h.gate;
  speed = h.speed;
  wave = h.wave;
  jam = h.jam;
  capacity = λ i l.
      omega (
        arith,
        open_at a built usable la i l,
        open_at b built usable lb i (omega (arith, h.alike.n)),
        open_mono (at a.capacity i) (at b.capacity i) (at built i) (at usable i) (h.capacity i l),
      );
}

module _ (a : Study) where
  -- the lanes of step k
  abbrev pub step_road : ℕ → Road
  step_road k = open_road a.road (built_in a.lanes a.road.n) (open_in a.lanes a.road.n k)

  -- an empty table means one road for all steps
  pub same_road : length a.lanes ≡ 0 → (k : ℕ) → a.road ≡ road_at a k
  unfolding road_at
  same_road e k = rw (eq-eqb (length a.lanes) 0 e) refl

  pub other_road : (length a.lanes ≡ 0 → ⊥) → (k : ℕ) → step_road k ≡ road_at a k
  unfolding road_at
  other_road h k = rw (ne_eqb (length a.lanes) 0 h) refl

  -- the road of each step is within the limits
  pub step_roads : RoadOk a.road → a.road.n ≤ length a.road.capacity → TableOk a.lanes a.road.n a.steps
      → (k : ℕ) → StepRoad a.road (road_at a k)
  unfolding road_at
  step_roads ok lr t k = go (eqb (length a.lanes) 0) refl
    where
      go : (b : Bool) → eqb (length a.lanes) 0 ≡ b → StepRoad a.road (cond b a.road (step_road k))
      go true e = step_road_self a.road ok
      go false e =
          let some = eqb-false (length a.lanes) 0 e in
          open_road_ok a.road (built_in a.lanes a.road.n) (open_in a.lanes a.road.n k) ok lr
          (table_within a.lanes a.road.n a.steps (t.right some) (t.cells some) k)

  -- the invariant of a loop over the steps for its road q: the study's road with other capacities, and with an empty table the study's road
  pub record OnRoad (q : Road) : Type 0 where
    pub other : with_capacity q a.road.capacity ≡ a.road
    pub same : length a.lanes ≡ 0 → q ≡ a.road

-- how a turn of the loop changes q: to the road with the capacities of step k, or not at all with an empty table
pub record RoadTurn (a : Study) (q : Road) (k : ℕ) (v : Road) : Type 0 where
  pub before : OnRoad a q
  pub came : ((length a.lanes ≡ 0 → ⊥) × (v ≡ with_capacity q (step_road a k).capacity)) ⊎ ((length a.lanes ≡ 0) × (v ≡ q))

module _ {a : Study} where
  pub on_road_lem : OnRoad a a.road
  on_road_lem = record { other = refl; same = λ e. refl }

  module _ {q : Road} {k : ℕ} {v : Road} (h : RoadTurn a q k v) where
    -- the result is the road of step k
    pub turn_road : v ≡ road_at a k
    turn_road = ⊎_elim
        (λ (o : (length a.lanes ≡ 0 → ⊥) × (v ≡ with_capacity q (step_road a k).capacity)).
        o.1 ∙ ap (λ (r : Road). with_capacity r (step_road a k).capacity) h.before.other ∙ other_road a o.0 k)
        (λ (o : (length a.lanes ≡ 0) × (v ≡ q)). o.1 ∙ h.before.same o.0 ∙ same_road a o.0 k)
        h.came

    -- and it keeps the loop's invariant
    pub turn_on_road : OnRoad a v
    turn_on_road = ⊎_elim
        (λ (o : (length a.lanes ≡ 0 → ⊥) × (v ≡ with_capacity q (step_road a k).capacity)). record {
          other = ap (λ (r : Road). with_capacity r a.road.capacity) o.1 ∙ h.before.other;
          same = λ e. absurd (o.0 e);
        })
        (λ (o : (length a.lanes ≡ 0) × (v ≡ q)). record {
          other = ap (λ (r : Road). with_capacity r a.road.capacity) o.1 ∙ h.before.other;
          same = λ e. o.1 ∙ h.before.same e;
        })
        h.came
