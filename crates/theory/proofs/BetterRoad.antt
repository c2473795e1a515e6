-- Theorem: a larger speed, wave, jam count or capacity of a cell, or a larger gate capacity, makes no cumulative outflow smaller and no total
-- larger. Start, rows and closures are the same, and both runs accept the releases. Assumes nothing.
use Rattle.std.specs.Prelude.{Bool, ℕ, ◌≤◌, eqb, length}
use Rattle.std.proofs.Math.Path.{ap, subst⁻¹}
use Rattle.std.proofs.Common.{◌∙◌, arith}
use Rattle.std.proofs.Math.Bool.{true, false, cond}
use mathlib.Core.List.{List}
use Rattle.model.specs.Lanes.{built_in, open_in}
use Rattle.model.specs.declared.Road.{Road}
use Rattle.model.specs.Schedules.{Study, open_road, road_at, engine_after, outflows_at}
use Rattle.theory.specs.Roads.{Wider, step_alike}
use Rattle.theory.specs.OpenRoad.{open_road_wider}
use Rattle.theory.specs.RunsLaws.{ReleasesFitUpTo, StudyOk, Rivals}
use Rattle.theory.proofs.RunsLaws.{engine_schedule, engine_obeys, run_behind}
use Rattle.theory.specs.Behind.{Behind}
use Rattle.theory.specs.BetterRoad.{BetterRoad}

-- both studies are within the limits and have a capacity for each cell
module _ {a b : Study} (h : BetterRoad a b) (ok_a : StudyOk a) (ok_b : StudyOk b) (la : a.road.n ≤ length a.road.capacity)
    (lb : b.road.n ≤ length b.road.capacity) where
  abbrev road_of : Road → ℕ → Bool → ℕ → Road
  road_of r n empty k = cond empty r (open_road r (built_in a.lanes n) (open_in a.lanes n k))

  -- with the same closures the better road is still nowhere worse
  roads_wider : (k : ℕ) → Wider (road_at a k) (road_at b k)
  unfolding road_at
  roads_wider k =
      subst⁻¹ (Wider (road_at a k))
      (ap (λ (l : List ℕ). cond (eqb (length l) 0) b.road (open_road b.road (built_in l b.road.n) (open_in l b.road.n k))) h.lanes
      ∙ ap (λ (n : ℕ). road_of b.road n (eqb (length a.lanes) 0) k) h.road.alike.n)
      (go (eqb (length a.lanes) 0))
    where
      go : (t : Bool) → Wider (road_of a.road a.road.n t k) (road_of b.road a.road.n t k)
      go true = h.road
      go false = open_road_wider a.road b.road (built_in a.lanes a.road.n) (open_in a.lanes a.road.n k) la lb h.road

  pub better_rivals : (k : ℕ) → k ≤ a.steps → Rivals a b k
  better_rivals k l = record {
    sized = ok_a.sized;
    start = h.start;
    rows = λ j m. h.rows j (omega arith);
    roads = λ j m. record {
      alike = step_alike (ok_a.roads j);
      wider = roads_wider j;
      rival = (ok_a.roads j).ok;
      engine = (ok_b.roads j).ok;
    };
  }

  -- after k steps that both make, no F on the better road is smaller and its total is not larger
  pub better_behind : (k : ℕ) → k ≤ a.steps → ReleasesFitUpTo a k → ReleasesFitUpTo b k → Behind a.road (engine_after b k) (engine_after a k)
  better_behind k l fits_a fits_b =
      subst⁻¹ (Behind a.road (engine_after b k)) (engine_schedule a k)
      (run_behind a b (outflows_at a) k (better_rivals k l) fits_b (engine_obeys a k fits_a))
