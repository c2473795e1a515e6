-- Whole runs: the limits hold, nothing is lost, and no schedule is ahead of the engine after any step that both reach. Assumes nothing.
use Prim.Native.Nat.{ℕ, zero, suc, ◌+◌, ◌<◌, ◌≤◌}
use Rattle.std.specs.Prelude.{◌≡◌, List}
use Rattle.std.proofs.Math.Path.{refl, subst⁻¹}
use Rattle.std.proofs.Common.{◌∙◌, subst, le_refl}
use native.Mathlib.Omega.{arith}
use Rattle.model.specs.Schedules.{Study, road_at, ReleasesFit, engine_after, Obeys, Greatest, outflows_of, schedule_after, outflows_at, ObeysUpTo}
use Rattle.theory.proofs.Conservation.{conserved, exits_alike, arrivals_alike}
use Rattle.model.specs.declared.Road.{Road}
use Rattle.model.specs.declared.State.{State}
use Rattle.model.specs.Road.{most_steps}
use Rattle.limits.specs.LimitsLaws.{RoadOk, InputOk}
use Rattle.model.specs.Move.{next_of, present_of, exits_of}
use Rattle.theory.specs.RulesLaws.{Sized, outflows_obey, outflows_greatest}
use Rattle.theory.specs.MoveLaws.{next_done, next_sized}
use Rattle.theory.proofs.StepKept.{limits_kept}
use Rattle.theory.specs.Roads.{Alike, StepRoad, step_alike, step_state, state_back, step_row, alike_back, wider_self, present_alike, sized_alike}
use Rattle.theory.specs.Behind.{Behind}
use Rattle.theory.proofs.Behind.{behind_self}
use Rattle.theory.proofs.StepBehind.{step_behind}
use Rattle.model.specs.Weights.{weighted_total, Falling}
use Rattle.theory.proofs.LessPresent.{weighted_total_le}
use Rattle.theory.specs.RunsLaws.{ReleasesFitUpTo, arrivals_to, StudyOk, ReachedState, StepOf, SharedSteps, Rivals}

module _ {a : Study} {q : Road} {u : State} {row : List ℕ} {k : ℕ} (t : StepOf a q u row k) where
  -- q is the study's road with other capacities, and everything is within the limits
  pub step_road_lem : StepRoad a.road q
  step_road_lem = rw t.road (t.ok.roads k)

  pub step_input : InputOk q u row
  step_input = record {
    road = step_road_lem.ok;
    state = step_state step_road_lem u t.reached.state;
    row = rw t.numbers (step_row step_road_lem (a.rows k) (t.ok.row k t.left));
  }

  pub step_sized : Sized q u
  step_sized = sized_alike a.road q (step_alike step_road_lem) u t.reached.sized

  pub step_left : u.done < most_steps
  step_left = omega (arith, t.reached.done, t.left, t.ok.steps)

-- the arrays keep their length
pub schedule_sized : (a : Study) (ys : ℕ → List ℕ) → StudyOk a → (k : ℕ) → Sized a.road (schedule_after a ys k)
unfolding schedule_after
schedule_sized a ys ok zero = ok.sized
schedule_sized a ys ok (suc k) =
    let e = step_alike (ok.roads k) in
    sized_alike (road_at a k) a.road (alike_back a.road (road_at a k) e) (next_of (road_at a k) (schedule_after a ys k) (a.rows k) (ys k))
    (next_sized (road_at a k) (schedule_after a ys k) (a.rows k) (ys k)
    (sized_alike a.road (road_at a k) e (schedule_after a ys k) (schedule_sized a ys ok k)))

-- for the rows of any study within the limits
module _ (a : Study) (ys : ℕ → List ℕ) (ok : StudyOk a) where
  sized_at : (k : ℕ) → Sized (road_at a k) (schedule_after a ys k)
  sized_at k = sized_alike a.road (road_at a k) (step_alike (ok.roads k)) (schedule_after a ys k) (schedule_sized a ys ok k)

  pub reached : (k : ℕ) → k ≤ a.steps → ObeysUpTo a ys k → ReachedState a (schedule_after a ys k) k
  unfolding schedule_after
  reached zero l h = record { state = ok.start; sized = ok.sized; done = omega arith }
  reached (suc k) l h =
      let p = reached k (omega arith) (λ j m. h j (omega arith)) in
      let u = schedule_after a ys k in
      let q = ok.roads k in
      record {
        state = state_back q (next_of (road_at a k) u (a.rows k) (ys k))
            (limits_kept (road_at a k) u (a.rows k) (ys k)
            (record { road = q.ok; state = step_state q u p.state; row = step_row q (a.rows k) (ok.row k l) })
            (sized_at k) (h k (le_refl (suc k))) (omega (arith, p.done, ok.steps)));
        sized = schedule_sized a ys ok (suc k);
        done = next_done (road_at a k) u (a.rows k) (ys k) ∙ omega (arith, p.done);
      }

  -- start plus arrivals equals present plus exits, after each step of a schedule that obeys the rules up to it
  pub run_conserved : (k : ℕ) → ObeysUpTo a ys k
      → present_of a.road a.start + exits_of a.road a.start + arrivals_to a k
      ≡ present_of a.road (schedule_after a ys k) + exits_of a.road (schedule_after a ys k)
  unfolding schedule_after arrivals_to
  run_conserved zero h = omega arith
  run_conserved (suc k) h =
      let u = schedule_after a ys k in
      let v = next_of (road_at a k) (schedule_after a ys k) (a.rows k) (ys k) in
      let e : Alike a.road (road_at a k) = step_alike (ok.roads k) in
      omega (
        arith,
        run_conserved k (λ j l. h j (omega arith)),
        conserved (road_at a k) u (a.rows k) (ys k) (ok.roads k).ok (sized_at k) (h k (le_refl (suc k))),
        present_alike a.road (road_at a k) e u,
        present_alike a.road (road_at a k) e v,
        exits_alike a.road (road_at a k) e u,
        exits_alike a.road (road_at a k) e v,
        arrivals_alike a.road (road_at a k) e (a.rows k),
      )

-- the engine's run is the schedule of its own rows, which obey the rules and are the greatest
module _ (a : Study) where
  pub engine_schedule : (k : ℕ) → engine_after a k ≡ schedule_after a (outflows_at a) k
  unfolding engine_after schedule_after
  engine_schedule zero = refl
  engine_schedule (suc k) = rw (engine_schedule k)

  pub engine_obeys : (k : ℕ) → ReleasesFitUpTo a k → ObeysUpTo a (outflows_at a) k
  engine_obeys k fits j l =
      subst (λ (u : State). Obeys (road_at a j) u (a.rows j) (outflows_at a j)) (engine_schedule j)
      (outflows_obey (road_at a j) (engine_after a j) (a.rows j) (fits j l))

  pub engine_greatest : (j : ℕ) → ReleasesFit (road_at a j) (engine_after a j) (a.rows j)
      → Greatest (road_at a j) (engine_after a j) (a.rows j) (outflows_at a j)
  engine_greatest j fits = outflows_greatest (road_at a j) (engine_after a j) (a.rows j) fits

  pub engine_reached : StudyOk a → (k : ℕ) → k ≤ a.steps → ReleasesFitUpTo a k → ReachedState a (engine_after a k) k
  engine_reached ok k l fits =
      subst⁻¹ (λ (u : State). ReachedState a u k) (engine_schedule k) (reached a (outflows_at a) ok k l (engine_obeys k fits))

pub shared_less : {a b : Study} {k : ℕ} → SharedSteps a b k → (j : ℕ) → j ≤ k → SharedSteps a b j
shared_less h j l = record { start = h.start; roads = λ i m. h.roads i (omega arith); rows = λ i m. h.rows i (omega arith) }

-- the engine's state after k steps depends only on these steps, and so do its outflows in a step
pub engine_shared : {a b : Study} (k : ℕ) → SharedSteps a b k → engine_after a k ≡ engine_after b k
unfolding engine_after
engine_shared zero h = h.start
engine_shared (suc k) h =
    rw (engine_shared k (shared_less h k (omega arith)), h.roads k (le_refl (suc k)), h.rows k (le_refl (suc k)))

pub outflows_shared : {a b : Study} (k : ℕ) → SharedSteps a b (suc k) → outflows_at a k ≡ outflows_at b k
outflows_shared k h =
    rw (engine_shared k (shared_less h k (omega arith)), h.roads k (le_refl (suc k)), h.rows k (le_refl (suc k)))

-- the same for fewer steps
pub rivals_less : {rival engine : Study} {k : ℕ} → Rivals rival engine k → (j : ℕ) → j ≤ k → Rivals rival engine j
rivals_less h j l = record { sized = h.sized; start = h.start; rows = λ i m. h.rows i (omega arith); roads = λ i m. h.roads i (omega arith) }

-- the same study for both
pub rivals_self : (a : Study) → StudyOk a → (k : ℕ) → Rivals a a k
rivals_self a ok k = record {
  sized = ok.sized;
  start = refl;
  rows = λ j l. refl;
  roads = λ j l. record {
    alike = step_alike (ok.roads j);
    wider = wider_self (road_at a j);
    rival = (ok.roads j).ok;
    engine = (ok.roads j).ok;
  };
}

-- no schedule is ahead of the engine after k steps that both reach
pub run_behind : (a b : Study) (ys : ℕ → List ℕ) (k : ℕ) → Rivals a b k → ReleasesFitUpTo b k → ObeysUpTo a ys k
    → Behind a.road (engine_after b k) (schedule_after a ys k)
unfolding engine_after schedule_after
run_behind a b ys zero h fits ok = rw h.start (behind_self a.road a.start h.sized)
run_behind a b ys (suc k) h fits ok =
    let l : k < suc k = le_refl (suc k) in
    let s = engine_after b k in
    let before = run_behind a b ys k (rivals_less h k (omega arith)) (λ j m. fits j (omega arith)) (λ j m. ok j (omega arith)) in
    let y = outflows_of (road_at b k) (engine_after b k) (a.rows k) in
    let f : ReleasesFit (road_at b k) (engine_after b k) (a.rows k) = rw (h.rows k l) at (fits k l) in
    rw (h.rows k l)
    (step_behind a.road (road_at a k) (road_at b k) s (schedule_after a ys k) (a.rows k) y (ys k)
    (h.roads k l) (outflows_obey (road_at b k) s (a.rows k) f) (outflows_greatest (road_at b k) s (a.rows k) f) (ok k l) before)

-- the same with weights: if no place weighs more than the one before it, the schedule's weighted total is not smaller
pub run_weighted_lem : (a b : Study) (ys : ℕ → List ℕ) (k : ℕ) → Rivals a b k → ReleasesFitUpTo b k → ObeysUpTo a ys k → RoadOk a.road
    → (w u : ℕ → ℕ) → Falling w a.road.n
    → weighted_total w u a.road.n (engine_after b) k ≤ weighted_total w u a.road.n (schedule_after a ys) k
run_weighted_lem a b ys k h fits ok road w u falling =
    weighted_total_le w u a.road (engine_after b) (schedule_after a ys) k road falling
    (λ j l. (run_behind a b ys (suc j) (rivals_less h (suc j) l) (λ i m. fits i (omega arith)) (λ i m. ok i (omega arith))).level)
