-- `step` and `run` agree. A record that is read and stepped row by row with its lanes has the run's states. It ends as the run does: after all T
-- rows, or with the same 9 or 10 at the same step and cell. Assumes nothing.
use Rattle.std.specs.Prelude.{◌≡◌, Bool, true, false, List, eqb, length}
use Rattle.std.proofs.Math.Path.{refl, ap}
use Rattle.std.proofs.Common.{sym, ◌∙◌, arith, eqb-true, ne_eqb}
use Prim.Native.Nat.{ℕ, zero, suc, ◌≤◌, ◌<◌}
use Rattle.std.proofs.lemmas.Bool.{eqb-false}
use Rattle.model.specs.Numbers.{at, first_of}
use Rattle.numbers.specs.Tests.{unless_elim}
use Rattle.numbers.specs.FirstLaws.{first_none, all_at}
use Rattle.model.specs.Lanes.{lanes_at, built_in, open_in, table_at}
use Rattle.lanes.specs.LanesLaws.{lanes_all}
use Rattle.model.specs.declared.Road.{Road}
use Rattle.model.specs.declared.State.{State}
use Rattle.model.specs.Road.{most_steps}
use Rattle.model.specs.Refusals.{FaultAnswer, fault}
use Rattle.model.specs.Schedules.{Study, open_road, road_at, table_size, engine_after, outflows_at, scheduled_at}
use Rattle.limits.specs.LimitsLaws.{input_ok_lem}
use Rattle.model.specs.Stepping.{Answer, answer, step_on, stepping_of}
use Rattle.theory.specs.StepLaws.{TableOk, releases_fit, on_next, stepping_on}
use Rattle.theory.specs.OpenRoad.{open_road_all, same_road, other_road}
use Rattle.theory.specs.LanesUnread.{fault_unread as unread, road_unread}
use Rattle.model.specs.Move.{next_of}
use Rattle.theory.specs.RunsLaws.{StudyOk, ReachedState}
use Rattle.model.specs.Reading.{reading_of, study_of}
use Rattle.model.specs.Running.{run_fault, first_step, run_end, running_of, steps_made, table_of, list_after}
use Rattle.theory.proofs.SchedulesLaws.{step_within, step_before, end_made, end_same, run_reached}
use Rattle.theory.proofs.TableLaws.{table_row}
use Rattle.theory.proofs.RunEnds.{runs_long, writes_long}
use Rattle.model.specs.Demand.{Openable}
use Rattle.theory.proofs.DemandLaws.{own_state_lem}
use Rattle.theory.specs.Readable.{Readable, readable}
use Rattle.theory.specs.StepAndRun.{LanesOf, stepped_after, stepped_in, stepped_end, StepsAsRun}

-- one step, from a state that the run reaches, on the step's road
module _ (a : Study) (ok : StudyOk a) (t : TableOk a.lanes a.road.n a.steps) {built usable : List ℕ} {k : ℕ} (l : k < a.steps)
    (given : LanesOf a built usable k) where
  step_on_lem : (u : State) → ReachedState a u k → stepping_of a.road u (a.rows k) built usable ≡ step_on (road_at a k) u (a.rows k)
  step_on_lem u h = go (eqb (length a.lanes) 0) refl
    where
      on : (first_of (lanes_at built usable) a.road.n ≡ a.road.n) → open_road a.road built usable ≡ road_at a k
          → stepping_of a.road u (a.rows k) built usable ≡ step_on (road_at a k) u (a.rows k)
      on none road =
          let input = input_ok_lem a.road u (a.rows k) (record { road = ok.road; state = h.state; row = ok.row k l }) in
          stepping_on a.road u (a.rows k) built usable input none ∙ ap (λ (q : Road). step_on q u (a.rows k)) road

      go : (b : Bool) → eqb (length a.lanes) 0 ≡ b → stepping_of a.road u (a.rows k) built usable ≡ step_on (road_at a k) u (a.rows k)
      go true e =
          let z = eqb-true (length a.lanes) 0 e in
          let all = given.all_open z in
          on (first_none (lanes_at built usable) a.road.n (λ i m. rw (all i m).1 (lanes_all (at built i) (all i m).0)))
          (open_road_all a.road built usable ok.road all ∙ same_road a z k)
      go false e =
          let some = eqb-false (length a.lanes) 0 e in
          let same = road_unread a.road (given.table_built some) (given.table_open some) in
          on (unread a.road (given.table_built some) (given.table_open some) ∙ passes some) (same ∙ other_road a some k)
        where
          passes : (length a.lanes ≡ 0 → ⊥) → first_of (lanes_at (built_in a.lanes a.road.n) (open_in a.lanes a.road.n k)) a.road.n ≡ a.road.n
          passes some =
              first_none (lanes_at (built_in a.lanes a.road.n) (open_in a.lanes a.road.n k)) a.road.n
              (λ i m. all_at (λ j. lanes_at (built_in a.lanes a.road.n) (open_in a.lanes a.road.n j) i) a.steps
              (all_at (table_at a.lanes a.road.n a.steps) a.road.n (t.cells some) i m) k l)

-- step by step
module _ {bytes : List ℕ} {a : Study} (h : Readable bytes a) {built : List ℕ} {usable : ℕ → List ℕ}
    (given : (k : ℕ) → k < a.steps → LanesOf a built (usable k) k) where
  abbrev K : ℕ
  K = first_step (run_fault a) a.steps

  abbrev faults : ℕ → FaultAnswer
  faults k = fault (stepped_in a built usable k).number (stepped_in a built usable k).place

  reached : (k : ℕ) → k ≤ K → ReachedState a (engine_after a k) k
  reached k l = run_reached a h.ok k (omega (arith, step_within (run_fault a) a.steps)) (λ j m. step_before (run_fault a) a.steps j (omega arith))

  left : (k : ℕ) → k ≤ K → k < a.steps → (engine_after a k).done ≡ most_steps → ⊥
  left k l m e = omega (arith, (reached k l).done, h.ok.steps)

  -- from a state of the run, stepping makes the run's next step
  module _ (k : ℕ) (l : k ≤ K) (m : k < a.steps) (e : stepped_after a built usable k ≡ engine_after a k) where
    same_step : stepped_in a built usable k ≡ step_on (road_at a k) (engine_after a k) (a.rows k)
    same_step = rw e (step_on_lem a h.ok h.table m (given k m) (engine_after a k) (reached k l))

    accepted : (run_fault a k).number ≡ 0 → stepped_in a built usable k ≡ answer (fault 0 0) (next_of (road_at a k) (engine_after a k) (a.rows k) (outflows_at a k))
    accepted z =
        same_step
        ∙ on_next (road_at a k) (engine_after a k) (a.rows k) (left k l m) (releases_fit (road_at a k) (engine_after a k) (a.rows k) z)

    same_fault : run_fault a k ≡ faults k
    same_fault =
        rw (same_step, ne_eqb (engine_after a k).done most_steps (left k l m))
        (unless_elim (λ (x : Answer). run_fault a k ≡ fault x.number x.place) (eqb (run_fault a k).number 0) (λ _. refl) (λ _. refl))

  -- the states
  pub stepped_runs : (k : ℕ) → k ≤ K → stepped_after a built usable k ≡ engine_after a k
  unfolding stepped_after engine_after
  stepped_runs zero l = refl
  stepped_runs (suc k) l =
      let m : k < a.steps = omega (arith, step_within (run_fault a) a.steps) in
      ap (λ (x : Answer). x.state) (accepted k (omega arith) m (stepped_runs k (omega arith)) (step_before (run_fault a) a.steps k l))

  -- the end
  pub steps_end : stepped_end a built usable ≡ run_end a
  steps_end =
      sym (end_same a (run_fault a) faults (engine_after a) (stepped_after a built usable) (λ k l m. same_fault k l m (stepped_runs k l))
      (λ k l _. sym (stepped_runs k l)))

-- for a record and a table without a refusal, with a list for all T rows
module _ (bytes lanes list : List ℕ) (openable : Openable bytes lanes) (long : table_size (study_of bytes lanes) ≤ length list) (built : List ℕ)
    (usable : ℕ → List ℕ) (given : (k : ℕ) → k < (study_of bytes lanes).steps → LanesOf (study_of bytes lanes) built (usable k) k) where
  abbrev a : Study
  a = study_of bytes lanes

  abbrev last : ℕ
  last = first_step (run_fault a) a.steps

  reads : Readable bytes (study_of bytes lanes)
  reads = readable bytes lanes (reading_of bytes) refl openable.reads openable.opens

  made : steps_made a (running_of bytes lanes list) ≡ last
  made = ap (steps_made a) (runs_long bytes lanes openable list long) ∙ end_made a (run_fault a) (engine_after a)

  states : (k : ℕ) → k ≤ steps_made a (running_of bytes lanes list) → stepped_after a built usable k ≡ scheduled_at a (list_after bytes lanes list) k
  states k l =
      let m : k ≤ last = omega (arith, made) in
      stepped_runs reads given k m
      ∙ sym (own_state_lem a reads.ok (table_of a list last) (λ j n. table_row a reads.ok list last j n) k m)
      ∙ ap (λ (out : List ℕ). scheduled_at a out k) (sym (writes_long bytes lanes openable list long))

  pub steps_as_run : StepsAsRun bytes lanes list built usable
  steps_as_run = record { states = states; ends = steps_end reads given ∙ sym (runs_long bytes lanes openable list long) }
