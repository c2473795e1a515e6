-- The comparison of the engine's run with any schedule of a study. Assumes nothing.
use Rattle.std.specs.Prelude.{◌≡◌, List}
use Rattle.std.proofs.Math.Path.{refl}
use Rattle.std.proofs.Common.{sym, ap, ◌∙◌, le_refl, arith}
use Prim.Native.Nat.{ℕ, ◌+◌, zero, suc, ◌≤◌, ◌<◌}
use Rattle.model.specs.declared.Road.{Road}
use Rattle.model.specs.declared.State.{State}
use Rattle.model.specs.Schedules.{Study, road_at, schedule_after, engine_after, outflows_at, ObeysUpTo, proposed_at, scheduled_at}
use Rattle.model.specs.Flow.{cumulative_at}
use Rattle.theory.specs.RunsLaws.{ReleasesFitUpTo, StudyOk}
use Rattle.theory.proofs.RunsLaws.{engine_greatest, rivals_self, run_behind}
use Rattle.theory.specs.RulesLaws.{outflows_obey}
use Rattle.theory.specs.Behind.{Behind}
use Rattle.model.specs.Running.{run_fault, first_step, end_with, run_end}
use Rattle.model.specs.Judging.{judge_fault, judge_end}
use Rattle.theory.proofs.SchedulesLaws.{step_within, step_before, end_all, end_state, run_fits, run_reached, judge_reached, obeys_faults}
use Rattle.model.specs.Demand.{Ahead, GreatestIn}

-- if t is behind s, then s is ahead of t as `Demand` states it
pub behind_ahead : (r : Road) (s t : State) → Behind r s t → Ahead r s t
unfolding cumulative_at
behind_ahead r s t b = record {
  gate = b.level.cumulatives 0 (omega arith);
  cell = λ i l. b.level.cumulatives (suc i) l;
  total = b.total;
  ramp_time = sym b.ramp_time;
  gate_road = omega (arith, b.total, b.ramp_time);
}

module _ (a : Study) (ok : StudyOk a) where
  -- the steps that running makes, and those that judging makes
  abbrev pub K : ℕ
  K = first_step (run_fault a) a.steps

  abbrev pub J : List ℕ → ℕ
  J zs = first_step (judge_fault a zs) a.steps

  fits : ReleasesFitUpTo a K
  fits = run_fits a K (step_before (run_fault a) a.steps)

  -- no schedule of the study is ahead of the engine
  pub engine_best : (zs : List ℕ) (k : ℕ) → k ≤ K → ObeysUpTo a (proposed_at a zs) k → Ahead a.road (engine_after a k) (scheduled_at a zs k)
  engine_best zs k l h =
      behind_ahead a.road (engine_after a k) (scheduled_at a zs k)
      (run_behind a a (proposed_at a zs) k (rivals_self a ok k) (λ j m. fits j (omega arith)) h)

  -- a table whose first K rows are the engine's
  module _ (out : List ℕ) (same : (j : ℕ) → j < K → proposed_at a out j ≡ outflows_at a j) where
    pub own_state_lem : (k : ℕ) → k ≤ K → scheduled_at a out k ≡ engine_after a k
    unfolding schedule_after engine_after
    own_state_lem zero l = refl
    own_state_lem (suc k) l = rw (own_state_lem k (omega arith), same k l)

    pub own_obeys : ObeysUpTo a (proposed_at a out) K
    own_obeys j l = rw (own_state_lem j (omega arith), same j l) (outflows_obey (road_at a j) (engine_after a j) (a.rows j) (fits j l))

    pub own_greatest : (j : ℕ) → j < K → GreatestIn a out j
    own_greatest j l = rw (own_state_lem j (omega arith), same j l) (engine_greatest a j (fits j l))

    -- judging accepts them if running was not refused
    pub own_judged_lem : K ≡ a.steps → judge_end a out ≡ run_end a
    own_judged_lem e =
        let n : J out ≡ a.steps =
        omega (arith, step_within (judge_fault a out) a.steps, obeys_faults a ok out a.steps (le_refl a.steps) (λ j l. own_obeys j (omega arith))) in
        end_all a (judge_fault a out) (scheduled_at a out) n
        ∙ ap (end_with 0 0 0 a.road) (own_state_lem a.steps (omega arith))
        ∙ sym (end_all a (run_fault a) (engine_after a) e)

  -- the states returned are those after the steps made
  pub run_done : (run_end a).state.done ≡ a.start.done + K
  run_done =
      ap (λ (u : State). u.done) (end_state a (run_fault a) (engine_after a))
      ∙ (run_reached a ok K (step_within (run_fault a) a.steps) (step_before (run_fault a) a.steps)).done

  pub judge_done : (zs : List ℕ) → (judge_end a zs).state.done ≡ a.start.done + J zs
  judge_done zs =
      ap (λ (u : State). u.done) (end_state a (judge_fault a zs) (scheduled_at a zs))
      ∙ (judge_reached a ok zs (J zs) (step_within (judge_fault a zs) a.steps) (step_before (judge_fault a zs) a.steps)).done
