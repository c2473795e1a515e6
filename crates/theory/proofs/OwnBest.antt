-- A table whose first rows are the engine's, and the states returned: no schedule is ahead of them. Assumes nothing.
use Rattle.std.specs.Prelude.{◌≡◌, List}
use Rattle.std.proofs.Common.{le_refl, arith}
use Prim.Native.Nat.{ℕ, ◌≤◌, ◌<◌}
use Rattle.model.specs.Schedules.{Study, engine_after, outflows_at, ObeysUpTo, proposed_at, scheduled_at}
use Rattle.theory.specs.RunsLaws.{StudyOk}
use Rattle.model.specs.Running.{run_fault, run_end}
use Rattle.model.specs.Judging.{judge_fault, judge_end}
use Rattle.theory.proofs.SchedulesLaws.{end_state, faults_obeys}
use Rattle.model.specs.Demand.{Ahead}
use Rattle.theory.proofs.DemandLaws.{K, J, engine_best, own_state_lem, run_done, judge_done}

module _ (a : Study) (ok : StudyOk a) where
  -- a table whose first K rows are the engine's
  module _ (out : List ℕ) (same : (j : ℕ) → j < K a ok → proposed_at a out j ≡ outflows_at a j) where
    pub own_best : (zs : List ℕ) (k : ℕ) → k ≤ K a ok → ObeysUpTo a (proposed_at a zs) k → Ahead a.road (scheduled_at a out k) (scheduled_at a zs k)
    own_best zs k l h = rw (own_state_lem a ok out same k l) (engine_best a ok zs k l h)

  pub returned_ahead : (zs : List ℕ) → (run_end a).state.done ≡ (judge_end a zs).state.done → Ahead a.road (run_end a).state (judge_end a zs).state
  returned_ahead zs e =
      let k : K a ok ≡ J a ok zs = omega (arith, run_done a ok, e, judge_done a ok zs) in
      rw (end_state a (run_fault a) (engine_after a), end_state a (judge_fault a zs) (scheduled_at a zs), ← k)
      (engine_best a ok zs (K a ok) (le_refl (K a ok)) (λ j l. faults_obeys a ok zs j (omega (arith, k))))
