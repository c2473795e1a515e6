-- The tables of a run's own rows hold the states of the engine's run. Assumes nothing.
use Rattle.std.specs.Prelude.{◌≡◌, List, ℕ, suc, ◌≤◌, ◌<◌}
use Rattle.std.proofs.Common.{ap, arith}
use Rattle.model.specs.Numbers.{front_of}
use Rattle.numbers.specs.TablesLaws.{front_same}
use Rattle.model.specs.declared.State.{State}
use Rattle.model.specs.Schedules.{Study, places, engine_after, outflows_at, proposed_at}
use Rattle.theory.specs.RunsLaws.{StudyOk}
use Rattle.model.specs.Running.{run_fault, first_step}
use Rattle.theory.proofs.DemandLaws.{own_state_lem}
use Rattle.model.specs.Judging.{places_of, held_row, queue_row, held_table, queue_table}

-- the rows after step k of the engine's run: the gate's queue and each cell's held count; and 0 and each ramp's queue
abbrev pub engine_held : Study → ℕ → List ℕ
engine_held a k = places_of (engine_after a (suc k)).gate_queue (engine_after a (suc k)).held a.road.n

abbrev pub engine_queue : Study → ℕ → List ℕ
engine_queue a k = places_of 0 (engine_after a (suc k)).queue a.road.n

-- a table whose rows are the engine's, as running writes them
module _ (a : Study) (ok : StudyOk a) (zs : List ℕ) (same : (j : ℕ) → j < first_step (run_fault a) a.steps → proposed_at a zs j ≡ outflows_at a j)
    (list : List ℕ) (k : ℕ) (l : k ≤ first_step (run_fault a) a.steps) where
  pub own_held : held_table a zs list k ≡ front_of (engine_held a) (places a) list k
  own_held =
      front_same (held_row a zs) (engine_held a) (places a) list k
      (λ i m. ap (λ (s : State). places_of s.gate_queue s.held a.road.n) (own_state_lem a ok zs same (suc i) (omega arith)))

  pub own_queue : queue_table a zs list k ≡ front_of (engine_queue a) (places a) list k
  own_queue =
      front_same (queue_row a zs) (engine_queue a) (places a) list k
      (λ i m. ap (λ (s : State). places_of 0 s.queue a.road.n) (own_state_lem a ok zs same (suc i) (omega arith)))
