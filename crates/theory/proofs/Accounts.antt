-- The sums over a schedule's states, for every record that reads and every table of lanes: the three times, the total, F and conservation. Assumes nothing.
use Rattle.std.specs.Prelude.{◌≡◌, refl, List}
use Rattle.std.proofs.Math.Path.{sym}
use Rattle.std.proofs.Common.{◌∙◌}
use Prim.Native.Nat.{ℕ, zero, suc, ◌≤◌}
use native.Mathlib.Omega.{arith}
use Rattle.model.specs.Numbers.{at, sum_of, list_of}
use Rattle.numbers.specs.RowsLaws.{sum_list_none, sum_list_more}
use Rattle.model.specs.declared.State.{State}
use Rattle.model.specs.Road.{total_of}
use Rattle.numbers.specs.Zeros.{zeros_at}
use Rattle.model.specs.Schedules.{Study, road_at, schedule_after, proposed_at, scheduled_at}
use Rattle.model.specs.Flow.{cumulative_at}
use Rattle.model.specs.Move.{held_sum, queue_sum, present_of, exit_at, exits_of}
use Rattle.theory.specs.MoveLaws.{next_gate_time, next_road_time, next_ramp_time, next_total, next_cumulative}
use Rattle.theory.specs.Roads.{step_alike, held_alike, queue_alike, present_alike, sized_alike}
use Rattle.theory.specs.RunsLaws.{StudyOk}
use Rattle.theory.proofs.RunsLaws.{schedule_sized, run_conserved}
use Rattle.model.specs.Reading.{reading_of, study_of}
use Rattle.reading.specs.Numbers.{Numbers, read_numbers}
use Rattle.theory.specs.Readable.{readable}
use Rattle.model.specs.Demand.{Openable, Reaches}
use Rattle.theory.specs.Accounts.{Accounts}

module _ (bytes lanes zs : List ℕ) (openable : Openable bytes lanes) where
  abbrev a : Study
  a = study_of bytes lanes

  abbrev u : ℕ → State
  u k = scheduled_at a zs k

  ok : StudyOk (study_of bytes lanes)
  ok = (readable bytes lanes (reading_of bytes) refl openable.reads openable.opens).ok

  start : Numbers bytes a.steps a.road a.start
  start = read_numbers bytes (reading_of bytes) refl openable.reads

  start_total : total_of a.start ≡ 0
  start_total = omega (arith, start.gate_time, start.road_time, start.ramp_time)

  start_cumulative : (p : ℕ) → cumulative_at a.start p ≡ 0
  unfolding cumulative_at
  start_cumulative zero = start.gate_cumulative
  start_cumulative (suc i) = rw start.cumulative (zeros_at i)

  -- before step 0 nothing has left
  no_exits : (k : ℕ) → sum_of (list_of (exit_at a.road a.start) k) ≡ 0
  unfolding cumulative_at
  no_exits zero = sum_list_none (exit_at a.road a.start)
  no_exits (suc k) = omega (arith, sum_list_more (exit_at a.road a.start) k, no_exits k, start_cumulative (suc k))

  start_exits : exits_of a.road a.start ≡ 0
  unfolding exits_of
  start_exits = no_exits a.road.n

  gate_time_sum : (k : ℕ) → (u k).gate_time ≡ sum_of (list_of (λ j. (u (suc j)).gate_queue) k)
  unfolding schedule_after
  gate_time_sum zero = start.gate_time ∙ sym (sum_list_none (λ j. (u (suc j)).gate_queue))
  gate_time_sum (suc k) =
      omega (
        arith,
        next_gate_time (road_at a k) (u k) (a.rows k) (proposed_at a zs k),
        gate_time_sum k,
        sum_list_more (λ j. (u (suc j)).gate_queue) k,
      )

  road_time_sum : (k : ℕ) → (u k).road_time ≡ sum_of (list_of (λ j. held_sum a.road (u (suc j))) k)
  unfolding schedule_after
  road_time_sum zero = start.road_time ∙ sym (sum_list_none (λ j. held_sum a.road (u (suc j))))
  road_time_sum (suc k) =
      omega (
        arith,
        next_road_time (road_at a k) (u k) (a.rows k) (proposed_at a zs k),
        held_alike a.road (road_at a k) (step_alike (ok.roads k)) (u (suc k)),
        road_time_sum k,
        sum_list_more (λ j. held_sum a.road (u (suc j))) k,
      )

  ramp_time_sum : (k : ℕ) → (u k).ramp_time ≡ sum_of (list_of (λ j. queue_sum a.road (u (suc j))) k)
  unfolding schedule_after
  ramp_time_sum zero = start.ramp_time ∙ sym (sum_list_none (λ j. queue_sum a.road (u (suc j))))
  ramp_time_sum (suc k) =
      omega (
        arith,
        next_ramp_time (road_at a k) (u k) (a.rows k) (proposed_at a zs k),
        queue_alike a.road (road_at a k) (step_alike (ok.roads k)) (u (suc k)),
        ramp_time_sum k,
        sum_list_more (λ j. queue_sum a.road (u (suc j))) k,
      )

  total_sum : (k : ℕ) → total_of (u k) ≡ sum_of (list_of (λ j. present_of a.road (u (suc j))) k)
  unfolding schedule_after
  total_sum zero = start_total ∙ sym (sum_list_none (λ j. present_of a.road (u (suc j))))
  total_sum (suc k) =
      omega (
        arith,
        next_total (road_at a k) (u k) (a.rows k) (proposed_at a zs k),
        present_alike a.road (road_at a k) (step_alike (ok.roads k)) (u (suc k)),
        total_sum k,
        sum_list_more (λ j. present_of a.road (u (suc j))) k,
      )

  cumulative_sum : (k p : ℕ) → p ≤ a.road.n → cumulative_at (u k) p ≡ sum_of (list_of (λ j. at (proposed_at a zs j) p) k)
  unfolding schedule_after
  cumulative_sum zero p l = start_cumulative p ∙ sym (sum_list_none (λ j. at (proposed_at a zs j) p))
  cumulative_sum (suc k) p l =
      let e = ok.roads k in
      omega (
        arith,
        next_cumulative (road_at a k) (u k) (a.rows k) (proposed_at a zs k)
            (sized_alike a.road (road_at a k) (step_alike e) (u k) (schedule_sized a (proposed_at a zs) ok k)) p (omega (arith, e.n)),
        cumulative_sum k p l,
        sum_list_more (λ j. at (proposed_at a zs j) p) k,
      )

  -- for every step that a schedule reaches: the rows that running writes are such a schedule, and so are the rows that judging accepts
  pub accounts : (k : ℕ) → Reaches (study_of bytes lanes) zs k → Accounts (study_of bytes lanes) zs k
  accounts k h = record {
    gate_time = gate_time_sum k;
    road_time = road_time_sum k;
    ramp_time = ramp_time_sum k;
    total = total_sum k;
    cumulative = cumulative_sum k;
    conserved = omega (arith, start_exits, run_conserved a (proposed_at a zs) ok k h.obeys);
  }
