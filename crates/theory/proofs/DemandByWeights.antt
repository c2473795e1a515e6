-- Theorem: if the weights fall from the gate on, the weighted total of a run is at most that of each schedule. Assumes nothing.
use Rattle.std.specs.Prelude.{◌≡◌, List, ℕ, suc, ◌≤◌, ◌<◌}
use Rattle.std.proofs.Math.Path.{refl, sym, ap}
use Rattle.std.proofs.Common.{◌∙◌, le_refl, ne_eqb}
use Rattle.std.proofs.Math.Logic.{⊎_elim}
use native.Mathlib.Omega.{arith}
use Rattle.std.proofs.Math.ListN.{length}
use Rattle.numbers.specs.Tests.{order}
use Rattle.model.specs.Schedules.{Study, table_size, schedule_after, engine_after, proposed_at, scheduled_at}
use Rattle.theory.specs.RunsLaws.{ReleasesFitUpTo, StudyOk}
use Rattle.theory.proofs.RunsLaws.{rivals_self, run_weighted_lem}
use Rattle.model.specs.Weights.{weighted_total, Falling, weighted_total_of_run, weighted_total_of_schedule}
use Rattle.theory.specs.WeightsLaws.{weighted_total_same, weighted_total_none}
use Rattle.model.specs.Reading.{reading_of, study_of}
use Rattle.reading.specs.Numbers.{read_numbers}
use Rattle.model.specs.Running.{run_fault, first_step, steps_made, opening_of, running_of, table_of, list_after}
use Rattle.model.specs.Judging.{judge_fault, judging_of}
use Rattle.theory.proofs.SchedulesLaws.{step_before, end_made, run_fits}
use Rattle.theory.proofs.TableLaws.{table_row}
use Rattle.theory.proofs.RunEnds.{runs_unopened, runs_short, runs_long, writes_long, judges_length, judges_ends}
use Rattle.theory.specs.Readable.{readable}
use Rattle.model.specs.Demand.{Reaches, Openable, WeightedDemand}
use Rattle.theory.proofs.DemandLaws.{own_state_lem, run_done, judge_done}
use Rattle.theory.proofs.DemandWhole.{sized, demand_and_grounds}

module _ (bytes lanes : List ℕ) (openable : Openable bytes lanes) (list : List ℕ) where
  abbrev a : Study
  a = study_of bytes lanes

  ok : StudyOk (study_of bytes lanes)
  ok = (readable bytes lanes (reading_of bytes) refl openable.reads openable.opens).ok

  -- no step is done at a record's start
  zero : (study_of bytes lanes).start.done ≡ 0
  zero = (read_numbers bytes (reading_of bytes) refl openable.reads).done

  abbrev K : ℕ
  K = first_step (run_fault a) a.steps

  -- the steps made are at most those before the first fault
  made : steps_made (study_of bytes lanes) (running_of bytes lanes list) ≤ K
  made = ⊎_elim
      (λ (l : table_size a ≤ length list). rw (runs_long bytes lanes openable list l) (omega (arith, end_made a (run_fault a) (engine_after a))))
      (λ (l : length list < table_size a). rw (runs_short bytes lanes openable list l) (omega arith))
      (order (table_size a) (length list))

  fits : ReleasesFitUpTo a K
  fits = run_fits a K (step_before (run_fault a) a.steps)

  -- the states of the rows written are the engine's
  states : (j : ℕ) → j ≤ steps_made (study_of bytes lanes) (running_of bytes lanes list)
      → scheduled_at (study_of bytes lanes) (list_after bytes lanes list) j ≡ engine_after (study_of bytes lanes) j
  unfolding schedule_after engine_after
  states j m = ⊎_elim
      (λ (l : table_size a ≤ length list).
      rw (writes_long bytes lanes openable list l) (own_state_lem a ok (table_of a list K) (λ i n. table_row a ok list K i n) j (omega (arith, made))))
      (λ (l : length list < table_size a).
      let none : steps_made a (running_of bytes lanes list) ≡ 0 = rw (runs_short bytes lanes openable list l) refl in
      let z : j ≡ 0 = omega arith in
      rw z refl)
      (order (table_size a) (length list))

  -- running and judging make as many steps as the state returned has done, and a schedule reaches the steps judged
  run_made : steps_made (study_of bytes lanes) (running_of bytes lanes list) ≡ (running_of bytes lanes list).state.done
  run_made = ⊎_elim
      (λ (l : table_size a ≤ length list). rw (runs_long bytes lanes openable list l) (omega (arith, end_made a (run_fault a) (engine_after a), run_done a ok, zero)))
      (λ (l : length list < table_size a). rw (runs_short bytes lanes openable list l) refl)
      (order (table_size a) (length list))

  judge_made : (zs : List ℕ) → steps_made (study_of bytes lanes) (judging_of bytes lanes zs) ≡ (judging_of bytes lanes zs).state.done
  judge_made zs = ⊎_elim
      (λ (l : length zs ≡ table_size a). rw (judges_ends bytes lanes openable zs l) (omega (arith, end_made a (judge_fault a zs) (scheduled_at a zs), judge_done a ok zs, zero)))
      (λ (n : length zs ≡ table_size a → ⊥). rw (judges_length bytes lanes openable zs n) refl)
      (sized bytes lanes openable zs)

  judge_reaches : (zs : List ℕ) → Reaches (study_of bytes lanes) zs (steps_made (study_of bytes lanes) (judging_of bytes lanes zs))
  judge_reaches zs = ⊎_elim
      ((demand_and_grounds bytes lanes openable list).grounds.reached zs)
      (λ (n : length zs ≡ table_size a → ⊥).
      rw (judges_length bytes lanes openable zs n) (record { within = omega arith; obeys = λ j m. absurd (omega arith) }))
      (sized bytes lanes openable zs)

  module _ (w u : ℕ → ℕ) where
    own : (k : ℕ) → k ≤ steps_made (study_of bytes lanes) (running_of bytes lanes list)
        → weighted_total_of_schedule w u (study_of bytes lanes) (list_after bytes lanes list) k
        ≡ weighted_total w u (study_of bytes lanes).road.n (engine_after (study_of bytes lanes)) k
    own k l = weighted_total_same w u a.road.n (scheduled_at a (list_after bytes lanes list)) (engine_after a) k (λ j m. states (suc j) (omega arith))

    best : Falling w (study_of bytes lanes).road.n → (zs : List ℕ) (k : ℕ) → k ≤ steps_made (study_of bytes lanes) (running_of bytes lanes list)
        → Reaches (study_of bytes lanes) zs k
        → weighted_total_of_schedule w u (study_of bytes lanes) (list_after bytes lanes list) k ≤ weighted_total_of_schedule w u (study_of bytes lanes) zs k
    best falling zs k l reach =
        rw (own k l)
        (run_weighted_lem a a (proposed_at a zs) k (rivals_self a ok k) (λ j m. fits j (omega (arith, made))) reach.obeys ok.road w u falling)

    pub weighted_demand : WeightedDemand bytes lanes w u (list_after bytes lanes list) (running_of bytes lanes list) (weighted_total_of_run w u bytes lanes list)
    unfolding weighted_total_of_run
    weighted_demand =
        let m = steps_made a (running_of bytes lanes list) in
        record {
          own = sym (own m (le_refl m));
          best = best;
          returned = λ falling zs e.
              let k : m ≡ steps_made a (judging_of bytes lanes zs) = run_made ∙ e ∙ sym (judge_made zs) in
              rw (← k, ← own m (le_refl m)) (best falling zs m (le_refl m) (rw (← k) at (judge_reaches zs)));
        }

-- the weighted total at the end: 0 if the run did not begin, else that of the steps before the first fault
module _ (w u : ℕ → ℕ) (bytes lanes list : List ℕ) where
  weighted_unmade : steps_made (study_of bytes lanes) (running_of bytes lanes list) ≡ 0 → weighted_total_of_run w u bytes lanes list ≡ 0
  unfolding weighted_total_of_run
  weighted_unmade e =
      ap (weighted_total w u (study_of bytes lanes).road.n (engine_after (study_of bytes lanes))) e
      ∙ weighted_total_none w u (study_of bytes lanes).road.n (engine_after (study_of bytes lanes))

  pub weighted_unopened : ((opening_of bytes lanes).number ≡ 0 → ⊥) → weighted_total_of_run w u bytes lanes list ≡ 0
  weighted_unopened h = weighted_unmade (rw (runs_unopened bytes lanes h list, ne_eqb (opening_of bytes lanes).number 0 h) refl)

  module _ (openable : Openable bytes lanes) where
    pub weighted_short : length list < table_size (study_of bytes lanes) → weighted_total_of_run w u bytes lanes list ≡ 0
    weighted_short l = weighted_unmade (rw (runs_short bytes lanes openable list l) refl)

    pub weighted_long : table_size (study_of bytes lanes) ≤ length list
        → weighted_total_of_run w u bytes lanes list
        ≡ weighted_total w u (study_of bytes lanes).road.n (engine_after (study_of bytes lanes)) (first_step (run_fault (study_of bytes lanes)) (study_of bytes lanes).steps)
    unfolding weighted_total_of_run
    weighted_long l =
        let a = study_of bytes lanes in
        ap (weighted_total w u a.road.n (engine_after a)) (ap (steps_made a) (runs_long bytes lanes openable list l) ∙ end_made a (run_fault a) (engine_after a))
