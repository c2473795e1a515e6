-- Theorem about whole records: a larger speed, wave, jam count or capacity of a cell, or a larger gate capacity, makes no F smaller and no total
-- larger. It holds after every step that both runs reach, with the same start, arrivals, releases and closures. A larger share is not included:
-- `RaisedNumbers` of `model/WorkedRoads` has a total that grows with it, and a run that is refused with a larger speed. Assumes nothing.
use Rattle.std.specs.Prelude.{◌≡◌, refl, List, ℕ, ◌≤◌, ◌<◌, length}
use Rattle.std.proofs.Common.{sym, ap, ◌∙◌, ⊎_elim, le_refl, arith}
use Rattle.numbers.specs.Tests.{order}
use Rattle.model.specs.Road.{total_of}
use Rattle.model.specs.Schedules.{Study, table_size, engine_after}
use Rattle.theory.specs.RunsLaws.{ReleasesFitUpTo, StudyOk}
use Rattle.theory.specs.BetterRoad.{BetterRoad}
use Rattle.theory.proofs.BetterRoad.{better_behind}
use Rattle.model.specs.Reading.{reading_of, study_of}
use Rattle.reading.specs.Numbers.{read_numbers}
use Rattle.model.specs.Running.{run_fault, first_step, steps_made, running_of}
use Rattle.theory.proofs.SchedulesLaws.{step_within, step_before, end_made, end_state, run_fits}
use Rattle.theory.proofs.RunEnds.{runs_short, runs_long}
use Rattle.theory.specs.Readable.{readable}
use Rattle.model.specs.Demand.{Ahead, Openable}
use Rattle.theory.proofs.DemandLaws.{behind_ahead}
use Rattle.theory.proofs.DemandWhole.{demand_and_grounds}

-- a record and a table to which no refusal applies
module _ (bytes lanes : List ℕ) (openable : Openable bytes lanes) where
  abbrev a : Study
  a = study_of bytes lanes

  ok : StudyOk (study_of bytes lanes)
  ok = (readable bytes lanes (reading_of bytes) refl openable.reads openable.opens).ok

  entries : (study_of bytes lanes).road.n ≤ length (study_of bytes lanes).road.capacity
  entries = omega (arith, ok.road.cells, (read_numbers bytes (reading_of bytes) refl openable.reads).capacity.entries)

  -- a run makes no step from its first fault on, and its releases fit up to there
  module _ (list : List ℕ) where
    within : steps_made (study_of bytes lanes) (running_of bytes lanes list) ≤ first_step (run_fault (study_of bytes lanes)) (study_of bytes lanes).steps
    within = ⊎_elim
        (λ (l : table_size a ≤ length list). rw (runs_long bytes lanes openable list l) (omega (arith, end_made a (run_fault a) (engine_after a))))
        (λ (l : length list < table_size a). rw (runs_short bytes lanes openable list l) (omega arith))
        (order (table_size a) (length list))

    fits : (k : ℕ) → k ≤ steps_made (study_of bytes lanes) (running_of bytes lanes list) → ReleasesFitUpTo (study_of bytes lanes) k
    fits k l = run_fits a k (λ j m. step_before (run_fault a) a.steps j (omega (arith, within)))

    -- if its list is long enough, a run returns the state after the steps made
    final : table_size (study_of bytes lanes) ≤ length list
        → (running_of bytes lanes list).state ≡ engine_after (study_of bytes lanes) (steps_made (study_of bytes lanes) (running_of bytes lanes list))
    final l =
        let e = runs_long bytes lanes openable list l in
        rw e (end_state a (run_fault a) (engine_after a) ∙ ap (engine_after a) (sym (end_made a (run_fault a) (engine_after a))))

    -- a run that is not refused has a list that is long enough, and makes all steps
    long : (running_of bytes lanes list).number ≡ 0 → table_size (study_of bytes lanes) ≤ length list
    long h = ⊎_elim
        (λ (l : table_size a ≤ length list). l)
        (λ (l : length list < table_size a).
        let e : (running_of bytes lanes list).number ≡ 11 = rw (runs_short bytes lanes openable list l) refl in
        absurd (omega (arith, h, e)))
        (order (table_size a) (length list))

    all : (running_of bytes lanes list).number ≡ 0 → steps_made (study_of bytes lanes) (running_of bytes lanes list) ≡ (study_of bytes lanes).steps
    all h = (demand_and_grounds bytes lanes openable list).grounds.all_rows h

-- two records under one table of lanes, the second with a better road, each run into a list
module _ (s t lanes : List ℕ) (first : Openable s lanes) (other : Openable t lanes) (h : BetterRoad (study_of s lanes) (study_of t lanes)) (list out : List ℕ) where
  -- after every step that both runs reach
  pub better_steps : (k : ℕ) → k ≤ steps_made (study_of s lanes) (running_of s lanes list) → k ≤ steps_made (study_of t lanes) (running_of t lanes out)
      → Ahead (study_of s lanes).road (engine_after (study_of t lanes) k) (engine_after (study_of s lanes) k)
  better_steps k l m =
      let a = study_of s lanes in
      behind_ahead a.road (engine_after (study_of t lanes) k) (engine_after a k)
      (better_behind h (ok s lanes first) (ok t lanes other) (entries s lanes first) (entries t lanes other) k
      (omega (arith, within s lanes first list, step_within (run_fault a) a.steps))
      (fits s lanes first list k l) (fits t lanes other out k m))

  -- the same for the states returned, if both lists are long enough and both runs make equally many steps
  pub better_returned : table_size (study_of s lanes) ≤ length list → table_size (study_of t lanes) ≤ length out
      → steps_made (study_of s lanes) (running_of s lanes list) ≡ steps_made (study_of t lanes) (running_of t lanes out)
      → Ahead (study_of s lanes).road (running_of t lanes out).state (running_of s lanes list).state
  better_returned l m e =
      let K = steps_made (study_of s lanes) (running_of s lanes list) in
      rw (final s lanes first list l, final t lanes other out m, ← e) (better_steps K (le_refl K) (omega (arith, e)))

  -- 'when both roads accept the same releases, start, arrivals and closures': if neither run is refused, the total returned is not larger
  pub better_accepted : (running_of s lanes list).number ≡ 0 → (running_of t lanes out).number ≡ 0
      → total_of (running_of t lanes out).state ≤ total_of (running_of s lanes list).state
  better_accepted a b =
      (better_returned (long s lanes first list a) (long t lanes other out b)
      (all s lanes first list a ∙ sym h.steps ∙ sym (all t lanes other out b))).total
