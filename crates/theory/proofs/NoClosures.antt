-- Without closures nothing changes: with the empty table running and judging use one road, and so they do with a table that opens all
-- built lanes in every row. Assumes nothing.
use Rattle.std.specs.Prelude.{◌≡◌, leb, eqb, length}
use Rattle.std.proofs.Math.Path.{refl, sym}
use Rattle.std.proofs.Common.{ap, ◌∙◌, mul-le-mul, arith}
use mathlib.Core.List.{List, []}
use Prim.Native.Nat.{ℕ, zero, suc, ◌+◌, ◌≤◌, ◌<◌}
use Rattle.model.specs.Refusals.{fault, FaultAnswer}
use Rattle.model.specs.Numbers.{at, front_of}
use Rattle.numbers.specs.Tests.{unless_elim}
use Rattle.numbers.specs.FirstLaws.{first_none, all_true}
use Rattle.numbers.specs.TablesLaws.{front_same}
use Rattle.model.specs.Lanes.{lanes_at, built_in, open_in, table_at}
use Rattle.lanes.specs.LanesLaws.{lanes_all}
use Rattle.model.specs.Schedules.{Study, road_at, places, table_size, schedule_after, engine_after, outflows_at, proposed_at, scheduled_at}
use Rattle.limits.specs.LimitsLaws.{RoadOk}
use Rattle.model.specs.Stepping.{releases_of, table_fault}
use Rattle.theory.specs.StepLaws.{number_of_lem, table_passes}
use Rattle.model.specs.Judging.{judge_end, judging_of}
use Rattle.theory.specs.OpenRoad.{same_road, other_road, open_road_all}
use Rattle.model.specs.Reading.{reading_of, study_of}
use Rattle.reading.specs.Within.{read_within_lem}
use Rattle.model.specs.Running.{EndAnswer, end_of, opening_of, run_end, running_of, steps_made, table_of, list_after}
use Rattle.theory.specs.Opening.{opening_same, opening_empty}
use Rattle.theory.proofs.SchedulesLaws.{step_within, end_made, end_same}
use Rattle.theory.specs.NoClosures.{plain_after, plain_scheduled, plain_run_end, plain_judge_end, plain_outflows, plain_running, plain_judging, plain_list, AllOpen}

-- a study whose road is the same in each of its steps
module _ (a : Study) (one : (k : ℕ) → k < a.steps → road_at a k ≡ a.road) where
  after_plain : (k : ℕ) → k ≤ a.steps → engine_after a k ≡ plain_after a.road a.start a.rows k
  unfolding engine_after plain_after
  after_plain zero l = refl
  after_plain (suc k) l = rw (after_plain k (omega arith), one k l) refl

  scheduled_plain : (ys : ℕ → List ℕ) (k : ℕ) → k ≤ a.steps → schedule_after a ys k ≡ plain_scheduled a.road a.start a.rows ys k
  unfolding schedule_after plain_scheduled
  scheduled_plain ys zero l = refl
  scheduled_plain ys (suc k) l = rw (scheduled_plain ys k (omega arith), one k l) refl

  run_plain : run_end a ≡ plain_run_end a
  run_plain =
      end_same a _ _ (engine_after a) (plain_after a.road a.start a.rows) (λ k _ l. rw (one k l, after_plain k (omega arith)) refl)
      (λ k _. after_plain k)

  judge_plain : (zs : List ℕ) → judge_end a zs ≡ plain_judge_end a zs
  judge_plain zs =
      end_same a _ _ (scheduled_at a zs) (plain_scheduled a.road a.start a.rows (proposed_at a zs))
      (λ k _ l. rw (one k l, scheduled_plain (proposed_at a zs) k (omega arith)) refl) (λ k _. scheduled_plain (proposed_at a zs) k)

  table_plain : (list : List ℕ) (k : ℕ) → k ≤ a.steps → table_of a list k ≡ front_of (plain_outflows a) (places a) list k
  table_plain list k l =
      front_same (outflows_at a) (plain_outflows a) (places a) list k (λ i m. rw (one i (omega arith), after_plain i (omega arith)) refl)

-- with the empty table there is one road
module _ (bytes : List ℕ) where
  pub empty_one : (k : ℕ) → k < (study_of bytes []).steps → road_at (study_of bytes []) k ≡ (study_of bytes []).road
  empty_one k l = sym (same_road (study_of bytes []) refl k)

  pub empty_runs : (list : List ℕ) → running_of bytes [] list ≡ plain_running bytes list
  unfolding running_of plain_running
  empty_runs list = rw (opening_empty bytes, run_plain (study_of bytes []) empty_one) refl

  pub empty_judges : (zs : List ℕ) → judging_of bytes [] zs ≡ plain_judging bytes zs
  unfolding judging_of plain_judging
  empty_judges zs = rw (opening_empty bytes, judge_plain (study_of bytes []) empty_one zs) refl

  -- at most T steps are made
  abbrev Within : EndAnswer → Type 0
  Within x = steps_made (study_of bytes []) x ≤ (study_of bytes []).steps

  made : (list : List ℕ) → steps_made (study_of bytes []) (plain_running bytes list) ≤ (study_of bytes []).steps
  unfolding plain_running
  made list =
      unless_elim Within (eqb (reading_of bytes).number 0) (λ e. rw e (omega arith)) (λ _.
      unless_elim Within (leb (table_size (study_of bytes [])) (length list)) (λ _. omega arith) (λ _.
      let a = study_of bytes [] in
      let faults : ℕ → FaultAnswer = λ k. releases_of a.road (plain_after a.road a.start a.rows k) (a.rows k) in
      omega (arith, end_made a faults (plain_after a.road a.start a.rows), step_within faults a.steps)))

  pub empty_writes : (list : List ℕ) → list_after bytes [] list ≡ plain_list bytes list
  unfolding list_after plain_list
  empty_writes list =
      rw (empty_runs list) (table_plain (study_of bytes []) empty_one list (steps_made (study_of bytes []) (plain_running bytes list)) (made list))

-- such a table gives the same as the empty one
module _ (bytes table : List ℕ) (reads : (reading_of bytes).number ≡ 0) (h : AllOpen table (reading_of bytes).road.n (reading_of bytes).steps) where
  abbrev a : Study
  a = study_of bytes table

  road_ok : RoadOk (study_of bytes table).road
  road_ok = (read_within_lem bytes (reading_of bytes) refl reads).road

  some : length table ≡ 0 → ⊥
  some z =
      let t : 1 ≤ a.steps + 1 = omega arith in
      omega (arith, h.right, z, mul-le-mul road_ok.some t)

  pub open_passes : table_fault table (study_of bytes table).road.n (study_of bytes table).steps ≡ fault 0 0
  open_passes =
      let n = a.road.n in
      let T = a.steps in
      table_passes table n T some h.right (first_none (table_at table n T) n
      (λ i l. all_true (λ k. lanes_at (built_in table n) (open_in table n k) i) T (λ k m. rw (h.all k m) (lanes_all (at (built_in table n) i) (h.some i l)))))

  opens : opening_of bytes table ≡ reading_of bytes
  opens = opening_same bytes table (number_of_lem open_passes)

  pub open_one : (k : ℕ) → k < (study_of bytes table).steps → road_at (study_of bytes table) k ≡ (study_of bytes table).road
  open_one k l =
      sym (other_road a some k)
      ∙ open_road_all a.road (built_in table a.road.n) (open_in table a.road.n k) road_ok
      (λ i m. (h.some i m, ap (λ (x : List ℕ). at x i) (h.all k l)))

  open_run : run_end a ≡ plain_run_end (study_of bytes [])
  unfolding end_of
  open_run = run_plain a open_one

  open_judge : (zs : List ℕ) → judge_end a zs ≡ plain_judge_end (study_of bytes []) zs
  unfolding end_of
  open_judge zs = judge_plain a open_one zs

  pub open_runs : (list : List ℕ) → running_of bytes table list ≡ running_of bytes [] list
  unfolding running_of plain_running
  open_runs list = plain ∙ sym (empty_runs bytes list)
    where
      plain : running_of bytes table list ≡ plain_running bytes list
      plain = rw (opens, open_run) refl

  pub open_judges : (zs : List ℕ) → judging_of bytes table zs ≡ judging_of bytes [] zs
  unfolding judging_of plain_judging
  open_judges zs = plain ∙ sym (empty_judges bytes zs)
    where
      plain : judging_of bytes table zs ≡ plain_judging bytes zs
      plain = rw (opens, open_judge zs) refl

  pub open_writes : (list : List ℕ) → list_after bytes table list ≡ list_after bytes [] list
  unfolding list_after plain_list
  open_writes list = plain ∙ sym (empty_writes bytes list)
    where
      plain : list_after bytes table list ≡ plain_list bytes list
      plain = rw (open_runs list, empty_runs bytes list) (table_plain a open_one list (steps_made a (plain_running bytes list)) (made bytes list))
