-- Demand 3 for running's list and answer, for every record and every table of lanes without a refusal. Assumes nothing.
use Rattle.std.specs.Prelude.{◌≡◌, Bool, true, false, ◌⊎◌, List, ℕ, ◌≤◌, ◌<◌, eqb, length, take}
use Rattle.std.proofs.Math.Path.{refl, ap, subst⁻¹}
use Rattle.std.proofs.Common.{sym, ◌∙◌, ⊎_elim, inl, inr, le_refl, arith, eqb-true, ne_eqb}
use Rattle.std.proofs.lemmas.Bool.{eqb-false}
use Rattle.model.specs.Numbers.{at, one_of}
use Rattle.numbers.specs.Tests.{order}
use Rattle.model.specs.declared.Road.{Road}
use Rattle.model.specs.declared.State.{State}
use Rattle.model.specs.Road.{empty_state, total_of}
use Rattle.numbers.specs.Zeros.{zeros_at}
use Rattle.model.specs.Refusals.{began}
use Rattle.model.specs.Schedules.{Study, table_size, schedule_after, engine_after, outflows_at, proposed_at, scheduled_at}
use Rattle.theory.specs.RunsLaws.{StudyOk}
use Rattle.model.specs.Reading.{reading_of, study_of}
use Rattle.reading.specs.Numbers.{read_numbers}
use Rattle.model.specs.Running.{run_fault, first_step, EndAnswer, no_state, run_end, running_of, steps_made, table_of, list_after}
use Rattle.model.specs.Judging.{judge_fault, judge_end, judging_of}
use Rattle.theory.specs.TableLaws.{flows_of}
use Rattle.theory.proofs.TableLaws.{length_flows, flows_row, table_row, table_front}
use Rattle.theory.proofs.SchedulesLaws.{step_within, end_made, end_state, end_road, end_number, run_began, obeys_faults, faults_obeys}
use Rattle.theory.proofs.RunEnds.{runs_short, runs_long, writes_short, writes_long, judges_length, judges_ends}
use Rattle.theory.specs.Readable.{readable}
use Rattle.model.specs.Demand.{Ahead, Reaches, Openable, Demand, Grounds, DemandAndGrounds}
use Rattle.theory.proofs.DemandLaws.{own_state_lem, own_obeys, own_greatest, own_judged_lem, run_done, judge_done}
use Rattle.theory.proofs.OwnBest.{own_best, returned_ahead}

-- a state with every F 0
record Fresh (r : Road) (u : State) : Type 0 where
  gate : u.gate_cumulative ≡ 0
  cell : (i : ℕ) → i < r.n → at u.cumulative i ≡ 0
  ramp_time : u.ramp_time ≡ 0
  total : total_of u ≡ 0

fresh_ahead : (r : Road) (u v : State) → Fresh r u → Fresh r v → Ahead r u v
fresh_ahead r u v a b = record {
  gate = omega (arith, a.gate, b.gate);
  cell = λ i l. omega (arith, a.cell i l, b.cell i l);
  total = omega (arith, a.total, b.total);
  ramp_time = omega (arith, a.ramp_time, b.ramp_time);
  gate_road = omega (arith, a.total, b.total);
}

fresh_empty : (r : Road) → Fresh r empty_state
fresh_empty r = record { gate = refl; cell = λ i l. zeros_at i; ramp_time = refl; total = refl }

module _ (bytes lanes : List ℕ) (openable : Openable bytes lanes) where
  abbrev a : Study
  a = study_of bytes lanes

  ok : StudyOk (study_of bytes lanes)
  ok = (readable bytes lanes (reading_of bytes) refl openable.reads openable.opens).ok

  abbrev K : ℕ
  K = first_step (run_fault a) a.steps

  abbrev J : List ℕ → ℕ
  J zs = first_step (judge_fault a zs) a.steps

  fresh_start : Fresh a.road a.start
  fresh_start =
      let n = read_numbers bytes (reading_of bytes) refl openable.reads in
      record {
        gate = n.gate_cumulative;
        cell = λ i l. rw n.cumulative (zeros_at i);
        ramp_time = n.ramp_time;
        total = omega (arith, n.gate_time, n.road_time, n.ramp_time);
      }

  -- a state of the run or of a schedule after no step is the start
  run_fresh : (run_end a).state.done ≡ 0 → Fresh a.road (run_end a).state
  unfolding engine_after
  run_fresh h =
      let z : K ≡ 0 = omega (arith, run_done a ok, h) in
      subst⁻¹ (Fresh a.road) (end_state a (run_fault a) (engine_after a) ∙ ap (engine_after a) z) fresh_start

  judge_fresh : (zs : List ℕ) → (judge_end a zs).state.done ≡ 0 → Fresh a.road (judge_end a zs).state
  unfolding schedule_after
  judge_fresh zs h =
      let z : J zs ≡ 0 = omega (arith, judge_done a ok zs, h) in
      subst⁻¹ (Fresh a.road) (end_state a (judge_fault a zs) (scheduled_at a zs) ∙ ap (scheduled_at a zs) z) fresh_start

  -- a schedule has the right length, or not
  pub sized : (zs : List ℕ) → (length zs ≡ table_size (study_of bytes lanes)) ⊎ ((length zs ≡ table_size (study_of bytes lanes)) → ⊥)
  sized zs = go (eqb (length zs) (table_size a)) refl
    where
      go : (b : Bool) → eqb (length zs) (table_size a) ≡ b → (length zs ≡ table_size a) ⊎ ((length zs ≡ table_size a) → ⊥)
      go true e = inl (eqb-true (length zs) (table_size a) e)
      go false e = inr (eqb-false (length zs) (table_size a) e)

  -- a schedule of the right length: it reaches the steps that judging makes, and the state returned is its own
  module _ (zs : List ℕ) (right : length zs ≡ table_size (study_of bytes lanes)) where
    answer : judging_of bytes lanes zs ≡ judge_end a zs
    answer = judges_ends bytes lanes openable zs right

    judged_made : steps_made a (judging_of bytes lanes zs) ≡ J zs
    judged_made = ap (steps_made a) answer ∙ end_made a (judge_fault a zs) (scheduled_at a zs)

    judge_reaches : (k : ℕ) → Reaches a zs k → k ≤ steps_made a (judging_of bytes lanes zs)
    judge_reaches k h = omega (arith, judged_made, obeys_faults a ok zs k h.within h.obeys)

    judge_reached : Reaches a zs (steps_made a (judging_of bytes lanes zs))
    judge_reached = record {
      within = omega (arith, judged_made, step_within (judge_fault a zs) a.steps);
      obeys = λ j l. faults_obeys a ok zs j (omega (arith, judged_made));
    }

    judged_state_lem : (judging_of bytes lanes zs).state ≡ scheduled_at a zs (steps_made a (judging_of bytes lanes zs))
    judged_state_lem =
        ap (λ (e : EndAnswer). e.state) answer ∙ end_state a (judge_fault a zs) (scheduled_at a zs) ∙ ap (scheduled_at a zs) (sym judged_made)

    judged_road_lem : (judging_of bytes lanes zs).road ≡ a.road
    judged_road_lem = ap (λ (e : EndAnswer). e.road) answer ∙ end_road a (judge_fault a zs) (scheduled_at a zs)

  -- a state compared with the one that judging returns, for either length of the schedule
  against : (u : State) (zs : List ℕ) → u.done ≡ (judging_of bytes lanes zs).state.done
      → (length zs ≡ table_size (study_of bytes lanes) → u.done ≡ (judge_end (study_of bytes lanes) zs).state.done
      → Ahead (study_of bytes lanes).road u (judge_end (study_of bytes lanes) zs).state)
      → (u.done ≡ 0 → Fresh (study_of bytes lanes).road u) → Ahead (study_of bytes lanes).road u (judging_of bytes lanes zs).state
  against u zs h right fresh = ⊎_elim
      (λ (l : length zs ≡ table_size a).
      let j = judges_ends bytes lanes openable zs l in
      subst⁻¹ (λ (e : EndAnswer). Ahead a.road u e.state) j (right l (h ∙ ap (λ (e : EndAnswer). e.state.done) j)))
      (λ n.
      let j = judges_length bytes lanes openable zs n in
      subst⁻¹ (λ (e : EndAnswer). Ahead a.road u e.state) j
      (fresh_ahead a.road u empty_state (fresh (h ∙ ap (λ (e : EndAnswer). e.state.done) j)) (fresh_empty a.road)))
      (sized zs)

  -- after a refusal that names no state, nothing is written and no step is made
  module _ (list : List ℕ) (number place : ℕ) (refused : number ≡ 0 → ⊥) (early : began number ≡ false) where
    none : steps_made a (no_state number place) ≡ 0
    none = rw (ne_eqb number 0 refused) refl

    contrary : {P : Type 0} → began number ≡ true → P
    contrary h = absurd (let z : ◌≡◌ {A = ℕ} 0 1 = cc in omega arith)

    unbegun_demand : Demand bytes lanes list (no_state number place)
    unfolding schedule_after
    unbegun_demand = record {
      greatest = λ k l. absurd (omega (arith, none));
      ahead = λ zs k l h.
          let z : k ≡ 0 = omega (arith, none) in
          subst⁻¹ (λ (j : ℕ). Ahead a.road (scheduled_at a list j) (scheduled_at a zs j)) z (fresh_ahead a.road a.start a.start fresh_start fresh_start);
      returned = λ zs e. against empty_state zs e
          (λ l q. fresh_ahead a.road empty_state (judge_end a zs).state (fresh_empty a.road) (judge_fresh zs (sym q)))
          (λ _. fresh_empty a.road);
    }

    unbegun_grounds : Grounds bytes lanes list (no_state number place)
    unbegun_grounds = record {
      own = λ k l. record { within = omega (arith, none); obeys = λ j m. absurd (omega (arith, none)) };
      own_state = contrary;
      own_road = contrary;
      own_judged = λ e. absurd (refused e);
      all_rows = λ e. absurd (refused e);
      no_rows = λ e. none;
      reaches = judge_reaches;
      reached = judge_reached;
      judged_state = judged_state_lem;
      judged_road = judged_road_lem;
    }

    pub unbegun : DemandAndGrounds bytes lanes list (no_state number place)
    unbegun = record { demand = unbegun_demand; grounds = unbegun_grounds }

  -- the same for a list that is too short
  short : (list : List ℕ) → DemandAndGrounds bytes lanes list (no_state 11 0)
  unfolding began one_of
  short list = unbegun list 11 0 (λ e. omega arith) refl

  -- a list that is long enough holds the engine's rows of the steps before the first fault
  module _ (list : List ℕ) (long : table_size (study_of bytes lanes) ≤ length list) where
    abbrev out : List ℕ
    out = table_of a list K

    made : steps_made a (run_end a) ≡ K
    made = end_made a (run_fault a) (engine_after a)

    same : (j : ℕ) → j < K → proposed_at a out j ≡ outflows_at a j
    same j l = table_row a ok list K j l

    -- the table by itself, if all T rows are written
    table : K ≡ a.steps → take (table_size a) out ≡ flows_of a a.steps
    table f = ap (λ (j : ℕ). take (table_size a) (table_of a list j)) f ∙ table_front a ok list a.steps

    judged : K ≡ a.steps → judging_of bytes lanes (take (table_size a) out) ≡ run_end a
    judged f =
        ap (judging_of bytes lanes) (table f)
        ∙ judges_ends bytes lanes openable (flows_of a a.steps) (length_flows a ok a.steps)
        ∙ own_judged_lem a ok (flows_of a a.steps) (λ j l. flows_row a ok a.steps j (omega (arith, f))) f

    long_demand : Demand bytes lanes out (run_end a)
    long_demand = record {
      greatest = λ j l. own_greatest a ok out same j (omega (arith, made));
      ahead = λ zs j l h. own_best a ok out same zs j (omega (arith, made)) h.obeys;
      returned = λ zs e. against (run_end a).state zs e (λ l. returned_ahead a ok zs) run_fresh;
    }

    long_grounds : Grounds bytes lanes out (run_end a)
    long_grounds = record {
      own = λ j l. record {
        within = omega (arith, made, step_within (run_fault a) a.steps);
        obeys = λ i m. own_obeys a ok out same i (omega (arith, made));
      };
      own_state = λ n. end_state a (run_fault a) (engine_after a) ∙ sym (own_state_lem a ok out same K (le_refl K)) ∙ ap (scheduled_at a out) (sym made);
      own_road = λ n. end_road a (run_fault a) (engine_after a);
      own_judged = λ h. judged (end_number a (run_fault a) (engine_after a) h);
      all_rows = λ h. made ∙ end_number a (run_fault a) (engine_after a) h;
      no_rows = λ h. absurd (let e = run_began a in let z : ◌≡◌ {A = ℕ} 0 1 = cc in omega arith);
      reaches = judge_reaches;
      reached = judge_reached;
      judged_state = judged_state_lem;
      judged_road = judged_road_lem;
    }

  pub demand_and_grounds : (list : List ℕ) → DemandAndGrounds bytes lanes (list_after bytes lanes list) (running_of bytes lanes list)
  demand_and_grounds list = ⊎_elim
      (λ (l : table_size a ≤ length list).
      rw (writes_long bytes lanes openable list l, runs_long bytes lanes openable list l) (record { demand = long_demand list l; grounds = long_grounds list l }))
      (λ (l : length list < table_size a).
      rw (writes_short bytes lanes openable list l, runs_short bytes lanes openable list l) (short list))
      (order (table_size a) (length list))
