-- Theorems: going on after k steps is the whole; `theory/GoingOn` has it for states, outflows and ends. Going on from a run's own state, or from
-- filling's progress, is never refused with 7 or 8. Filled studies go on too. Weighted totals add up, and each longest queue is the greater of both.
-- Demand 3 holds for a run in stretches. From a record's own start, going on is running, judging and filling. Filling that goes on changes only releases.
-- Assumes nothing.
use Rattle.std.specs.Prelude.{◌≡◌, true, List, eqb, length}
use Rattle.std.proofs.Math.Path.{refl, ap, subst⁻¹}
use Rattle.std.proofs.Common.{sym, ◌∙◌, le_refl, add-suc, add-zero}
use Prim.Native.Nat.{ℕ, zero, suc, ◌+◌, ◌≤◌, ◌<◌, max}
use native.Mathlib.Omega.{arith}
use borrow.Author.Tests.{le-leb, eq-eqb, eqb-true, eqb-false}
use Rattle.model.specs.Numbers.{at}
use Rattle.model.specs.declared.Road.{Road}
use Rattle.model.specs.declared.State.{State}
use Rattle.model.specs.declared.Law.{Law}
use Rattle.model.specs.Road.{most_cells, most_steps, zeros}
use Rattle.model.specs.Limits.{state_ok}
use Rattle.numbers.specs.Tests.{unless_elim}
use Rattle.numbers.specs.FirstLaws.{all_true}
use Rattle.numbers.specs.RowsLaws.{fill_at, length_fill}
use Rattle.model.specs.Flow.{gate_arrivals, arrivals_at, entering_at}
use Rattle.limits.specs.LimitsLaws.{RoadOk, StateOk, RowOk, state_ok_lem, row_ok_lem}
use Rattle.model.specs.Schedules.{Study, road_at, outflows_of, engine_after, ObeysUpTo, proposed_at, scheduled_at}
use Rattle.model.specs.Reading.{reading_of, study_of}
use Rattle.reading.specs.Within.{read_within_lem}
use Rattle.reading.specs.Numbers.{read_numbers}
use Rattle.model.specs.Running.{EndAnswer, run_fault, first_step, lanes_fault, running_of}
use Rattle.model.specs.GoingOn.{study_after, state_fault, running_on, judging_on, entries_ok, progress_fault, filling_on, record_on}
use Rattle.model.specs.Judging.{judging_of}
use Rattle.model.specs.Filling.{MeterState, meter_start, filled_row, metered_of}
use Rattle.model.specs.Put.{put_table, released_row}
use Rattle.model.specs.Record.{record_row}
use Rattle.model.specs.Filling.{metered_from, granted_from, rows_from, filled_from, law_place, filling_of, OnlyReleases}
use Rattle.model.specs.Weights.{weighted_present, weighted_total}
use Rattle.model.specs.Longest.{maximum_of, stayed_of, Queues, longest_of}
use Rattle.model.specs.Demand.{Openable, Ahead}
use Rattle.numbers.specs.Zeros.{length_zeros, zeros_at}
use Rattle.theory.specs.RulesLaws.{Sized, demand_at_cell, outflows_obey}
use Rattle.theory.specs.MoveLaws.{next_held}
use Rattle.theory.specs.Roads.{StepRoad, step_alike, step_row, row_back, sized_alike}
use Rattle.theory.specs.Readable.{Readable, readable}
use Rattle.theory.specs.StartingState.{same_roads}
use Rattle.theory.specs.RunsLaws.{StudyOk}
use Rattle.theory.proofs.SchedulesLaws.{run_reached, step_within}
use Rattle.theory.specs.WeightsLaws.{weighted_total_none, weighted_total_more}
use Rattle.theory.proofs.DemandLaws.{engine_best}
use Rattle.theory.specs.GoingOn.{Rest}
use Rattle.theory.proofs.GoingOn.{first_rest, metered_rest, engine_rest, faults_rest}
use Rattle.put.specs.ReleasesLaws.{PutTable, put_table_lem, table_head}
use Rattle.put.specs.SameReading.{rows_replaced}
use Rattle.ramps.specs.RampsLaws.{filled_gate, filled_arrivals, filled_row_lem}
use Rattle.filling.specs.FillingFrom.{filled_run, releases_small, filled_released, filled_reached}

-- within the limits neither 7 nor 8 applies
starts_within : (b : Study) → RoadOk b.road → StateOk b.road b.start → b.start.done + b.steps ≤ most_steps → state_fault b ≡ 0
unfolding state_fault
starts_within b road state few = rw (state_ok_lem b.road b.start road state, le-leb (b.start.done + b.steps) most_steps few) refl

-- filling releases does not change the road of a step
filled_roads : (laws : List Law) (a : Study) (m : MeterState) (j : ℕ) → road_at (filled_from laws a m) j ≡ road_at a j
unfolding road_at
filled_roads laws a m j = refl

module _ {a b : Study} {k : ℕ} (h : Rest a b k) where
  -- going on from the run's own state is never refused with 7 or 8
  pub starts_rest : StudyOk a → ((j : ℕ) → j < k → (run_fault a j).number ≡ 0) → b.start ≡ engine_after a k → state_fault b ≡ 0
  starts_rest ok none s =
      let r = run_reached a ok k (omega (arith, h.steps)) none in
      let done : b.start.done ≡ a.start.done + k = ap (λ (u : State). u.done) s ∙ r.done in
      starts_within b (subst⁻¹ RoadOk h.road ok.road)
      (subst⁻¹ (λ (q : Road). StateOk q b.start) h.road (subst⁻¹ (StateOk a.road) s r.state))
      (omega (arith, done, h.steps, ok.steps))

  -- the rest of a filled study is the study that filling gives when it goes on
  pub filled_rest : (laws : List Law) (m p : MeterState) → p ≡ metered_from laws a m k → Rest (filled_from laws a m) (filled_from laws b p) k
  filled_rest laws m p e = record {
    road = h.road;
    steps = h.steps;
    roads = λ j l. filled_roads laws b p j ∙ h.roads j l ∙ sym (filled_roads laws a m (k + j));
    rows = λ j l. rw (metered_rest h laws m p e j (omega arith), h.roads j l, h.rows j l);
  }

-- states that go on after k steps, up to step T of the rest
module _ (after then : ℕ → State) (k T : ℕ) (states : (j : ℕ) → j ≤ T → then j ≡ after (k + j)) where
  -- the weighted total is the sum over both stretches
  pub weighted_states : (w u : ℕ → ℕ) (n j : ℕ) → j ≤ T → weighted_total w u n after (k + j) ≡ weighted_total w u n after k + weighted_total w u n then j
  weighted_states w u n zero l =
      ap (weighted_total w u n after) (add-zero k) ∙ omega (arith, weighted_total_none w u n then)
  weighted_states w u n (suc j) l =
      let e : weighted_present w u n (after (suc (k + j))) ≡ weighted_present w u n (then (suc j)) =
      ap (λ (i : ℕ). weighted_present w u n (after i)) (sym (add-suc k j)) ∙ ap (weighted_present w u n) (sym (states (suc j) l)) in
      ap (weighted_total w u n after) (add-suc k j)
      ∙ omega (arith, weighted_total_more w u n after (k + j), weighted_total_more w u n then j, weighted_states w u n j (omega arith), e)

-- the greatest of the first k + j values is the greater of two: of the first k, and of the j after them
pub greatest_rest : (f g : ℕ → ℕ) (k j : ℕ) → ((i : ℕ) → i < j → g i ≡ f (k + i)) → maximum_of f (k + j) ≡ max (maximum_of f k) (maximum_of g j)
unfolding maximum_of
greatest_rest f g k zero same = ap (maximum_of f) (add-zero k) ∙ omega arith
greatest_rest f g k (suc j) same =
    ap (maximum_of f) (add-suc k j)
    ∙ omega (arith, greatest_rest f g k j (λ i l. same i (omega arith)), same j (le_refl (suc j)))

-- each of the longest queues is the greater of two
pub record Greater (n : ℕ) (whole first rest : Queues) : Type 0 where
  pub gate : whole.gate ≡ max first.gate rest.gate
  pub waiting : whole.waiting ≡ max first.waiting rest.waiting
  pub ramp : (i : ℕ) → i < n → at whole.ramps i ≡ max (at first.ramps i) (at rest.ramps i)

module _ (after then : ℕ → State) (k T : ℕ) (states : (j : ℕ) → j ≤ T → then j ≡ after (k + j)) where
  next : (i : ℕ) → suc i ≤ T → then (suc i) ≡ after (suc (k + i))
  next i l = states (suc i) l ∙ ap after (add-suc k i)

  ramp_of : (n : ℕ) → n ≤ most_cells → (s : ℕ → State) (m i : ℕ) → i < n → at (longest_of n s m).ramps i ≡ maximum_of (λ j. at (s (suc j)).queue i) m
  unfolding longest_of
  ramp_of n few s m i l = fill_at (λ i. maximum_of (λ j. at (s (suc j)).queue i) m) n zeros i l (omega (arith, length_zeros))

  -- the longest queues of the whole
  pub longest_states : (n j : ℕ) → n ≤ most_cells → j ≤ T → Greater n (longest_of n after (k + j)) (longest_of n after k) (longest_of n then j)
  unfolding longest_of
  longest_states n j few l = record {
    gate = greatest_rest (λ i. (after (suc i)).gate_queue) (λ i. (then (suc i)).gate_queue) k j
        (λ i m. ap (λ (s : State). s.gate_queue) (next i (omega arith)));
    waiting = greatest_rest (λ i. stayed_of (after i) (after (suc i))) (λ i. stayed_of (then i) (then (suc i))) k j
        (λ i m. ap (λ (s : State). stayed_of s (then (suc i))) (states i (omega arith)) ∙ ap (stayed_of (after (k + i))) (next i (omega arith)));
    ramp = λ i m.
        ramp_of n few after (k + j) i m
        ∙ greatest_rest (λ t. at (after (suc t)).queue i) (λ t. at (then (suc t)).queue i) k j
        (λ t o. ap (λ (s : State). at s.queue i) (next t (omega arith)))
        ∙ ap (λ (x : ℕ). max x (maximum_of (λ t. at (then (suc t)).queue i) j)) (sym (ramp_of n few after k i m))
        ∙ ap (max (at (longest_of n after k).ramps i)) (sym (ramp_of n few then j i m));
  }

module _ {a b : Study} {k : ℕ} (h : Rest a b k) (s : b.start ≡ engine_after a k) where
  pub weighted_rest : (w u : ℕ → ℕ) (n j : ℕ) → j ≤ b.steps
      → weighted_total w u n (engine_after a) (k + j) ≡ weighted_total w u n (engine_after a) k + weighted_total w u n (engine_after b) j
  weighted_rest = weighted_states (engine_after a) (engine_after b) k b.steps (engine_rest h s)

  pub longest_rest : (n j : ℕ) → n ≤ most_cells → j ≤ b.steps
      → Greater n (longest_of n (engine_after a) (k + j)) (longest_of n (engine_after a) k) (longest_of n (engine_after b) j)
  longest_rest = longest_states (engine_after a) (engine_after b) k b.steps (engine_rest h s)

  -- demand 3: no schedule of the whole study is ahead of a run in stretches, after k + j steps that both reach
  pub best_rest : StudyOk a → ((j : ℕ) → j < k → (run_fault a j).number ≡ 0) → (zs : List ℕ) (j : ℕ) → j ≤ first_step (run_fault b) b.steps
      → ObeysUpTo a (proposed_at a zs) (k + j) → Ahead a.road (engine_after b j) (scheduled_at a zs (k + j))
  best_rest ok none zs j l obeys =
      let e = first_rest h (run_fault a) (run_fault b) (engine_after a) (engine_after b) none (faults_rest h s) (engine_rest h s) in
      subst⁻¹ (λ (u : State). Ahead a.road u (scheduled_at a zs (k + j))) (engine_rest h s j (omega (arith, step_within (run_fault b) b.steps)))
      (engine_best a ok zs (k + j) (omega (arith, e)) obeys)

-- the same for filling, whose states go on from a progress
module _ {a b : Study} {k : ℕ} (h : Rest a b k) (laws : List Law) (m p : MeterState) (e : p ≡ metered_from laws a m k) where
  pub longest_filled : (n j : ℕ) → n ≤ most_cells → j ≤ b.steps
      → Greater n (longest_of n (λ i. (metered_from laws a m i).state) (k + j)) (longest_of n (λ i. (metered_from laws a m i).state) k)
      (longest_of n (λ i. (metered_from laws b p i).state) j)
  longest_filled = longest_states (λ i. (metered_from laws a m i).state) (λ i. (metered_from laws b p i).state) k b.steps
      (λ j l. ap (λ (x : MeterState). x.state) (metered_rest h laws m p e j l))

-- from a record's own start, going on is running, judging and filling
module _ (bytes lanes : List ℕ) (reads : (reading_of bytes).number ≡ 0) where
  few : (reading_of bytes).state.done + (reading_of bytes).steps ≤ most_steps
  few = omega (arith, (read_within_lem bytes (reading_of bytes) refl reads).steps, (read_numbers bytes (reading_of bytes) refl reads).done)

  state_within_lem : state_ok (reading_of bytes).road (reading_of bytes).state ≡ true
  state_within_lem =
      let w = read_within_lem bytes (reading_of bytes) refl reads in
      state_ok_lem (reading_of bytes).road (reading_of bytes).state w.road w.state

  starts_fresh : state_fault (study_of bytes lanes) ≡ 0
  unfolding state_fault
  starts_fresh = rw (state_within_lem, le-leb ((reading_of bytes).state.done + (reading_of bytes).steps) most_steps few) refl

  entries_fresh : entries_ok (meter_start (reading_of bytes).state) (reading_of bytes).road.n ≡ true
  unfolding entries_ok
  entries_fresh = all_true _ (reading_of bytes).road.n (λ i l. le-leb (at zeros i) (at (reading_of bytes).state.held i) (omega (arith, zeros_at i)))

  progress_fresh : progress_fault (study_of bytes lanes) (meter_start (reading_of bytes).state) ≡ 0
  unfolding progress_fault
  progress_fresh = rw (state_within_lem, entries_fresh, le-leb ((reading_of bytes).state.done + (reading_of bytes).steps) most_steps few) refl

  pub fresh_run : (list : List ℕ) → running_on bytes lanes (reading_of bytes).state list ≡ running_of bytes lanes list
  unfolding running_on running_of
  fresh_run list = rw (eq-eqb (state_fault (study_of bytes lanes)) 0 starts_fresh) refl

  pub fresh_judge : (zs : List ℕ) → judging_on bytes lanes (reading_of bytes).state zs ≡ judging_of bytes lanes zs
  unfolding judging_on judging_of
  fresh_judge zs = rw (eq-eqb (state_fault (study_of bytes lanes)) 0 starts_fresh) refl

  pub fresh_fill : (laws : List Law) (list : List ℕ)
      → filling_on laws bytes lanes (meter_start (reading_of bytes).state) list ≡ filling_of laws bytes lanes list
  unfolding filling_on filling_of
  fresh_fill laws list = rw (eq-eqb (progress_fault (study_of bytes lanes) (meter_start (reading_of bytes).state)) 0 progress_fresh) refl

-- filling that goes on is not refused: what entered a cell in a step is at most what the cell then holds
module _ (laws : List Law) (a : Study) (m : MeterState) (starts : a.start ≡ m.state) (ok : StudyOk a) (long : a.road.n ≤ length m.entries) where
  entries_long : (k : ℕ) → length (metered_from laws a m k).entries ≡ length m.entries
  unfolding metered_from metered_of
  entries_long zero = refl
  entries_long (suc k) = length_fill _ _ _ ∙ entries_long k

  module _ (k : ℕ) (left : k < a.steps) where
    abbrev q : Road
    q = road_at a k

    abbrev M : MeterState
    M = metered_from laws a m k

    abbrev row : List ℕ
    row = rows_from laws a m k

    abbrev y : List ℕ
    y = outflows_of (road_at a k) (metered_from laws a m k).state (rows_from laws a m k)

    sized : Sized (road_at a k) (metered_from laws a m k).state
    sized =
        sized_alike a.road q (step_alike (ok.roads k)) M.state
        (rw (filled_run laws a m starts k) at (filled_reached laws a m starts ok k (omega arith)).sized)

    entry_within : (i : ℕ) → i < a.road.n → at (metered_from laws a m (suc k)).entries i ≤ at (metered_from laws a m (suc k)).state.held i
    unfolding metered_from metered_of
    entry_within i l =
        let n : q.n ≡ a.road.n = (ok.roads k).n in
        let less : i < q.n = omega (arith, n) in
        let obeys = outflows_obey q M.state row (filled_released laws a m starts ok k left) in
        omega (
          arith,
          fill_at (entering_at q M.state y) q.n M.entries i less (omega (arith, n, long, entries_long k)),
          next_held q M.state row y sized i less,
          obeys.demand (suc i) less,
          demand_at_cell q (ok.roads k).ok M.state i less,
        )

    pub entries_rest : entries_ok (metered_from laws a m (suc k)) a.road.n ≡ true
    unfolding entries_ok
    entries_rest = all_true _ a.road.n (λ i l. le-leb _ _ (entry_within i l))

-- so 7 and 8 never apply to a progress that filling left
pub progress_rest : {a b : Study} {k : ℕ} → Rest a b (suc k) → StudyOk a → (laws : List Law) (m p : MeterState) → a.start ≡ m.state → b.start ≡ p.state
    → a.road.n ≤ length m.entries → p ≡ metered_from laws a m (suc k) → progress_fault b p ≡ 0
unfolding progress_fault
progress_rest {a} {b} {k} h ok laws m p starts s long e =
    let left : suc k ≤ a.steps = omega (arith, h.steps) in
    let r = filled_reached laws a m starts ok (suc k) left in
    let own : p.state ≡ engine_after (filled_from laws a m) (suc k) = ap (λ (x : MeterState). x.state) e ∙ sym (filled_run laws a m starts (suc k)) in
    let done : b.start.done ≡ a.start.done + suc k = ap (λ (u : State). u.done) (s ∙ own) ∙ r.done in
    let state : state_ok b.road p.state ≡ true =
    ap (λ (x : Road). state_ok x p.state) h.road ∙ state_ok_lem a.road p.state ok.road (subst⁻¹ (StateOk a.road) own r.state) in
    let entries : entries_ok p b.road.n ≡ true =
    ap (λ (x : Road). entries_ok p x.n) h.road ∙ ap (λ (x : MeterState). entries_ok x a.road.n) e ∙ entries_rest laws a m starts ok long k left in
    rw (state, entries, le-leb (b.start.done + b.steps) most_steps (omega (arith, done, h.steps, ok.steps))) refl

-- filling that goes on changes only the record's releases
unchanged : (bytes : List ℕ) → OnlyReleases bytes bytes
unchanged bytes = record { size = refl; byte = λ b o. refl; reads = refl; gate = λ t l. refl; arrivals = λ t i l. refl }

module _ (laws : List Law) (bytes lanes : List ℕ) (m : MeterState) (openable : Openable bytes lanes) where
  abbrev a : Study
  a = study_after bytes lanes m

  abbrev filled : List ℕ
  filled = put_table bytes (reading_of bytes).road.n (granted_from laws (study_after bytes lanes m) m) (reading_of bytes).steps

  read : Readable bytes (study_of bytes lanes)
  read = readable bytes lanes (reading_of bytes) refl openable.reads openable.opens

  road_of_lem : (k : ℕ) → StepRoad (reading_of bytes).road (road_at (study_after bytes lanes m) k)
  road_of_lem k = rw (← same_roads (study_of bytes lanes) m.state k) (read.ok.roads k)

  put_on : PutTable bytes (put_table bytes (reading_of bytes).road.n (granted_from laws (study_after bytes lanes m) m) (reading_of bytes).steps)
      (reading_of bytes).road.n (granted_from laws (study_after bytes lanes m) m) (reading_of bytes).steps
  put_on = put_table_lem bytes (reading_of bytes).road.n (granted_from laws a m) (reading_of bytes).steps read.row (λ t i l o. releases_small laws a m refl t i)

  rows_on : (t : ℕ) → t < (reading_of bytes).steps → record_row filled (reading_of bytes).road.n t ≡ rows_from laws (study_after bytes lanes m) m t
  unfolding filled_row
  rows_on t l =
      put_on.row t l ∙ ap (λ (n : ℕ). released_row (granted_from laws a m t) n (record_row bytes (reading_of bytes).road.n t)) (sym (road_of_lem t).n)

  within_on : (t : ℕ) → t < (reading_of bytes).steps → RowOk (reading_of bytes).road (rows_from laws (study_after bytes lanes m) m t)
  within_on t l =
      row_back (road_of_lem t) (rows_from laws a m t)
      (filled_row_lem laws (road_at a t) (metered_from laws a m t) (a.rows t) (step_row (road_of_lem t) (a.rows t) (read.ok.row t l)))

  filled_on : OnlyReleases bytes (put_table bytes (reading_of bytes).road.n (granted_from laws (study_after bytes lanes m) m) (reading_of bytes).steps)
  filled_on = record {
    size = put_on.size;
    byte = put_on.byte;
    reads = rows_replaced bytes filled put_on.size openable.reads (table_head put_on)
        (λ t l. rw (rows_on t l) (row_ok_lem (reading_of bytes).road (rows_from laws a m t) read.ok.road (within_on t l)));
    gate = λ t l. ap gate_arrivals (rows_on t l) ∙ filled_gate laws (road_at a t) (metered_from laws a m t) (a.rows t);
    arrivals = λ t i l.
        ap (λ (x : List ℕ). arrivals_at x i) (rows_on t l) ∙ filled_arrivals laws (road_at a t) (metered_from laws a m t) (a.rows t) i;
  }

-- if it is not refused, no refusal of the record or the table applies
openable_on : (laws : List Law) (bytes lanes : List ℕ) (m : MeterState) (list : List ℕ) → (filling_on laws bytes lanes m list).number ≡ 0 → Openable bytes lanes
unfolding filling_on
openable_on laws bytes lanes m list =
    let a = study_after bytes lanes m in
    let P : EndAnswer → Type 0 = λ (e : EndAnswer). e.number ≡ 0 → Openable bytes lanes in
    unless_elim P (eqb (reading_of bytes).number 0) (λ f z. absurd (eqb-false (reading_of bytes).number 0 f z)) (λ r.
    unless_elim P (eqb (law_place laws a) 0) (λ _ z. absurd (omega arith)) (λ _.
    unless_elim P (eqb (lanes_fault a).number 0) (λ f z. absurd (eqb-false (lanes_fault a).number 0 f z)) (λ o _.
    record { reads = eqb-true (reading_of bytes).number 0 r; opens = eqb-true (lanes_fault a).number 0 o })))

pub only_releases_on : (laws : List Law) (bytes lanes : List ℕ) (m : MeterState) (list : List ℕ) → OnlyReleases bytes (record_on laws bytes lanes m list)
unfolding record_on
only_releases_on laws bytes lanes m list =
    unless_elim (OnlyReleases bytes) (eqb (filling_on laws bytes lanes m list).number 0) (λ _. unchanged bytes)
    (λ e. filled_on laws bytes lanes m (openable_on laws bytes lanes m list (eqb-true (filling_on laws bytes lanes m list).number 0 e)))
