-- Theorem: records that differ only in the version and the seconds are run and judged alike. Assumes nothing.
use Rattle.std.specs.Prelude.{◌≡◌, refl, Bool, true, false, List, ℕ, ◌+◌, ◌*◌, ◌≤◌, ◌<◌, eqb, length}
use Rattle.std.proofs.Common.{sym, ap, ◌∙◌, ⊎_elim, arith, eqb-true}
use Rattle.std.proofs.lemmas.Bool.{eqb-false}
use Rattle.model.specs.Refusals.{FaultAnswer}
use Rattle.numbers.specs.FirstLaws.{fault_same}
use Rattle.numbers.specs.Tests.{order}
use Rattle.model.specs.declared.Road.{Road}
use Rattle.model.specs.declared.State.{State}
use Rattle.model.specs.Numbers.{row_at, front_of}
use Rattle.numbers.specs.TablesLaws.{front_same}
use Rattle.model.specs.Schedules.{Study, road_at, places, table_size, schedule_after, engine_after, outflows_at, proposed_at, scheduled_at}
use Rattle.theory.specs.StepLaws.{number_of_lem}
use Rattle.model.specs.Judging.{verdict_of, judge_fault, judge_end, judging_of}
use Rattle.theory.specs.VersionUnread.{OtherVersion, same_state, same_outflows, same_releases, same_schedule, same_verdict}
use Rattle.model.specs.Reading.{study_of}
use Rattle.model.specs.Demand.{Openable}
use Rattle.model.specs.Running.{run_fault, first_step, EndAnswer, end_of, run_end, table_of, running_of, list_after}
use Rattle.theory.specs.SchedulesLaws.{run_table}
use Rattle.theory.proofs.SchedulesLaws.{step_within, end_all, end_fault}
use Rattle.theory.proofs.RunEnds.{runs_short, runs_long, writes_short, writes_long, judges_length, judges_ends}
use Rattle.theory.specs.VersionsAlike.{EndsAlike}

alike_self : (d : EndAnswer) → EndsAlike d d
alike_self d = record { number = refl; step = refl; place = refl; state = refl }

-- two studies that differ only in this way, with the same faults and the same states
module _ {a b : Study} (h : OtherVersion a b) (f g : ℕ → FaultAnswer) (x y : ℕ → State)
    (faults : (k : ℕ) → k < a.steps → g k ≡ f k) (states : (k : ℕ) → k ≤ a.steps → y k ≡ x k) where
  abbrev T : ℕ
  T = a.steps

  abbrev K : ℕ
  K = first_step f a.steps

  -- they have the same first fault
  pub same_first : first_step g b.steps ≡ first_step f a.steps
  same_first = ap (first_step g) h.steps ∙ fault_same (λ k. (g k).number) (λ k. (f k).number) T (λ k l. number_of_lem (faults k l))

  -- they end alike
  pub same_end : EndsAlike (end_of a f x) (end_of b g y)
  same_end = go (eqb K T) refl
    where
      go : (t : Bool) → eqb (first_step f a.steps) a.steps ≡ t → EndsAlike (end_of a f x) (end_of b g y)
      go true e =
          let all : K ≡ T = eqb-true K T e in
          let s : y b.steps ≡ x a.steps = ap y h.steps ∙ states T (omega arith) in
          rw (end_all a f x all, end_all b g y (same_first ∙ all ∙ sym h.steps)) (record { number = refl; step = refl; place = refl; state = s })
      go false e =
          let l : K < T = omega (arith, step_within f T, eqb-false K T e) in
          let m : first_step g b.steps < b.steps = omega (arith, same_first, h.steps) in
          let q : g (first_step g b.steps) ≡ f (first_step f a.steps) = ap g same_first ∙ faults K l in
          let s : y (first_step g b.steps) ≡ x (first_step f a.steps) = ap y same_first ∙ states K (omega arith) in
          rw (end_fault a f x l, end_fault b g y m)
          (record { number = number_of_lem q; step = same_first; place = ap (λ (p : FaultAnswer). p.place) q; state = s })

module _ {a b : Study} (h : OtherVersion a b) where
  -- the same places, and so a table of the same size
  pub same_places : places b ≡ places a
  same_places = ap (λ (r : Road). r.n + 1) h.road

  pub same_table : table_size b ≡ table_size a
  same_table = ap (λ (t : ℕ). t * places b) h.steps ∙ ap (λ (p : ℕ). a.steps * p) same_places

  -- the run's first fault and end
  run_first : first_step (run_fault b) b.steps ≡ first_step (run_fault a) a.steps
  run_first = same_first h (run_fault a) (run_fault b) (engine_after a) (engine_after b) (same_releases h) (same_state h)

  pub run_end_lem : EndsAlike (run_end a) (run_end b)
  run_end_lem = same_end h (run_fault a) (run_fault b) (engine_after a) (engine_after b) (same_releases h) (same_state h)

  -- the end of a schedule's judgement
  pub judge_end_lem : (zs : List ℕ) → EndsAlike (judge_end a zs) (judge_end b zs)
  judge_end_lem zs =
      same_end h (judge_fault a zs) (judge_fault b zs) (scheduled_at a zs) (scheduled_at b zs)
      (λ k l.
      ap (λ (p : ℕ). verdict_of (road_at b k) (schedule_after b (row_at zs p) k) (b.rows k) (row_at zs p k)) same_places ∙ same_verdict h (proposed_at a zs) k l)
      (λ k l. ap (λ (p : ℕ). schedule_after b (row_at zs p) k) same_places ∙ same_schedule h (proposed_at a zs) k l)

  -- the same rows
  pub same_rows : (list : List ℕ) → run_table b list ≡ run_table a list
  same_rows list =
      let k = first_step (run_fault a) a.steps in
      let l : k ≤ a.steps = step_within (run_fault a) a.steps in
      ap (table_of b list) run_first
      ∙ front_same (outflows_at b) (outflows_at a) (places b) list k (λ i m. same_outflows h i (omega arith))
      ∙ ap (λ (p : ℕ). front_of (outflows_at a) p list k) same_places

-- for two records without a refusal under one table of lanes: running and judging answer alike, and running leaves the same list
module _ (s t lanes : List ℕ) (first : Openable s lanes) (other : Openable t lanes) (h : OtherVersion (study_of s lanes) (study_of t lanes)) (list : List ℕ) where
  pub runs_alike : EndsAlike (running_of s lanes list) (running_of t lanes list)
  runs_alike =
      let z = same_table h in
      ⊎_elim
      (λ (l : table_size (study_of s lanes) ≤ length list).
      let m : table_size (study_of t lanes) ≤ length list = omega (arith, z) in
      rw (runs_long s lanes first list l, runs_long t lanes other list m) (run_end_lem h))
      (λ (l : length list < table_size (study_of s lanes)).
      let m : length list < table_size (study_of t lanes) = omega (arith, z) in
      rw (runs_short s lanes first list l, runs_short t lanes other list m) (alike_self _))
      (order (table_size (study_of s lanes)) (length list))

  pub same_list : list_after t lanes list ≡ list_after s lanes list
  same_list =
      let z = same_table h in
      ⊎_elim
      (λ (l : table_size (study_of s lanes) ≤ length list).
      let m : table_size (study_of t lanes) ≤ length list = omega (arith, z) in
      writes_long t lanes other list m ∙ same_rows h list ∙ sym (writes_long s lanes first list l))
      (λ (l : length list < table_size (study_of s lanes)).
      let m : length list < table_size (study_of t lanes) = omega (arith, z) in
      writes_short t lanes other list m ∙ sym (writes_short s lanes first list l))
      (order (table_size (study_of s lanes)) (length list))

  pub judges_alike : (zs : List ℕ) → EndsAlike (judging_of s lanes zs) (judging_of t lanes zs)
  judges_alike zs = go (eqb (length zs) (table_size (study_of s lanes))) refl
    where
      go : (b : Bool) → eqb (length zs) (table_size (study_of s lanes)) ≡ b → EndsAlike (judging_of s lanes zs) (judging_of t lanes zs)
      go true e =
          let l : length zs ≡ table_size (study_of s lanes) = eqb-true (length zs) (table_size (study_of s lanes)) e in
          rw (judges_ends s lanes first zs l, judges_ends t lanes other zs (l ∙ sym (same_table h))) (judge_end_lem h zs)
      go false e =
          let n = eqb-false (length zs) (table_size (study_of s lanes)) e in
          rw (judges_length s lanes first zs n, judges_length t lanes other zs (λ z. n (z ∙ same_table h))) (alike_self _)
