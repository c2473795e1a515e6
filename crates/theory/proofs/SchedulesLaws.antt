-- Laws of running and judging: their ends, and the limits in every state that they reach. Assumes nothing.
use Rattle.std.specs.Prelude.{List, ℕ, ◌≤◌, ◌<◌, ◌≡◌, Bool, true, false, eqb}
use Rattle.std.proofs.Math.Path.{refl}
use Rattle.std.proofs.Common.{sym, ap, ◌∙◌, le_refl, arith, eqb-true, eq-eqb, ne_eqb}
use Rattle.std.proofs.lemmas.Bool.{eqb-false}
use Rattle.model.specs.Schedules.{Study, road_at, engine_after, ObeysUpTo, proposed_at, scheduled_at}
use Rattle.model.specs.Running.{run_fault, first_step, EndAnswer, end_with, end_of, run_end, steps_made}
use Rattle.model.specs.Numbers.{one_of}
use Rattle.numbers.specs.FirstLaws.{Faultless, fault_within, fault_before, fault_there, fault_none, faultless_stop, faultless_end, faultless_far}
use Rattle.model.specs.declared.State.{State}
use Rattle.model.specs.Refusals.{began, FaultAnswer}
use Rattle.theory.specs.RunsLaws.{ReleasesFitUpTo, StudyOk, ReachedState}
use Rattle.theory.proofs.RunsLaws.{reached, engine_reached}
use Rattle.theory.specs.StepLaws.{number_of_lem, releases_fit, releases_class}
use Rattle.theory.specs.VerdictLaws.{verdict_obeys, obeys_verdict, verdict_class}
use Rattle.model.specs.Judging.{judge_fault, judge_end}

-- the first step with a fault
module _ (faults : ℕ → FaultAnswer) (T : ℕ) where
  pub step_within : first_step faults T ≤ T
  step_within = fault_within (λ k. (faults k).number) T

  pub step_before : (j : ℕ) → j < first_step faults T → (faults j).number ≡ 0
  step_before = fault_before (λ k. (faults k).number) T

  step_there : first_step faults T < T → (faults (first_step faults T)).number ≡ 0 → ⊥
  step_there = fault_there (λ k. (faults k).number) T

  pub step_none : ((j : ℕ) → j < T → (faults j).number ≡ 0) → first_step faults T ≡ T
  step_none = fault_none (λ k. (faults k).number) T

-- the end
module _ (a : Study) (faults : ℕ → FaultAnswer) (after : ℕ → State) where
  abbrev K : ℕ
  K = first_step faults a.steps

  pub end_all : first_step faults a.steps ≡ a.steps → end_of a faults after ≡ end_with 0 0 0 a.road (after a.steps)
  unfolding end_of
  end_all e = rw (eq-eqb K a.steps e) refl

  pub end_fault : first_step faults a.steps < a.steps → end_of a faults after ≡ end_with (faults K).number K (faults K).place a.road (after K)
  unfolding end_of
  end_fault l = rw (ne_eqb K a.steps (λ e. omega arith)) refl

  -- the end, as a loop over the steps finds it
  module _ {k : ℕ} {u : State} (h : Faultless (λ j. (faults j).number) a.steps k) (eu : u ≡ after k) where
    pub ends_all : a.steps ≤ k → end_with 0 0 0 a.road u ≡ end_of a faults after
    ends_all l =
        let e : k ≡ a.steps = omega (arith, h.within) in
        ap (end_with 0 0 0 a.road) (eu ∙ ap after e) ∙ sym (end_all (sym (faultless_end h l) ∙ e))

    pub ends_at : {q : FaultAnswer} → k < a.steps → q ≡ faults k → (q.number ≡ 0 → ⊥) → end_with q.number k q.place a.road u ≡ end_of a faults after
    ends_at l e n =
        let f : k ≡ first_step faults a.steps = faultless_stop h l (number_of_lem e) n in
        let g : end_of a faults after ≡ end_with (faults k).number k (faults k).place a.road (after k) = rw (← f) at (end_fault (omega arith)) in
        rw (e, eu) (sym g)

  -- it ends after all steps, or at the first fault
  ends : (P : EndAnswer → Type 0) → (K ≡ a.steps → P (end_with 0 0 0 a.road (after a.steps)))
      → (K < a.steps → P (end_with (faults K).number K (faults K).place a.road (after K))) → P (end_of a faults after)
  ends P all some = go (eqb K a.steps) refl
    where
      go : (b : Bool) → eqb K a.steps ≡ b → P (end_of a faults after)
      go true e = let q : K ≡ a.steps = eqb-true K a.steps e in rw (end_all q) (all q)
      go false e =
          let l : K < a.steps = omega (arith, step_within faults a.steps, eqb-false K a.steps e) in
          rw (end_fault l) (some l)

  -- the steps made, the state returned (the one after them) and the road
  pub end_made : steps_made a (end_of a faults after) ≡ K
  end_made = ends (λ (e : EndAnswer). steps_made a e ≡ K) sym (λ l. rw (ne_eqb (faults K).number 0 (step_there faults a.steps l)) refl)

  pub end_state : (end_of a faults after).state ≡ after K
  end_state = ends (λ (e : EndAnswer). e.state ≡ after K) (λ q. ap after (sym q)) (λ l. refl)

  pub end_road : (end_of a faults after).road ≡ a.road
  end_road = ends (λ (e : EndAnswer). e.road ≡ a.road) (λ q. refl) (λ l. refl)

  pub end_number : (end_of a faults after).number ≡ 0 → K ≡ a.steps
  end_number = ends (λ (e : EndAnswer). e.number ≡ 0 → K ≡ a.steps) (λ q z. q) (λ l z. absurd (step_there faults a.steps l z))

  -- if each step's fault comes with a state, so does the answer
  pub end_began : ((k : ℕ) → began (faults k).number ≡ true) → began (end_of a faults after).number ≡ true
  unfolding began one_of
  end_began h = ends (λ (e : EndAnswer). began e.number ≡ true) (λ q. refl) (λ l. h K)

-- the same faults and states, up to the first fault, give the same end
pub end_same : (a : Study) (faults faults' : ℕ → FaultAnswer) (after then : ℕ → State)
    → ((k : ℕ) → k ≤ first_step faults a.steps → k < a.steps → faults k ≡ faults' k)
    → ((k : ℕ) → k ≤ first_step faults a.steps → k ≤ a.steps → after k ≡ then k) → end_of a faults after ≡ end_of a faults' then
end_same a faults faults' after then hs ha =
    let T = a.steps in
    let K = first_step faults T in
    let h : Faultless (λ j. (faults' j).number) T K = record {
      within = step_within faults T;
      before = λ j m. sym (number_of_lem (hs j (omega arith) (omega (arith, step_within faults T)))) ∙ step_before faults T j m;
    } in
    ends a faults after (λ (e : EndAnswer). e ≡ end_of a faults' then)
    (λ q. ap (λ (k : ℕ). end_with 0 0 0 a.road (after k)) (sym q) ∙ ends_all a faults' then h (ha K (le_refl K) h.within) (omega (arith, q)))
    (λ l. ends_at a faults' then h (ha K (le_refl K) h.within) l (hs K (le_refl K) l) (step_there faults T l))

-- running and judging that go step by step have begun
pub run_began : (a : Study) → began (run_end a).number ≡ true
run_began a = end_began a (run_fault a) (engine_after a) (λ k. releases_class (road_at a k) (engine_after a k) (a.rows k))

pub judge_began : (a : Study) (zs : List ℕ) → began (judge_end a zs).number ≡ true
judge_began a zs =
    end_began a (judge_fault a zs) (scheduled_at a zs) (λ k. verdict_class (road_at a k) (scheduled_at a zs k) (a.rows k) (proposed_at a zs k))

-- if running has found no fault, each release fits; if judging has found none, the schedule obeys
pub run_fits : (a : Study) (k : ℕ) → ((j : ℕ) → j < k → (run_fault a j).number ≡ 0) → ReleasesFitUpTo a k
run_fits a k h j l = releases_fit (road_at a j) (engine_after a j) (a.rows j) (h j l)

pub judge_obeys : (a : Study) (zs : List ℕ) (k : ℕ) → ((j : ℕ) → j < k → (judge_fault a zs j).number ≡ 0) → ObeysUpTo a (proposed_at a zs) k
judge_obeys a zs k h j l = verdict_obeys (road_at a j) (scheduled_at a zs j) (a.rows j) (proposed_at a zs j) (h j l)

module _ (a : Study) (ok : StudyOk a) where
  pub run_reached : (k : ℕ) → k ≤ a.steps → ((j : ℕ) → j < k → (run_fault a j).number ≡ 0) → ReachedState a (engine_after a k) k
  run_reached k l h = engine_reached a ok k l (run_fits a k h)

  pub judge_reached : (zs : List ℕ) (k : ℕ) → k ≤ a.steps → ((j : ℕ) → j < k → (judge_fault a zs j).number ≡ 0) → ReachedState a (scheduled_at a zs k) k
  judge_reached zs k l h = reached a (proposed_at a zs) ok k l (judge_obeys a zs k h)

  -- a schedule that obeys the rules in its first k steps has no fault in them
  pub obeys_faults : (zs : List ℕ) (k : ℕ) → k ≤ a.steps → ObeysUpTo a (proposed_at a zs) k → k ≤ first_step (judge_fault a zs) a.steps
  obeys_faults zs k l h = faultless_far (record {
    within = l;
    before = λ j m. number_of_lem (obeys_verdict (road_at a j) (scheduled_at a zs j) (a.rows j) (proposed_at a zs j) (h j m));
  })

  -- the converse
  pub faults_obeys : (zs : List ℕ) → ObeysUpTo a (proposed_at a zs) (first_step (judge_fault a zs) a.steps)
  faults_obeys zs = judge_obeys a zs (first_step (judge_fault a zs) a.steps) (step_before (judge_fault a zs) a.steps)
