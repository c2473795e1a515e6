-- The invariant of the loop over the steps of a schedule, and the answers of judging. Assumes nothing.
use Rattle.std.specs.Prelude.{◌≡◌, refl, List, ℕ, ◌+◌, ◌≤◌, ◌<◌, length}
use Rattle.std.proofs.Common.{sym, ap, ◌∙◌}
use Rattle.std.proofs.Math.Numerals.{add-one}
use Rattle.numbers.specs.FirstLaws.{Faultless, faultless_none, faultless_more}
use Rattle.model.specs.Refusals.{FaultAnswer}
use Rattle.model.specs.declared.Road.{Road}
use Rattle.model.specs.declared.State.{State}
use Rattle.model.specs.Schedules.{Study, road_at, places, schedule_after, proposed_at, scheduled_at}
use Rattle.theory.specs.StepLaws.{number_of_lem}
use Rattle.theory.specs.RunsLaws.{StudyOk, StepOf}
use Rattle.theory.proofs.RunsLaws.{step_road_lem, step_input, step_sized, step_left}
use Rattle.model.specs.Judging.{judge_fault, judge_end}
use Rattle.model.specs.Running.{EndAnswer, end_with}
use Rattle.theory.proofs.SchedulesLaws.{judge_reached, ends_all, ends_at}
use Rattle.judging.specs.JudgedStep.{JudgeStepLent, JudgeStepGives}

-- the schedule obeys in the first k steps, and u is its own state after them
pub record ObeyedSteps (a : Study) (zs : List ℕ) (u : State) (k : ℕ) : Type 0 where
  pub state : u ≡ scheduled_at a zs k
  pub faultless : Faultless (λ j. (judge_fault a zs j).number) a.steps k

-- a turn of the loop: q is the step's road, and the code holds the row of step k and the schedule's row of outflows
pub record JudgeTurn (a : Study) (zs : List ℕ) (u : State) (k : ℕ) (q : Road) (row y : List ℕ) : Type 0 where
  pub ok : StudyOk a
  pub obeyed : ObeyedSteps a zs u k
  pub left : k < a.steps
  pub road : q ≡ road_at a k
  pub numbers : row ≡ a.rows k
  pub outflows : y ≡ proposed_at a zs k
  pub size : length y ≡ places a

module _ {a : Study} {zs : List ℕ} where
  pub obeyed_none : ObeyedSteps a zs a.start 0
  unfolding schedule_after
  obeyed_none = record { state = refl; faultless = faultless_none }

  -- the end after all steps
  pub obeyed_end : {u : State} {k : ℕ} → ObeyedSteps a zs u k → {e : EndAnswer} → a.steps ≤ k → e ≡ end_with 0 0 0 a.road u → e ≡ judge_end a zs
  obeyed_end h l g = g ∙ ends_all a (judge_fault a zs) (scheduled_at a zs) h.faultless h.state l

  module _ {u : State} {k : ℕ} {q : Road} {row y : List ℕ} (t : JudgeTurn a zs u k q row y) where
    this_step : StepOf a q u row k
    this_step = record {
      ok = t.ok;
      left = t.left;
      road = t.road;
      numbers = t.numbers;
      reached = rw t.obeyed.state (judge_reached a t.ok zs k t.obeyed.faultless.within t.obeyed.faultless.before);
    }

    -- the step may be judged and made
    pub judge_step_ready : JudgeStepLent q.n q.gate_capacity q.speed q.wave q.share q.jam q.capacity u row y
    judge_step_ready = record {
      road = q;
      input = step_input this_step;
      sized = step_sized this_step;
      left = step_left this_step;
      places = t.size ∙ ap (λ (n : ℕ). n + 1) (sym (step_road_lem this_step).n);
    }

    module _ {f : FaultAnswer} {v : State} (j : JudgeStepGives q u row y f v) where
      pub fault_is : f ≡ judge_fault a zs k
      fault_is = rw (j.found, t.road, t.obeyed.state, t.numbers, t.outflows)

      -- the end at a fault
      pub ends_fault : {x : EndAnswer} → (f.number ≡ 0 → ⊥) → x ≡ end_with f.number k f.place a.road v → x ≡ judge_end a zs
      ends_fault n g =
          g ∙ ends_at a (judge_fault a zs) (scheduled_at a zs) t.obeyed.faultless (j.kept n ∙ t.obeyed.state) t.left fault_is n

      -- without a fault the next turn follows
      pub obeyed_more : f.number ≡ 0 → ObeyedSteps a zs v (k + 1)
      unfolding schedule_after
      obeyed_more z = record {
        state = rw (j.moved z, t.road, t.obeyed.state, t.numbers, t.outflows, add-one k);
        faultless = faultless_more t.obeyed.faultless t.left (number_of_lem fault_is) z;
      }
