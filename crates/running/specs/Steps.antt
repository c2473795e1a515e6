-- The invariant of a loop over the steps of the engine's run about its state, and its end. Assumes nothing.
use Rattle.std.specs.Prelude.{◌≡◌, refl, List, ℕ, ◌+◌, ◌≤◌, ◌<◌, length}
use Rattle.std.proofs.Common.{sym, ap, ◌∙◌, arith}
use Rattle.std.proofs.Math.Numerals.{add-one}
use Rattle.numbers.specs.FirstLaws.{Faultless, faultless_none, faultless_more, faultless_stop, faultless_end}
use Rattle.model.specs.Refusals.{FaultAnswer}
use Rattle.model.specs.declared.Road.{Road}
use Rattle.model.specs.declared.State.{State}
use Rattle.model.specs.Schedules.{Study, road_at, places, outflows_of, engine_after, outflows_at}
use Rattle.model.specs.Move.{next_of}
use Rattle.model.specs.Stepping.{releases_of}
use Rattle.theory.specs.StepLaws.{number_of_lem}
use Rattle.theory.specs.RunsLaws.{StudyOk, ReachedState, StepOf}
use Rattle.theory.proofs.RunsLaws.{step_road_lem, step_input, step_sized, step_left}
use Rattle.model.specs.Record.{record_row}
use Rattle.fields.specs.FieldsLaws.{HoldsRow}
use Rattle.outflows.specs.declared.Ledger.{Ledger}
use Rattle.passes.specs.Tables.{Table, state_in}
use Rattle.passes.specs.Step.{Arrays, StepRequires}
use Rattle.model.specs.Running.{run_fault, first_step, EndAnswer, end_with, run_end}
use Rattle.theory.proofs.SchedulesLaws.{ends_at, ends_all, run_reached}

-- k steps are made without a fault, and u is the state after them
pub record FaultlessSteps (a : Study) (u : State) (k : ℕ) : Type 0 where
  pub state : u ≡ engine_after a k
  pub faultless : Faultless (λ j. (run_fault a j).number) a.steps k

-- a turn of the loop: q is the step's road, and the code holds the row of step k
pub record RunTurn (a : Study) (u : State) (k : ℕ) (q : Road) (row : List ℕ) : Type 0 where
  pub ok : StudyOk a
  pub ran : FaultlessSteps a u k
  pub left : k < a.steps
  pub road : q ≡ road_at a k
  pub numbers : row ≡ a.rows k

module _ {a : Study} where
  -- the state is within the limits
  pub ran_reached : {u : State} {k : ℕ} → StudyOk a → FaultlessSteps a u k → ReachedState a u k
  ran_reached {k = k} ok h = rw h.state (run_reached a ok k h.faultless.within h.faultless.before)

  pub ran_none : FaultlessSteps a a.start 0
  unfolding engine_after
  ran_none = record { state = refl; faultless = faultless_none }

  -- all steps are made
  module _ {u : State} {k : ℕ} (h : FaultlessSteps a u k) (end : a.steps ≤ k) where
    pub all_ran : k ≡ a.steps
    all_ran = omega (arith, h.faultless.within)

    pub steps_all : k ≡ first_step (run_fault a) a.steps
    steps_all = faultless_end h.faultless end

    pub ends_ran : {e : EndAnswer} → e ≡ end_with 0 0 0 a.road u → e ≡ run_end a
    ends_ran g = g ∙ ends_all a (run_fault a) (engine_after a) h.faultless h.state end

  module _ {u : State} {k : ℕ} {q : Road} {row : List ℕ} (t : RunTurn a u k q row) where
    this_step : StepOf a q u row k
    this_step = record {
      ok = t.ok;
      left = t.left;
      road = t.road;
      numbers = t.numbers;
      reached = ran_reached t.ok t.ran;
    }

    pub same_places : {m : ℕ} → m ≡ places a → m ≡ q.n + 1
    same_places e = e ∙ ap (λ (n : ℕ). n + 1) (sym (step_road_lem this_step).n)

    -- the code's row of outflows is the engine's row of the step
    pub row_is : {y : List ℕ} → y ≡ outflows_of q u row → y ≡ outflows_at a k
    row_is e = rw (e, t.road, t.ran.state, t.numbers)

    -- running's fault of the step is the code's
    module _ {f : FaultAnswer} (e : f ≡ releases_of q u row) where
      fault_is : f ≡ run_fault a k
      fault_is = rw (e, t.road, t.ran.state, t.numbers)

      -- a fault ends the run before the step
      pub ends_fault : {x : EndAnswer} → (f.number ≡ 0 → ⊥) → x ≡ end_with f.number k f.place a.road u → x ≡ run_end a
      ends_fault n g = g ∙ ends_at a (run_fault a) (engine_after a) t.ran.faultless t.ran.state t.left fault_is n

      pub steps_fault : (f.number ≡ 0 → ⊥) → k ≡ first_step (run_fault a) a.steps
      steps_fault n = faultless_stop t.ran.faultless t.left (number_of_lem fault_is) n

      -- without a fault one more step is made
      pub ran_more : f.number ≡ 0 → {v : State} → v ≡ next_of q u row (outflows_of q u row) → FaultlessSteps a v (k + 1)
      unfolding engine_after
      ran_more z ev = record {
        state = rw (ev, t.road, t.ran.state, t.numbers, add-one k);
        faultless = faultless_more t.ran.faultless t.left (number_of_lem fault_is) z;
      }

-- the passes of a turn require only the arrays and a row
pub step_ready : {a : Study} {l : Ledger} {state work : Table} {k : ℕ} {q : Road} {bytes : List ℕ} {ramps : ℕ} {cell y : List ℕ}
    → RunTurn a (state_in l state) k q (record_row bytes q.n k) → HoldsRow bytes q.n k → Arrays q ramps cell state work
    → length y ≡ q.n + 1 → StepRequires bytes k q ramps cell l state work y
step_ready t holds arrays places = record {
  input = step_input (this_step t);
  sized = step_sized (this_step t);
  left = step_left (this_step t);
  holds = holds;
  arrays = arrays;
  places = places;
}
