-- The results of the code's tests, in the terms of the definitions. Assumes nothing.
use Rattle.std.specs.Prelude.{◌≡◌, true, false, List, ℕ, ◌+◌, ◌≤◌, length}
use Rattle.std.proofs.Common.{sym, ap, subst, ◌∙◌, arith, eq-eqb}
use Rattle.std.proofs.Math.Path.{subst⁻¹}
use Rattle.model.specs.declared.Road.{Road}
use Rattle.model.specs.declared.State.{State}
use Rattle.model.specs.Numbers.{at, first_of}
use Rattle.model.specs.Refusals.{refusal_number, FaultAnswer, fault, fault_answer}
use Rattle.model.specs.Road.{most_cells, most_steps}
use Rattle.model.specs.Schedules.{with_capacity, ReleasesFit, outflows_of}
use Rattle.numbers.specs.FirstLaws.{first, all_at}
use Rattle.model.specs.Lanes.{open_capacities, lanes_at}
use Rattle.lanes.specs.LanesLaws.{lanes_facts}
use Rattle.model.specs.Limits.{input_ok}
use Rattle.limits.specs.LimitsLaws.{InputOk, input_facts}
use Rattle.model.specs.Move.{next_of}
use Rattle.theory.specs.RulesLaws.{Sized, length_outflows, outflows_obey}
use Rattle.model.specs.Stepping.{Answer, releases_of, answer, step_on, stepping_of}
use Rattle.theory.specs.StepLaws.{releases_fit, on_done, on_refused, on_next, stepping_input, stepping_lanes, stepping_on}
use Rattle.theory.specs.Roads.{step_state, step_row}
use Rattle.theory.specs.OpenRoad.{open_road_ok}
use Rattle.stepping.specs.StepNeeds.{Movable, Steppable}
use Rattle.model.specs.declared.Fault.{Fault}

-- the engine's row may be used for a move, and the state after it is the next state
module _ {r : Road} {s : State} {row y : List ℕ} (ok : Steppable r s row) (e : y ≡ outflows_of r s row) where
  pub movable : Movable r s row y
  movable = rw e (record { input = ok.input; sized = ok.sized; places = length_outflows r s row; obeys = outflows_obey r s row ok.released })

  pub next_by_outflows : {t : State} → t ≡ next_of r s row y → t ≡ next_of r s row (outflows_of r s row)
  next_by_outflows h = h ∙ ap (next_of r s row) e

-- the arrays of a state have an entry for each cell of a road within its limits
pub sized : (r : Road) (s : State) → r.n ≤ most_cells → length s.held ≡ most_cells → length s.queue ≡ most_cells → length s.cumulative ≡ most_cells
    → Sized r s
sized r s n h q c = record { held = omega arith; queue = omega arith; cumulative = omega arith }

-- what a step on its road requires: its input is within the limits, and the state's arrays have an entry for each cell
pub record StepInputOk (r : Road) (s : State) (row : List ℕ) : Type 0 where
  pub input : InputOk r s row
  pub sized : Sized r s

-- 8 does not apply, and the code has tested the releases: the fault that it found, and its number
pub record ReleaseFinding (r : Road) (s : State) (row : List ℕ) (q : Fault) (m : ℕ) : Type 0 where
  pub input : StepInputOk r s row
  pub left : s.done ≡ most_steps → ⊥
  pub found : fault_answer q ≡ releases_of r s row
  pub number : m ≡ refusal_number q.refusal

-- the answers of a step on its road
module _ {r : Road} {s : State} {row : List ℕ} where
  pub answer_done : StepInputOk r s row → s.done ≡ most_steps → answer (fault 8 0) s ≡ step_on r s row
  answer_done k h = sym (on_done r s row h)

  module _ {q : Fault} {m : ℕ} (k : ReleaseFinding r s row q m) where
    number_found : m ≡ (releases_of r s row).number
    number_found = k.number ∙ ap (λ (x : FaultAnswer). x.number) k.found

    pub answer_fault : (m ≡ 0 → ⊥) → answer (fault_answer q) s ≡ step_on r s row
    answer_fault n =
        ap (λ (x : FaultAnswer). answer x s) k.found ∙ sym (on_refused r s row k.left (λ z. n (number_found ∙ z)))

    fits : m ≡ 0 → ReleasesFit r s row
    fits z = releases_fit r s row (sym number_found ∙ z)

    pub steppable : m ≡ 0 → Steppable r s row
    steppable z =
        let w = k.input.input in
        record { input = w; sized = k.input.sized; released = fits z; left = omega (arith, k.left, w.state.done) }

    pub answer_next : {t : State} → m ≡ 0 → t ≡ next_of r s row (outflows_of r s row) → answer (fault 0 0) t ≡ step_on r s row
    answer_next z e = ap (answer (fault 0 0)) e ∙ sym (on_next r s row k.left (fits z))

-- the answers of a step: 7
module _ (r : Road) (s : State) (row built usable : List ℕ) where
  pub answer_input : input_ok r s row ≡ false → answer (fault 7 0) s ≡ stepping_of r s row built usable
  answer_input h = sym (stepping_input r s row built usable h)

  -- 18 or none: the code has tested the lanes and found the cell
  module _ (input : input_ok r s row ≡ true) {cell : ℕ} (found : cell ≡ first_of (lanes_at built usable) r.n) where
    pub cell_within : cell ≤ r.n
    cell_within = omega (arith, found, (first (lanes_at built usable) r.n).within)

    pub answer_lanes : (cell ≡ r.n → ⊥) → answer (fault 18 (cell + 1)) s ≡ stepping_of r s row built usable
    answer_lanes h =
        ap (λ (i : ℕ). answer (fault 18 (i + 1)) s) found ∙ sym (stepping_lanes r s row built usable input (λ e. h (found ∙ e)))

    -- the step is made on the road with the capacities that the open lanes leave, which is within the limits
    module _ (e : cell ≡ r.n) {left : List ℕ} (el : left ≡ open_capacities r.capacity built usable r.n) where
      pub answer_on : {a : Answer} → a ≡ step_on (with_capacity r left) s row → a ≡ stepping_of r s row built usable
      answer_on {a} h =
          subst (λ (c : List ℕ). a ≡ step_on (with_capacity r c) s row) el h ∙ sym (stepping_on r s row built usable input (sym found ∙ e))

      pub steps_on_lem : r.n ≤ length r.capacity → Sized r s → StepInputOk (with_capacity r left) s row
      steps_on_lem l z =
          let k = input_facts r s row input in
          let all = all_at (lanes_at built usable) r.n (eq-eqb (first_of (lanes_at built usable) r.n) r.n (sym found ∙ e)) in
          let q = open_road_ok r built usable k.road l (λ i m. (lanes_facts (at built i) (at usable i) (all i m)).within) in
          subst⁻¹ (λ (c : List ℕ). StepInputOk (with_capacity r c) s row) el (record {
            input = record { road = q.ok; state = step_state q s k.state; row = step_row q row k.row };
            sized = record { held = z.held; queue = z.queue; cumulative = z.cumulative };
          })
