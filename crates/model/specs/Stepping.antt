-- docs/MODEL.md, 'Stepping': the refusals 7, 18 and 8 to 10 in their order, and the answer of a step; 17 and 18 of a table of lanes. Assumes nothing.
use Rattle.std.specs.Prelude.{cond, List, ℕ, ◌+◌, leb, eqb, length}
use Rattle.model.specs.declared.State.{State}
use Rattle.model.specs.declared.Stepped.{Stepped}
use Rattle.model.specs.declared.Road.{Road}
use Rattle.model.specs.Numbers.{unless, unless_first, first_fault}
use Rattle.model.specs.Road.{most_steps}
use Rattle.model.specs.Flow.{release_at, most_release_at, supply_at}
use Rattle.model.specs.Move.{next_of}
use Rattle.model.specs.Lanes.{lanes_at, table_at, table_bytes}
use Rattle.model.specs.Schedules.{open_road, outflows_of}
use Rattle.model.specs.Refusals.{fault, FaultAnswer, refusal_number}
use Rattle.model.specs.Limits.{input_ok}

-- the fault of the lowest of n cells or places that has one; `base` is the place of the first
unfoldable pub lowest_of : (ℕ → ℕ) → ℕ → ℕ → FaultAnswer
lowest_of f n base = cond (eqb (first_fault f n) n) (fault 0 0) (fault (f (first_fault f n)) (first_fault f n + base))

-- at one cell: 9, release above queue plus arrivals, before 10, release above supply
abbrev pub release_fault : ℕ → ℕ → ℕ → ℕ
release_fault release most supply = unless (leb release most) 9 (unless (leb release supply) 10 0)

abbrev pub release_fault_at : Road → State → List ℕ → ℕ → ℕ
release_fault_at r s row i = release_fault (release_at row i) (most_release_at s row i) (supply_at r s i)

-- the fault of the lowest cell with either
abbrev pub releases_of : Road → State → List ℕ → FaultAnswer
releases_of r s row = lowest_of (release_fault_at r s row) r.n 1

-- what stepping answers: the refusal's number or 0, step and place, and a state
pub record Answer : Type 0 where
  pub number : ℕ
  pub step : ℕ
  pub place : ℕ
  pub state : State

-- a step or place that no rule names is 0; stepping never names a step
abbrev pub answer : FaultAnswer → State → Answer
answer q s = record { number = q.number; step = 0; place = q.place; state = s }

-- the next state if no release has a fault; a refusal returns the state given
abbrev pub settled_of : Road → State → List ℕ → FaultAnswer → Answer
settled_of r s row q = unless (eqb q.number 0) (answer q s) (answer q (next_of r s row (outflows_of r s row)))

-- 8: 1,440 steps are done; then 9 or 10, on the step's road
abbrev pub step_on : Road → State → List ℕ → Answer
step_on q s row = cond (eqb s.done most_steps) (answer (fault 8 0) s) (settled_of q s row (releases_of q s row))

-- 7, a limit is broken; 18, no lane built or an open lane that isn't built, at the lowest such cell; then 8, 9 or 10
unfoldable pub stepping_of : Road → State → List ℕ → List ℕ → List ℕ → Answer
stepping_of r s row built usable =
    unless (input_ok r s row) (answer (fault 7 0) s)
    (unless_first (lanes_at built usable) r.n (λ i. answer (fault 18 (i + 1)) s)
    (step_on (open_road r built usable) s row))

-- the faults of a table of lanes: 17, neither empty nor of n × (T + 1) bytes; 18, at the lowest such cell over all rows
unfoldable pub table_fault : List ℕ → ℕ → ℕ → FaultAnswer
table_fault table n T =
    cond (eqb (length table) 0) (fault 0 0)
    (unless (eqb (length table) (table_bytes n T)) (fault 17 0)
    (unless_first (table_at table n T) n (λ i. fault 18 (i + 1)) (fault 0 0)))

-- the code's answer, in the model's numbers
abbrev pub step_answer : Stepped → Answer
step_answer a = record { number = refusal_number a.refusal; step = a.step; place = a.place; state = a.state }
