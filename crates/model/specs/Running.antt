-- docs/MODEL.md, 'Running': step by step over the rows of a study. Assumes nothing.
use Rattle.std.specs.Prelude.{cond, List, ℕ, leb, eqb, length}
use Rattle.model.specs.declared.State.{State}
use Rattle.model.specs.declared.Ended.{Ended}
use Rattle.model.specs.declared.Road.{Road}
use Rattle.model.specs.Numbers.{unless, first_fault, front_of}
use Rattle.model.specs.Road.{empty_road, empty_state}
use Rattle.model.specs.Schedules.{Study, road_at, places, table_size, engine_after, outflows_at}
use Rattle.model.specs.Refusals.{refusal_number, FaultAnswer}
use Rattle.model.specs.Reading.{ReadAnswer, refused_of, reading_of, study_of}
use Rattle.model.specs.Stepping.{releases_of, table_fault}

-- running's fault in step k: 9 or 10
abbrev pub run_fault : Study → ℕ → FaultAnswer
run_fault a k = releases_of (road_at a k) (engine_after a k) (a.rows k)

-- the first of T steps that has a fault, T if none has one
abbrev pub first_step : (ℕ → FaultAnswer) → ℕ → ℕ
first_step faults T = first_fault (λ k. (faults k).number) T

-- what running and judging answer: the refusal's number or 0, step, place, road and state
pub record EndAnswer : Type 0 where
  pub number : ℕ
  pub step : ℕ
  pub place : ℕ
  pub road : Road
  pub state : State

abbrev pub end_with : ℕ → ℕ → ℕ → Road → State → EndAnswer
end_with number step place r s = record { number = number; step = step; place = place; road = r; state = s }

-- the code's answer, in the model's numbers
abbrev pub end_answer : Ended → EndAnswer
end_answer e = end_with (refusal_number e.refusal) e.step e.place e.road e.state

-- a fault comes with its step, its place and the state before that step; otherwise the final state is given
unfoldable pub end_of : Study → (ℕ → FaultAnswer) → (ℕ → State) → EndAnswer
end_of a faults after =
    let k = first_step faults a.steps in
    cond (eqb k a.steps)
    (end_with 0 0 0 a.road (after a.steps))
    (end_with (faults k).number k (faults k).place a.road (after k))

-- a refusal that names no state gives an all-zero road and state
abbrev pub no_state : ℕ → ℕ → EndAnswer
no_state number place = end_with number 0 place empty_road empty_state

-- how running ends, step by step
abbrev pub run_end : Study → EndAnswer
run_end a = end_of a (run_fault a) (engine_after a)

-- 17 and then 18, for the study's table of lanes
abbrev pub lanes_fault : Study → FaultAnswer
lanes_fault a = table_fault a.lanes a.road.n a.steps

-- a record is opened with a table of lanes: the refusals of reading, then 17 and 18; otherwise reading's answer
unfoldable pub opening_of : List ℕ → List ℕ → ReadAnswer
opening_of bytes lanes =
    let f = lanes_fault (study_of bytes lanes) in
    unless (eqb (reading_of bytes).number 0) (reading_of bytes)
    (unless (eqb f.number 0) (refused_of f.number f.place)
    (reading_of bytes))

-- running and judging give the same refusal for a record that isn't opened
abbrev pub unless_opened : List ℕ → List ℕ → EndAnswer → EndAnswer
unless_opened bytes lanes e =
    unless (eqb (opening_of bytes lanes).number 0) (no_state (opening_of bytes lanes).number (opening_of bytes lanes).place) e

-- running takes a record, a table of lanes and a lent list: 11, a list shorter than T × (n + 1); then 9 or 10 with its step and cell
unfoldable pub running_of : List ℕ → List ℕ → List ℕ → EndAnswer
running_of bytes lanes list =
    unless_opened bytes lanes
    (unless (leb (table_size (study_of bytes lanes)) (length list)) (no_state 11 0)
    (run_end (study_of bytes lanes)))

-- how many steps an answer has made: all T, or those before the refused one (none if no step is named)
abbrev pub steps_made : Study → EndAnswer → ℕ
steps_made a e = cond (eqb e.number 0) a.steps e.step

-- the lent list with the engine's rows of the first k steps written in front
abbrev pub table_of : Study → List ℕ → ℕ → List ℕ
table_of a list k = front_of (outflows_at a) (places a) list k

-- the lent list after running: the rows of the steps made are written, and nothing else
unfoldable pub list_after : List ℕ → List ℕ → List ℕ → List ℕ
list_after bytes lanes list = table_of (study_of bytes lanes) list (steps_made (study_of bytes lanes) (running_of bytes lanes list))
