-- One step of a schedule, judged and made: what it requires, and what holds after it. Assumes nothing.
use Rattle.std.specs.Prelude.{◌≡◌, List, ℕ, ◌+◌, ◌<◌, length}
use Rattle.std.proofs.Common.{sym, ◌∙◌}
use Rattle.model.specs.Refusals.{FaultAnswer}
use Rattle.model.specs.Road.{most_steps}
use Rattle.model.specs.declared.Road.{Road}
use Rattle.model.specs.declared.State.{State}
use Rattle.limits.specs.LimitsLaws.{InputOk}
use Rattle.model.specs.Move.{next_of}
use Rattle.theory.specs.RulesLaws.{Sized}
use Rattle.theory.specs.StepLaws.{number_of_lem}
use Rattle.model.specs.Judging.{verdict_of}
use Rattle.theory.specs.VerdictLaws.{verdict_obeys}
use Rattle.outflows.specs.Columns.{road_of}
use Rattle.stepping.specs.StepNeeds.{Movable}
use Rattle.judging.specs.ProposedRow.{RowLengths}

-- it requires: on some road with these columns everything is within the limits, a step is left, and the rows have all their numbers
pub record JudgeStepLent (n gate : ℕ) (speed wave share jam capacity : List ℕ) (s : State) (row y : List ℕ) : Type 0 where
  pub road : Road
  pub input : InputOk (road_of road n gate speed wave share jam capacity) s row
  pub sized : Sized (road_of road n gate speed wave share jam capacity) s
  pub left : s.done < most_steps
  pub places : length y ≡ n + 1

module _ {n gate : ℕ} {speed wave share jam capacity : List ℕ} {s : State} {row y : List ℕ}
    (h : JudgeStepLent n gate speed wave share jam capacity s row y) where
  pub row_lengths : RowLengths n row y
  row_lengths = record { cells = h.input.road.cells; numbers = h.input.row.numbers; places = h.places }

  -- a row without a fault may be used for the move
  pub movable : {f : FaultAnswer} → f ≡ verdict_of (road_of h.road n gate speed wave share jam capacity) s row y → f.number ≡ 0
      → Movable (road_of h.road n gate speed wave share jam capacity) s row y
  movable e z = record {
    input = h.input;
    sized = h.sized;
    places = h.places;
    obeys = verdict_obeys (road_of h.road n gate speed wave share jam capacity) s row y (sym (number_of_lem e) ∙ z);
  }

-- its fault, and the state t after it: the state before it if there is a fault
pub record JudgeStepGives (q : Road) (s : State) (row y : List ℕ) (f : FaultAnswer) (t : State) : Type 0 where
  pub found : f ≡ verdict_of q s row y
  pub moved : f.number ≡ 0 → t ≡ next_of q s row y
  pub kept : (f.number ≡ 0 → ⊥) → t ≡ s
