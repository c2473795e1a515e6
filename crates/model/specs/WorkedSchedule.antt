-- docs/MODEL.md, 'A run printed whole': the run and the schedule that sends nothing, with all lanes open and with a lane closed. The facts are in
-- proofs/WorkedSchedule. Assumes nothing.
use Rattle.std.specs.Prelude.{◌≡◌, List, [], ◌∷◌, ℕ, length, replicate}
use Rattle.model.specs.Road.{total_of}
use Rattle.model.specs.Move.{exits_of}
use Rattle.model.specs.Schedules.{table_size}
use Rattle.model.specs.Demand.{Openable}
use Rattle.model.specs.Reading.{study_of}
use Rattle.model.specs.Running.{EndAnswer, running_of, steps_made}
use Rattle.model.specs.Judging.{judging_of}
use Rattle.model.specs.WorkedRecord.{sample}

-- a schedule that sends nothing
abbrev pub still : List ℕ
still = replicate 9 0

-- of an answer: steps made, total, ramp time and exits
abbrev shown : List ℕ → EndAnswer → List ℕ
shown lanes e = steps_made (study_of sample lanes) e ∷ total_of e.state ∷ e.state.ramp_time ∷ exits_of e.road e.state ∷ []

-- running's and judging's numbers under a table of lanes
pub record BothNumbers (lanes fast slow : List ℕ) : Type 0 where
  pub run : shown lanes (running_of sample lanes still) ≡ fast
  pub judged : shown lanes (judging_of sample lanes still) ≡ slow

-- the record reads, and both make all three steps
pub record Both : Type 0 where
  pub openable : Openable sample []
  pub right : length still ≡ table_size (study_of sample [])
  pub run : steps_made (study_of sample []) (running_of sample [] still) ≡ 3
  pub judged : steps_made (study_of sample []) (judging_of sample [] still) ≡ 3

-- works: cell 1 has one lane, cell 2 has two, of which one is closed in step 1
abbrev pub works : List ℕ
works = 1 ∷ 3 ∷ 1 ∷ 3 ∷ 1 ∷ 1 ∷ 1 ∷ 3 ∷ []

-- the table has no fault, and both make all three steps under it
pub record BothClosed : Type 0 where
  pub openable : Openable sample works
  pub run : steps_made (study_of sample works) (running_of sample works still) ≡ 3
  pub judged : steps_made (study_of sample works) (judging_of sample works still) ≡ 3
