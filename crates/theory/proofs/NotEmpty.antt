-- Demand 3 is not empty: on the printed run the all-zero schedule reaches all three steps, with total 40500 against 33098; with a lane closed
-- by works it does too, against 34431. Assumes nothing.
use Rattle.std.specs.Prelude.{◌≡◌, [], length}
use Rattle.std.proofs.Common.{arith}
use Rattle.model.specs.Schedules.{table_size, scheduled_at}
use Rattle.model.specs.Reading.{study_of}
use Rattle.model.specs.WorkedRecord.{sample}
use Rattle.model.specs.Running.{list_after}
use Rattle.model.specs.Demand.{Ahead, Reaches}
use Rattle.theory.proofs.DemandWhole.{demand_and_grounds}
use Rattle.model.specs.WorkedSchedule.{still, works}
use Rattle.model.proofs.WorkedSchedule.{both, both_closed}

-- the schedule reaches all three steps
pub still_reaches : Reaches (study_of sample []) still 3
still_reaches =
    let right : length still ≡ table_size (study_of sample []) = both.right in
    rw both.judged at ((demand_and_grounds sample [] both.openable still).grounds.reached still right)

-- the written rows are ahead of it
pub ahead_of_still : Ahead (study_of sample []).road (scheduled_at (study_of sample []) (list_after sample [] still) 3) (scheduled_at (study_of sample []) still 3)
ahead_of_still = (demand_and_grounds sample [] both.openable still).demand.ahead still 3 (omega (arith, both.run)) still_reaches

-- with works the schedule reaches all three steps too, and the written rows are ahead of it
pub still_reaches_closed : Reaches (study_of sample works) still 3
still_reaches_closed =
    let right : length still ≡ table_size (study_of sample works) = both.right in
    rw both_closed.judged at ((demand_and_grounds sample works both_closed.openable still).grounds.reached still right)

pub ahead_of_still_closed : Ahead (study_of sample works).road (scheduled_at (study_of sample works) (list_after sample works still) 3)
    (scheduled_at (study_of sample works) still 3)
ahead_of_still_closed = (demand_and_grounds sample works both_closed.openable still).demand.ahead still 3 (omega (arith, both_closed.run)) still_reaches_closed
