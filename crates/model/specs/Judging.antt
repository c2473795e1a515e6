-- docs/MODEL.md, 'Judging': the verdict on one row of a proposed schedule, and on all; 'History': its states after each step, as tables.
-- Assumes nothing.
use Rattle.std.specs.Prelude.{cond, List, ℕ, ◌+◌, zero, suc, leb, ltb, eqb, length}
use Rattle.model.specs.declared.State.{State}
use Rattle.model.specs.declared.Road.{Road}
use Rattle.model.specs.Numbers.{at, unless, list_of, front_of}
use Rattle.model.specs.Flow.{demand_at, room_at, entering_at}
use Rattle.model.specs.Schedules.{Study, road_at, table_size, proposed_at, scheduled_at, places}
use Rattle.model.specs.Refusals.{FaultAnswer}
use Rattle.model.specs.Reading.{study_of}
use Rattle.model.specs.Stepping.{lowest_of, releases_of}
use Rattle.model.specs.Running.{EndAnswer, end_of, no_state, unless_opened, steps_made}

-- at a place before the last: 13, outflow above demand, before 14, more enters the next cell than its room
abbrev pub outflow_fault : ℕ → ℕ → ℕ → ℕ → ℕ
outflow_fault outflow demand entering room = unless (leb outflow demand) 13 (unless (leb entering room) 14 0)

-- at the last place, which no cell follows: only 13
abbrev pub last_fault : ℕ → ℕ → ℕ
last_fault outflow demand = unless (leb outflow demand) 13 0

-- the fault of place p with its outflow in y
unfoldable pub outflow_fault_at : Road → State → List ℕ → List ℕ → ℕ → ℕ
outflow_fault_at r s row y p =
    cond (ltb p r.n)
    (outflow_fault (at y p) (demand_at r s p) (entering_at r s y p) (room_at r s row p))
    (last_fault (at y p) (demand_at r s p))

-- the fault of the lowest place with either; the place of 14 is the sender
abbrev pub outflows_fault_of : Road → State → List ℕ → List ℕ → FaultAnswer
outflows_fault_of r s row y = lowest_of (outflow_fault_at r s row y) (r.n + 1) 0

-- 9 or 10 as in stepping, and then 13 or 14
unfoldable pub verdict_of : Road → State → List ℕ → List ℕ → FaultAnswer
verdict_of r s row y = unless (eqb (releases_of r s row).number 0) (releases_of r s row) (outflows_fault_of r s row y)

-- judging's fault in step k: 9 or 10 as in stepping, then 13 before 14
abbrev pub judge_fault : Study → List ℕ → ℕ → FaultAnswer
judge_fault a zs k = verdict_of (road_at a k) (scheduled_at a zs k) (a.rows k) (proposed_at a zs k)

-- the end of judging: at the first row that breaks a rule, or after all T steps
abbrev pub judge_end : Study → List ℕ → EndAnswer
judge_end a zs = end_of a (judge_fault a zs) (scheduled_at a zs)

-- judging takes a record, a table of lanes and a proposed schedule: 12, a list not of length T × (n + 1); then, step by step, 9 or 10, and 13 or 14
unfoldable pub judging_of : List ℕ → List ℕ → List ℕ → EndAnswer
judging_of bytes lanes zs =
    unless_opened bytes lanes
    (unless (eqb (length zs) (table_size (study_of bytes lanes))) (no_state 12 0)
    (judge_end (study_of bytes lanes) zs))

-- docs/MODEL.md, 'History'.

-- a row of places: the gate's number, then each cell's
abbrev pub place_number : ℕ → List ℕ → ℕ → ℕ
place_number gate cells zero = gate
place_number gate cells (suc i) = at cells i

abbrev pub places_of : ℕ → List ℕ → ℕ → List ℕ
places_of gate cells n = list_of (place_number gate cells) (n + 1)

-- the rows after step k of a schedule: the gate's queue and each cell's held count; and 0 and each ramp's queue
abbrev pub held_row : Study → List ℕ → ℕ → List ℕ
held_row a zs k = places_of (scheduled_at a zs (suc k)).gate_queue (scheduled_at a zs (suc k)).held a.road.n

abbrev pub queue_row : Study → List ℕ → ℕ → List ℕ
queue_row a zs k = places_of 0 (scheduled_at a zs (suc k)).queue a.road.n

-- a lent list with the first k of these rows written in front
abbrev pub held_table : Study → List ℕ → List ℕ → ℕ → List ℕ
held_table a zs list k = front_of (held_row a zs) (places a) list k

abbrev pub queue_table : Study → List ℕ → List ℕ → ℕ → List ℕ
queue_table a zs list k = front_of (queue_row a zs) (places a) list k

-- history takes a record, a table of lanes, a schedule and two lent lists. Its refusals are judging's, and after 12 also 11, a list shorter than T × (n + 1)
unfoldable pub history_of : List ℕ → List ℕ → List ℕ → List ℕ → List ℕ → EndAnswer
history_of bytes lanes zs held queue =
    unless_opened bytes lanes
    (unless (eqb (length zs) (table_size (study_of bytes lanes))) (no_state 12 0)
    (unless (leb (table_size (study_of bytes lanes)) (length held)) (no_state 11 0)
    (unless (leb (table_size (study_of bytes lanes)) (length queue)) (no_state 11 0)
    (judge_end (study_of bytes lanes) zs))))

-- the lent lists afterwards: the rows of the steps made are written, and nothing else
unfoldable pub held_after : List ℕ → List ℕ → List ℕ → List ℕ → List ℕ → List ℕ
held_after bytes lanes zs held queue =
    held_table (study_of bytes lanes) zs held (steps_made (study_of bytes lanes) (history_of bytes lanes zs held queue))

unfoldable pub queue_after : List ℕ → List ℕ → List ℕ → List ℕ → List ℕ → List ℕ
queue_after bytes lanes zs held queue =
    queue_table (study_of bytes lanes) zs queue (steps_made (study_of bytes lanes) (history_of bytes lanes zs held queue))
