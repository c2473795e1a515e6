-- docs/MODEL.md, 'Going on': running, judging, history and filling from a state over the rows of a further record. Assumes nothing.
use Rattle.std.specs.Prelude.{Bool, ◌&&◌, List, ℕ, ◌+◌, leb, eqb, length}
use Rattle.model.specs.declared.State.{State}
use Rattle.model.specs.declared.Law.{Law}
use Rattle.model.specs.declared.Progress.{Progress}
use Rattle.model.specs.Numbers.{at, all_of, unless}
use Rattle.model.specs.Road.{most_steps, empty_state}
use Rattle.model.specs.Limits.{state_ok}
use Rattle.model.specs.Schedules.{Study, table_size, engine_after}
use Rattle.model.specs.Reading.{reading_of, study_by}
use Rattle.model.specs.Running.{EndAnswer, end_with, no_state, unless_opened, lanes_fault, run_end, steps_made, table_of}
use Rattle.model.specs.Weights.{weighted_total}
use Rattle.model.specs.Judging.{judge_end}
use Rattle.model.specs.Judging.{held_table, queue_table}
use Rattle.model.specs.Filling.{MeterState, meter_state, meter_start}
use Rattle.model.specs.Put.{put_table}
use Rattle.model.specs.Filling.{law_place, metered_from, granted_from, filled_from}
use Rattle.model.specs.Longest.{Queues, longest_of}

-- the study of a record under a table of lanes that starts from a state instead of the record's own start: F, times and steps done are the state's
abbrev pub study_from : List ℕ → List ℕ → State → Study
study_from bytes lanes s = study_by bytes lanes (reading_of bytes).road s (reading_of bytes).steps

-- 7: the start breaks a limit, that is, `within` is false. 8: the steps done and the record's T together exceed 1,440
abbrev pub start_fault : Bool → Study → ℕ
start_fault within a = unless within 7 (unless (leb (a.start.done + a.steps) most_steps) 8 0)

-- for a state, the limits are those of stepping's 7
unfoldable pub state_fault : Study → ℕ
state_fault a = start_fault (state_ok a.road a.start) a

-- running, judging and history that go on: the refusals of reading, 17, 18, 7 and 8; then as from the record's start
abbrev pub unless_started : List ℕ → List ℕ → State → EndAnswer → EndAnswer
unless_started bytes lanes s e =
    unless_opened bytes lanes
    (unless (eqb (state_fault (study_from bytes lanes s)) 0) (no_state (state_fault (study_from bytes lanes s)) 0) e)

-- running: 11, then 9 or 10 with its step, counted in the record's rows
unfoldable pub running_on : List ℕ → List ℕ → State → List ℕ → EndAnswer
running_on bytes lanes s list =
    unless_started bytes lanes s
    (unless (leb (table_size (study_from bytes lanes s)) (length list)) (no_state 11 0)
    (run_end (study_from bytes lanes s)))

abbrev pub steps_on : List ℕ → List ℕ → State → List ℕ → ℕ
steps_on bytes lanes s list = steps_made (study_from bytes lanes s) (running_on bytes lanes s list)

-- the lent list afterwards, the weighted total and the longest queues: over the steps of this record only
unfoldable pub list_on : List ℕ → List ℕ → State → List ℕ → List ℕ
list_on bytes lanes s list = table_of (study_from bytes lanes s) list (steps_on bytes lanes s list)

unfoldable pub weighted_total_on : (ℕ → ℕ) → (ℕ → ℕ) → List ℕ → List ℕ → State → List ℕ → ℕ
weighted_total_on w u bytes lanes s list = weighted_total w u (reading_of bytes).road.n (engine_after (study_from bytes lanes s)) (steps_on bytes lanes s list)

unfoldable pub longest_on : List ℕ → List ℕ → State → List ℕ → Queues
longest_on bytes lanes s list = longest_of (reading_of bytes).road.n (engine_after (study_from bytes lanes s)) (steps_on bytes lanes s list)

-- judging: 12, then 9 or 10, and 13 or 14
unfoldable pub judging_on : List ℕ → List ℕ → State → List ℕ → EndAnswer
judging_on bytes lanes s zs =
    unless_started bytes lanes s
    (unless (eqb (length zs) (table_size (study_from bytes lanes s))) (no_state 12 0)
    (judge_end (study_from bytes lanes s) zs))

-- history: 12, 11, then as judging; and the lent lists afterwards
unfoldable pub history_on : List ℕ → List ℕ → State → List ℕ → List ℕ → List ℕ → EndAnswer
history_on bytes lanes s zs held queue =
    unless_started bytes lanes s
    (unless (eqb (length zs) (table_size (study_from bytes lanes s))) (no_state 12 0)
    (unless (leb (table_size (study_from bytes lanes s)) (length held)) (no_state 11 0)
    (unless (leb (table_size (study_from bytes lanes s)) (length queue)) (no_state 11 0)
    (judge_end (study_from bytes lanes s) zs))))

unfoldable pub held_on : List ℕ → List ℕ → State → List ℕ → List ℕ → List ℕ → List ℕ
held_on bytes lanes s zs held queue =
    held_table (study_from bytes lanes s) zs held (steps_made (study_from bytes lanes s) (history_on bytes lanes s zs held queue))

unfoldable pub queue_on : List ℕ → List ℕ → State → List ℕ → List ℕ → List ℕ → List ℕ
queue_on bytes lanes s zs held queue =
    queue_table (study_from bytes lanes s) zs queue (steps_made (study_from bytes lanes s) (history_on bytes lanes s zs held queue))

-- filling goes on from a state, with the last releases and entries
abbrev pub progressed : Progress → MeterState
progressed p = meter_state p.state p.releases p.entries

abbrev pub study_after : List ℕ → List ℕ → MeterState → Study
study_after bytes lanes m = study_from bytes lanes m.state

-- a last entry is at most what its cell holds, because what entered in a step is in the cell after it
unfoldable pub entries_ok : MeterState → ℕ → Bool
entries_ok m n = all_of (λ i. leb (at m.entries i) (at m.state.held i)) n

-- 7 in filling: a limit of the state, or this one
unfoldable pub progress_fault : Study → MeterState → ℕ
progress_fault a m = start_fault (state_ok a.road m.state && entries_ok m a.road.n) a

-- the refusals of reading, 16, 17, 18, 7, 8, 11
unfoldable pub filling_on : List Law → List ℕ → List ℕ → MeterState → List ℕ → EndAnswer
filling_on laws bytes lanes m list =
    let a = study_after bytes lanes m in
    unless (eqb (reading_of bytes).number 0) (no_state (reading_of bytes).number (reading_of bytes).place)
    (unless (eqb (law_place laws a) 0) (no_state 16 (law_place laws a))
    (unless (eqb (lanes_fault a).number 0) (no_state (lanes_fault a).number (lanes_fault a).place)
    (unless (eqb (progress_fault a m) 0) (no_state (progress_fault a m) 0)
    (unless (leb (table_size a) (length list)) (no_state 11 0)
    (end_with 0 0 0 a.road (metered_from laws a m a.steps).state)))))

-- what filling the next record goes on from; all zero after a refusal
unfoldable pub progress_on : List Law → List ℕ → List ℕ → MeterState → List ℕ → MeterState
progress_on laws bytes lanes m list =
    unless (eqb (filling_on laws bytes lanes m list).number 0) (meter_start empty_state)
    (metered_from laws (study_after bytes lanes m) m (reading_of bytes).steps)

-- the record and the list afterwards, and the longest queues over the steps of this record
unfoldable pub record_on : List Law → List ℕ → List ℕ → MeterState → List ℕ → List ℕ
record_on laws bytes lanes m list =
    unless (eqb (filling_on laws bytes lanes m list).number 0) bytes
    (put_table bytes (reading_of bytes).road.n (granted_from laws (study_after bytes lanes m) m) (reading_of bytes).steps)

unfoldable pub filled_list_on : List Law → List ℕ → List ℕ → MeterState → List ℕ → List ℕ
filled_list_on laws bytes lanes m list =
    unless (eqb (filling_on laws bytes lanes m list).number 0) list
    (table_of (filled_from laws (study_after bytes lanes m) m) list (reading_of bytes).steps)

unfoldable pub longest_fill_on : List Law → List ℕ → List ℕ → MeterState → List ℕ → Queues
longest_fill_on laws bytes lanes m list =
    longest_of (reading_of bytes).road.n (λ k. (metered_from laws (study_after bytes lanes m) m k).state)
    (steps_made (study_after bytes lanes m) (filling_on laws bytes lanes m list))
