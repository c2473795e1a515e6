-- docs/MODEL.md, 'Many studies': one record, the arrivals of each study put into it in turn, and an entry of numbers per study. Assumes nothing.
use Rattle.std.specs.Prelude.{List, ◌∷◌, ℕ, zero, suc, ◌+◌, ◌*◌, ◌-◌, ◌/◌, ◌%◌, min, leb, eqb, length}
use Rattle.model.specs.declared.Law.{Law}
use Rattle.model.specs.Numbers.{at, unless, row_at, front_of}
use Rattle.model.specs.Road.{most_long, total_of}
use Rattle.model.specs.Move.{present_of, exits_of}
use Rattle.model.specs.Refusals.{FaultAnswer, fault}
use Rattle.model.specs.Reading.{reading_of}
use Rattle.model.specs.Running.{EndAnswer, running_of, list_after}
use Rattle.model.specs.Put.{put_entry}
use Rattle.model.specs.Filling.{filling_of, record_after, filled_list}
use Rattle.model.specs.Longest.{Queues, longest_run, longest_fill}

-- the arrivals of place p are number 2p − 1 of a row; the gate's are number 0, because the difference is never below 0
abbrev pub arrival_number : ℕ → ℕ
arrival_number p = 2 * p - 1

-- the arrivals of the first c places put into the row of step t; f p are those of place p
unfoldable pub put_arrivals : List ℕ → ℕ → ℕ → (ℕ → ℕ) → ℕ → List ℕ
put_arrivals s n t f zero = s
put_arrivals s n t f (suc c) = put_entry (put_arrivals s n t f c) n t (arrival_number c) (f c)

-- the arrivals of all n + 1 places put into the rows of the first k steps; f t p are those of place p in step t
unfoldable pub put_arrival_rows : List ℕ → ℕ → (ℕ → ℕ → ℕ) → ℕ → List ℕ
put_arrival_rows s n f zero = s
put_arrival_rows s n f (suc k) = put_arrivals (put_arrival_rows s n f k) n k (f k) (n + 1)

-- a table of arrivals has T rows of n + 1 numbers, gate first: the record with such a table instead of its own arrivals
abbrev pub with_arrivals : List ℕ → ℕ → ℕ → List ℕ → List ℕ
with_arrivals bytes n T table = put_arrival_rows bytes n (λ t p. at (row_at table (n + 1) t) p) T

-- how many numbers a table of arrivals of n cells and T steps has
abbrev pub arrivals_size : ℕ → ℕ → ℕ
arrivals_size n T = T * (n + 1)

-- the same for a record
abbrev pub record_arrivals : List ℕ → ℕ
record_arrivals bytes = arrivals_size (reading_of bytes).road.n (reading_of bytes).steps

-- the tables are one after the other; this is study k's
abbrev pub study_arrivals : List ℕ → List ℕ → ℕ → List ℕ
study_arrivals bytes arrivals k = row_at arrivals (record_arrivals bytes) k

-- the record s with the arrivals of study k; n and T are those of the record given
abbrev pub with_study_arrivals : List ℕ → List ℕ → ℕ → List ℕ → List ℕ
with_study_arrivals bytes arrivals k s = with_arrivals s (reading_of bytes).road.n (reading_of bytes).steps (study_arrivals bytes arrivals k)

-- study k: the record given, with its arrivals
abbrev pub study_record : List ℕ → List ℕ → ℕ → List ℕ
study_record bytes arrivals k = with_study_arrivals bytes arrivals k bytes

-- how many studies there are
abbrev pub study_count : List ℕ → List ℕ → ℕ
study_count bytes arrivals = length arrivals / record_arrivals bytes

-- an entry has 75 numbers: the refusal's number, step and place; gate, road and ramp time, and the three together, at most the greatest number
-- of 64 bits; exits; present; the longest gate queue, with and without the arrivals of the step; and the longest queue of each of 64 ramps
abbrev pub entry_size : ℕ
entry_size = 75

unfoldable pub answer_entry : EndAnswer → Queues → List ℕ
answer_entry e q =
    e.number
    ∷ e.step
    ∷ e.place
    ∷ e.state.gate_time
    ∷ e.state.road_time
    ∷ e.state.ramp_time
    ∷ min (total_of e.state) most_long
    ∷ exits_of e.road e.state
    ∷ present_of e.road e.state
    ∷ q.gate
    ∷ q.waiting
    ∷ q.ramps

-- the refusals of reading the record; 27 at place 1 if the arrivals are no whole number of tables, and at place 2 if the entries have no room
unfoldable pub many_fault : List ℕ → List ℕ → List ℕ → FaultAnswer
many_fault bytes arrivals answers =
    unless (eqb (reading_of bytes).number 0) (fault (reading_of bytes).number (reading_of bytes).place)
    (unless (eqb (length arrivals % record_arrivals bytes) 0) (fault 27 1)
    (unless (leb (study_count bytes arrivals * entry_size) (length answers)) (fault 27 2)
    (fault 0 0)))

-- a refusal of the whole leaves a lent list unchanged
abbrev pub unless_many : List ℕ → List ℕ → List ℕ → List ℕ → List ℕ → List ℕ
unless_many bytes arrivals answers lent after = unless (eqb (many_fault bytes arrivals answers).number 0) lent after

-- running: entry k is the answer of running study k, with its longest queues
abbrev pub run_entry : List ℕ → List ℕ → List ℕ → List ℕ → ℕ → List ℕ
run_entry bytes lanes arrivals list k =
    answer_entry (running_of (study_record bytes arrivals k) lanes list) (longest_run (study_record bytes arrivals k) lanes list)

-- the entries are in front of the list of answers
unfoldable pub run_answers : List ℕ → List ℕ → List ℕ → List ℕ → List ℕ → List ℕ
run_answers bytes lanes arrivals list answers =
    unless_many bytes arrivals answers answers (front_of (run_entry bytes lanes arrivals list) entry_size answers (study_count bytes arrivals))

-- the list of outflows after k studies: each writes the rows of its steps over those of the studies before
unfoldable pub list_after_runs : List ℕ → List ℕ → List ℕ → List ℕ → ℕ → List ℕ
list_after_runs bytes lanes arrivals list zero = list
list_after_runs bytes lanes arrivals list (suc k) = list_after (study_record bytes arrivals k) lanes (list_after_runs bytes lanes arrivals list k)

unfoldable pub run_lists : List ℕ → List ℕ → List ℕ → List ℕ → List ℕ → List ℕ
run_lists bytes lanes arrivals list answers = unless_many bytes arrivals answers list (list_after_runs bytes lanes arrivals list (study_count bytes arrivals))

-- the record after k studies has the arrivals of the last
unfoldable pub record_after_runs : List ℕ → List ℕ → ℕ → List ℕ
record_after_runs bytes arrivals zero = bytes
record_after_runs bytes arrivals (suc k) = study_record bytes arrivals k

unfoldable pub run_record : List ℕ → List ℕ → List ℕ → List ℕ
run_record bytes arrivals answers = unless_many bytes arrivals answers bytes (record_after_runs bytes arrivals (study_count bytes arrivals))

-- filling: entry k is the answer of filling study k, with its longest queues
abbrev pub fill_entry : List Law → List ℕ → List ℕ → List ℕ → List ℕ → ℕ → List ℕ
fill_entry laws bytes lanes arrivals list k =
    answer_entry (filling_of laws (study_record bytes arrivals k) lanes list) (longest_fill laws (study_record bytes arrivals k) lanes list)

unfoldable pub fill_answers : List Law → List ℕ → List ℕ → List ℕ → List ℕ → List ℕ → List ℕ
fill_answers laws bytes lanes arrivals list answers =
    unless_many bytes arrivals answers answers (front_of (fill_entry laws bytes lanes arrivals list) entry_size answers (study_count bytes arrivals))

unfoldable pub list_after_fillings : List Law → List ℕ → List ℕ → List ℕ → List ℕ → ℕ → List ℕ
list_after_fillings laws bytes lanes arrivals list zero = list
list_after_fillings laws bytes lanes arrivals list (suc k) = filled_list laws (study_record bytes arrivals k) lanes (list_after_fillings laws bytes lanes arrivals list k)

unfoldable pub fill_lists : List Law → List ℕ → List ℕ → List ℕ → List ℕ → List ℕ → List ℕ
fill_lists laws bytes lanes arrivals list answers =
    unless_many bytes arrivals answers list (list_after_fillings laws bytes lanes arrivals list (study_count bytes arrivals))

-- the record after k studies has the arrivals of the last, and the releases of the last that was not refused
unfoldable pub record_after_fillings : List Law → List ℕ → List ℕ → List ℕ → List ℕ → ℕ → List ℕ
record_after_fillings laws bytes lanes arrivals list zero = bytes
record_after_fillings laws bytes lanes arrivals list (suc k) =
    record_after laws (with_study_arrivals bytes arrivals k (record_after_fillings laws bytes lanes arrivals list k)) lanes list

unfoldable pub fill_record : List Law → List ℕ → List ℕ → List ℕ → List ℕ → List ℕ → List ℕ
fill_record laws bytes lanes arrivals list answers =
    unless_many bytes arrivals answers bytes (record_after_fillings laws bytes lanes arrivals list (study_count bytes arrivals))
