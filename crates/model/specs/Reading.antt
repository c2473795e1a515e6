-- docs/MODEL.md, 'Reading': the tests of the header, the refusals in order, and what reading gives, also for a caller with its own limits. Assumes nothing.
use Rattle.std.specs.Prelude.{Bool, true, cond, ◌&&◌, List, [], ◌∷◌, ℕ, ◌-◌, ◌+◌, leb, eqb, length}
use Rattle.model.specs.declared.State.{State}
use Rattle.model.specs.declared.Road.{Road}
use Rattle.model.specs.declared.Reading.{Reading}
use Rattle.model.specs.Numbers.{one_of, unless, unless_first}
use Rattle.model.specs.Road.{most_cells, most_steps, most_bytes, most_seconds, empty_road, empty_state, start_state}
use Rattle.model.specs.Schedules.{Study, study}
use Rattle.model.specs.Record.{first_version, second_version, count_size, short_size, header_size, row_start, number_of, version_of, cells_offset, steps_offset, number_size}
use Rattle.model.specs.Record.{column_of, record_row, seconds_of, gate_capacity_offset, gate_queue_offset, speed_offset, wave_offset, share_offset, ramp_offset, jam_offset}
use Rattle.model.specs.Record.{capacity_offset, held_offset, queue_offset}
use Rattle.model.specs.Refusals.{refusal_number}
use Rattle.model.specs.Limits.{place_ok, row_ok}

-- the header's n and T
abbrev pub cells_of : List ℕ → ℕ
cells_of s = number_of s cells_offset 1

abbrev pub steps_of : List ℕ → ℕ
steps_of s = number_of s steps_offset short_size

-- the whole is 16 + 24n + T × (4 + 8n) bytes, in version 2 two more
abbrev pub size_of : ℕ → ℕ → ℕ → ℕ
size_of version n T = row_start version n T

-- both versions
abbrev pub both_versions : List ℕ
both_versions = first_version ∷ second_version ∷ []

-- the least size that 1 allows: that of the version's header, or of version 1's for a version that the reader doesn't know
abbrev pub least_size : List ℕ → ℕ → ℕ
least_size known version = header_size (cond (one_of known version) version first_version)

-- 1 applies if this fails: at least that size, at most 65,536 bytes, and the first field is the count of bytes after it
abbrev pub length_ok : List ℕ → List ℕ → Bool
length_ok known s =
    leb (least_size known (version_of s)) (length s) && (leb (length s) most_bytes && eqb (number_of s 0 count_size) (length s - count_size))

-- 3 applies if this fails: n and T are within their limits
abbrev pub cells_and_steps_ok : ℕ → ℕ → Bool
cells_and_steps_ok n T = leb 1 n && (leb n most_cells && (leb 1 T && leb T most_steps))

-- 19 applies if this fails: in version 2 the step's seconds are 1 to 900; in another version they are not tested
abbrev pub seconds_ok : ℕ → ℕ → Bool
seconds_ok version seconds = cond (eqb version second_version) (leb 1 seconds && leb seconds most_seconds) true

-- 26 applies if this fails: n and the count of bytes are at most what the caller takes
abbrev pub caller_ok : ℕ → ℕ → ℕ → ℕ → Bool
caller_ok cells most n size = leb n cells && leb size most

-- what reading answers: the refusal's number, its place or step, T, the road and the state before step 0
pub record ReadAnswer : Type 0 where
  pub number : ℕ
  pub place : ℕ
  pub steps : ℕ
  pub road : Road
  pub state : State

-- the code's answer, in the model's numbers
abbrev pub read_answer : Reading → ReadAnswer
read_answer a = record {
  number = refusal_number a.refusal;
  place = a.place;
  steps = a.steps;
  road = a.road;
  state = a.state;
}

-- the road that the header and the cells' fields give
abbrev pub road_of : List ℕ → Road
road_of s = record {
  n = cells_of s;
  version = version_of s;
  seconds = seconds_of s;
  gate_capacity = number_of s (gate_capacity_offset (version_of s)) number_size;
  speed = column_of s speed_offset short_size (cells_of s);
  wave = column_of s wave_offset short_size (cells_of s);
  share = column_of s share_offset short_size (cells_of s);
  ramp = column_of s ramp_offset short_size (cells_of s);
  jam = column_of s jam_offset number_size (cells_of s);
  capacity = column_of s capacity_offset number_size (cells_of s);
}

-- the state before step 0
abbrev pub start_of : List ℕ → State
start_of s = start_state (record {
  gate_queue = number_of s (gate_queue_offset (version_of s)) number_size;
  held = column_of s held_offset number_size (cells_of s);
  queue = column_of s queue_offset number_size (cells_of s);
})

-- 6 applies if this fails: the row of step t is within the limits
abbrev pub step_ok : List ℕ → Road → ℕ → Bool
step_ok s r t = row_ok r.ramp r.n (record_row s r.n t)

-- a refusal gives an all-zero road and state
abbrev pub refused_of : ℕ → ℕ → ReadAnswer
refused_of number place = record { number = number; place = place; steps = 0; road = empty_road; state = empty_state }

-- without a refusal the number is 0
abbrev pub accepted_of : ℕ → Road → State → ReadAnswer
accepted_of T r s = record { number = 0; place = 0; steps = T; road = r; state = s }

-- a reader: the versions that it knows, and the most cells and bytes that it takes
pub record Reader : Type 0 where
  pub known : List ℕ
  pub cells : ℕ
  pub bytes : ℕ

-- its refusals, in order; the place is the lowest cell (0 for the gate) for 5, the first step for 6, and 0 otherwise
unfoldable pub reading_by : Reader → List ℕ → ReadAnswer
reading_by by s =
    unless (length_ok by.known s) (refused_of 1 0)
    (unless (one_of by.known (version_of s)) (refused_of 2 0)
    (unless (cells_and_steps_ok (cells_of s) (steps_of s)) (refused_of 3 0)
    (unless (seconds_ok (version_of s) (seconds_of s)) (refused_of 19 0)
    (unless (eqb (length s) (size_of (version_of s) (cells_of s) (steps_of s))) (refused_of 4 0)
    (unless (caller_ok by.cells by.bytes (cells_of s) (length s)) (refused_of 26 0)
    (unless_first (place_ok (road_of s) (start_of s)) (cells_of s + 1) (refused_of 5)
    (unless_first (step_ok s (road_of s)) (steps_of s) (refused_of 6)
    (accepted_of (steps_of s) (road_of s) (start_of s)))))))))

-- reading for a caller with its own limits: limits above 64 and 65,536 count as 64 and 65,536, because 1 and 3 come first
abbrev pub reading_within : ℕ → ℕ → List ℕ → ReadAnswer
reading_within cells bytes s = reading_by (record { known = both_versions; cells = cells; bytes = bytes }) s

-- reading knows both versions and takes all that 1 and 3 allow
abbrev pub reading_of : List ℕ → ReadAnswer
reading_of s = reading_within most_cells most_bytes s

-- the study of a record that reads as this road, start and T, under a table of lanes: its rows are in the bytes
abbrev pub study_by : List ℕ → List ℕ → Road → State → ℕ → Study
study_by s lanes r q T = study r q T (record_row s r.n) lanes

-- the study of a record under a table of lanes
abbrev pub study_of : List ℕ → List ℕ → Study
study_of s lanes = study_by s lanes (reading_of s).road (reading_of s).state (reading_of s).steps
