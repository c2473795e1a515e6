-- docs/MODEL.md, 'Writing': the refusals in order, the target afterwards, and that a written record reads back. Assumes nothing.
use Rattle.std.specs.Prelude.{◌≡◌, Bool, cond, List, ◌++◌, ℕ, ◌+◌, ◌*◌, ◌<◌, leb, eqb, length, drop, take}
use Rattle.model.specs.declared.Start.{Start}
use Rattle.model.specs.declared.Written.{Written}
use Rattle.model.specs.declared.State.{State}
use Rattle.model.specs.declared.Road.{Road}
use Rattle.model.specs.Numbers.{unless, one_of, unless_first, at, fill_of, row_at}
use Rattle.model.specs.Road.{most_bytes, zeros, start_state}
use Rattle.model.specs.Schedules.{Study}
use Rattle.model.specs.Record.{row_numbers, second_version, record_row}
use Rattle.model.specs.Refusals.{refusal_number}
use Rattle.model.specs.Limits.{place_ok, row_ok}
use Rattle.model.specs.Reading.{size_of, both_versions, cells_and_steps_ok, seconds_ok, accepted_of, reading_of}
use Rattle.model.specs.Encoding.{record_size, record_of, given_study}

-- what writing answers: the refusal's number, its place or step, and the count of bytes written
pub record WriteAnswer : Type 0 where
  pub number : ℕ
  pub place : ℕ
  pub count : ℕ

-- the code's answer, in the model's numbers
abbrev pub write_answer : Written → WriteAnswer
write_answer a = record { number = refusal_number a.refusal; place = a.place; count = a.count }

-- a refusal writes nothing
abbrev pub unwritten : ℕ → ℕ → WriteAnswer
unwritten number place = record { number = number; place = place; count = 0 }

abbrev pub written_count : ℕ → WriteAnswer
written_count count = record { number = 0; place = 0; count = count }

-- 6 applies if this fails: the row of step t is within the limits
abbrev pub given_ok : Study → ℕ → Bool
given_ok a t = row_ok a.road.ramp a.road.n (a.rows t)

-- the faults of numbers that belong to no place: 2, a version that no record has; 3; 19; 1, more than 65,536 bytes;
-- 4, the count of row numbers isn't T × (1 + 2n)
unfoldable pub frame_fault : ℕ → ℕ → ℕ → ℕ → ℕ → ℕ
frame_fault version seconds n T numbers =
    unless (one_of both_versions version) 2
    (unless (cells_and_steps_ok n T) 3
    (unless (seconds_ok version seconds) 19
    (unless (leb (size_of version n T) most_bytes) 1
    (unless (eqb numbers (T * row_numbers n)) 4 0))))

abbrev pub frame_of : Study → ℕ → ℕ
frame_of a numbers = frame_fault a.road.version a.road.seconds a.road.n a.steps numbers

-- these faults; 5 with its place and 6 with its step, as in reading; 15, target too short
abbrev pub writing_by : Study → ℕ → ℕ → WriteAnswer
writing_by a numbers room =
    unless (eqb (frame_of a numbers) 0) (unwritten (frame_of a numbers) 0)
    (unless_first (place_ok a.road a.start) (a.road.n + 1) (unwritten 5)
    (unless_first (given_ok a) a.steps (unwritten 6)
    (unless (leb (record_size a) room) (unwritten 15 0)
    (written_count (record_size a)))))

-- what writing answers for a road, T, a start and the numbers of all rows
unfoldable pub writing_of : Road → ℕ → Start → List ℕ → List ℕ → WriteAnswer
writing_of road T start rows target = writing_by (given_study road T start rows) (length rows) (length target)

-- the target afterwards: the record's bytes in front, and the bytes beyond them unchanged; all unchanged after a refusal
unfoldable pub target_after : Road → ℕ → Start → List ℕ → List ℕ → List ℕ
target_after road T start rows target =
    cond (eqb (writing_of road T start rows target).number 0)
    (record_of (given_study road T start rows) ++ drop (size_of road.version road.n T) target)
    target

-- the first n entries of an array, and 0 past them
abbrev pub cut_of : ℕ → List ℕ → List ℕ
cut_of n l = fill_of (λ i. at l i) n zeros

-- the step's seconds, 0 if the version has none
abbrev pub kept_seconds : ℕ → ℕ → ℕ
kept_seconds version seconds = cond (eqb version second_version) seconds 0

-- a road and a state in a record: values up to cell n, and 0 past it
abbrev pub cut_road : Road → Road
cut_road r = record {
  n = r.n;
  version = r.version;
  seconds = kept_seconds r.version r.seconds;
  gate_capacity = r.gate_capacity;
  speed = cut_of r.n r.speed;
  wave = cut_of r.n r.wave;
  share = cut_of r.n r.share;
  ramp = cut_of r.n r.ramp;
  jam = cut_of r.n r.jam;
  capacity = cut_of r.n r.capacity;
}

abbrev pub cut_state : ℕ → State → State
cut_state n s = record {
  done = s.done;
  gate_time = s.gate_time;
  road_time = s.road_time;
  ramp_time = s.ramp_time;
  gate_queue = s.gate_queue;
  gate_cumulative = s.gate_cumulative;
  held = cut_of n s.held;
  queue = cut_of n s.queue;
  cumulative = cut_of n s.cumulative;
}

-- the first `count` bytes of the target that writing leaves read back as what was given: version, n, T and the values up to cell n,
-- 0 past it; each row's numbers are those given
pub record ReadsBack (road : Road) (T : ℕ) (start : Start) (rows : List ℕ) (count : ℕ) (after : List ℕ) : Type 0 where
  pub reads : reading_of (take count after) ≡ accepted_of T (cut_road road) (cut_state road.n (start_state start))
  pub row : (t : ℕ) → t < T → record_row (take count after) road.n t ≡ row_at rows (row_numbers road.n) t
