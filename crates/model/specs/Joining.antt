-- docs/MODEL.md, 'Joining': two neighbouring roads as one record. Assumes nothing.
use Rattle.std.specs.Prelude.{◌≡◌, Bool, cond, ◌&&◌, List, [], ◌++◌, ℕ, ◌+◌, ◌-◌, ◌<◌, leb, eqb, length, drop, take}
use Rattle.model.specs.declared.State.{State}
use Rattle.model.specs.declared.Road.{Road}
use Rattle.model.specs.Numbers.{at, unless, all_of, fill_of}
use Rattle.model.specs.Road.{most_cells, most_bytes, zeros}
use Rattle.model.specs.Flow.{whole}
use Rattle.model.specs.Schedules.{Study, study}
use Rattle.model.specs.Record.{record_row}
use Rattle.model.specs.Reading.{reading_of, study_of, accepted_of}
use Rattle.model.specs.Encoding.{record_size, record_of}
use Rattle.model.specs.Writing.{WriteAnswer, unwritten, written_count}

-- entry i of a joined column: upstream's n entries, then downstream's
abbrev pub joined_entry : ℕ → List ℕ → List ℕ → ℕ → ℕ
joined_entry n up down i = cond (leb (i + 1) n) (at up i) (at down (i - n))

-- a joined column of n + m cells; entries past them are 0
abbrev pub joined_column : ℕ → ℕ → List ℕ → List ℕ → List ℕ
joined_column n m up down = fill_of (joined_entry n up down) (n + m) zeros

-- the joined shares: upstream's last cell, the joint, has the stated one
abbrev pub joined_share : ℕ → ℕ → List ℕ → List ℕ → ℕ → ℕ
joined_share share n up down i = cond (eqb (i + 1) n) share (joined_entry n up down i)

-- upstream's cells, then downstream's; version, seconds and gate are upstream's
abbrev pub joined_road : Road → Road → ℕ → Road
joined_road a b share = record {
  n = a.n + b.n;
  version = a.version;
  seconds = a.seconds;
  gate_capacity = a.gate_capacity;
  speed = joined_column a.n b.n a.speed b.speed;
  wave = joined_column a.n b.n a.wave b.wave;
  share = fill_of (joined_share share a.n a.share b.share) (a.n + b.n) zeros;
  ramp = joined_column a.n b.n a.ramp b.ramp;
  jam = joined_column a.n b.n a.jam b.jam;
  capacity = joined_column a.n b.n a.capacity b.capacity;
}

-- the start: the gate's queue is upstream's
abbrev pub joined_start : ℕ → ℕ → State → State → State
joined_start n m a b = record {
  done = 0;
  gate_time = 0;
  road_time = 0;
  ramp_time = 0;
  gate_queue = a.gate_queue;
  gate_cumulative = 0;
  held = joined_column n m a.held b.held;
  queue = joined_column n m a.queue b.queue;
  cumulative = zeros;
}

-- a step's row: upstream's, then downstream's without its gate arrivals
abbrev pub joined_row : List ℕ → List ℕ → List ℕ
joined_row up down = up ++ drop 1 down

-- both roads as one study
abbrev pub joined_study : Study → Study → ℕ → Study
joined_study a b share =
    study (joined_road a.road b.road share) (joined_start a.road.n b.road.n a.start b.start) a.steps
    (λ t. joined_row (a.rows t) (b.rows t)) []

-- 20 applies if this fails: T, version and seconds are the same
abbrev pub alike : Study → Study → Bool
alike a b =
    eqb a.steps b.steps && (eqb a.road.version b.road.version && eqb a.road.seconds b.road.seconds)

-- 21 applies if this fails: the gate has no queue, and no arrival in any step
abbrev pub gate_idle : Study → Bool
gate_idle b = eqb b.start.gate_queue 0 && all_of (λ t. eqb (at (b.rows t) 0) 0) b.steps

-- 22 applies if this fails: at most 64 cells and 65,536 bytes
abbrev pub joined_fits : Study → Bool
joined_fits a = leb a.road.n most_cells && leb (record_size a) most_bytes

-- two studies whose records read are joined: 5 at the joint, 20, 21, 22, then 15
abbrev pub joining_by : Study → Study → ℕ → ℕ → WriteAnswer
joining_by a b share room =
    unless (leb share whole) (unwritten 5 a.road.n)
    (unless (alike a b) (unwritten 20 0)
    (unless (gate_idle b) (unwritten 21 0)
    (unless (joined_fits (joined_study a b share)) (unwritten 22 0)
    (unless (leb (record_size (joined_study a b share)) room) (unwritten 15 0)
    (written_count (record_size (joined_study a b share)))))))

-- the joined study of two records
abbrev pub joined_of : List ℕ → List ℕ → ℕ → Study
joined_of up down share = joined_study (study_of up []) (study_of down []) share

-- the refusals of reading the upstream record, then of reading the downstream one, then the rest
unfoldable pub joining_of : List ℕ → List ℕ → ℕ → List ℕ → WriteAnswer
joining_of up down share target =
    unless (eqb (reading_of up).number 0) (unwritten (reading_of up).number (reading_of up).place)
    (unless (eqb (reading_of down).number 0) (unwritten (reading_of down).number (reading_of down).place)
    (joining_by (study_of up []) (study_of down []) share (length target)))

-- the target afterwards: the joined record in front, and the bytes beyond it unchanged; all unchanged after a refusal
unfoldable pub joined_target : List ℕ → List ℕ → ℕ → List ℕ → List ℕ
joined_target up down share target =
    cond (eqb (joining_of up down share target).number 0)
    (record_of (joined_of up down share) ++ drop (record_size (joined_of up down share)) target)
    target

-- the first `count` bytes of the target that joining leaves read as the joined road, start and T; each row is upstream's, then downstream's
pub record ReadsJoined (up down : List ℕ) (share count : ℕ) (left : List ℕ) : Type 0 where
  pub reads : reading_of (take count left)
      ≡ accepted_of (reading_of up).steps (joined_road (reading_of up).road (reading_of down).road share)
      (joined_start (reading_of up).road.n (reading_of down).road.n (reading_of up).state (reading_of down).state)
  pub row : (t : ℕ) → t < (reading_of up).steps
      → record_row (take count left) ((reading_of up).road.n + (reading_of down).road.n) t
      ≡ joined_row (record_row up (reading_of up).road.n t) (record_row down (reading_of down).road.n t)
