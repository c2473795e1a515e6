-- Theorems about two records that differ only in their rows. They read the same if the same rows pass, and if one reads and the other's rows
-- are within the limits. Assumes nothing.
use Rattle.std.specs.Prelude.{◌≡◌, true, ◌&&◌, List, ℕ, ◌+◌, ◌-◌, ◌*◌, ◌≤◌, ◌<◌, leb, eqb, length}
use Rattle.std.proofs.Common.{sym, ◌∙◌, arith}
use Rattle.std.proofs.Math.Path.{ap}
use Rattle.model.specs.Numbers.{at, one_of, unless, unless_first, first_of}
use Rattle.numbers.specs.FirstLaws.{first_same}
use Rattle.numbers.specs.RowsLaws.{fill_same}
use Rattle.model.specs.declared.Road.{Road}
use Rattle.model.specs.declared.State.{State}
use Rattle.model.specs.Road.{zeros, most_cells, most_bytes}
use Rattle.model.specs.Record.{count_size, short_size, number_size, cell_size, version_offset, version_of, cells_offset, steps_offset, seconds_offset, seconds_size, seconds_of}
use Rattle.model.specs.Record.{gate_capacity_offset, gate_queue_offset, speed_offset, wave_offset, share_offset}
use Rattle.model.specs.Record.{ramp_offset, jam_offset, capacity_offset, held_offset, queue_offset}
use Rattle.model.specs.Record.{row_start, number_of, field_of, column_of, record_row}
use Rattle.fields.specs.BytesLaws.{number_same}
use Rattle.model.specs.Limits.{place_ok, row_ok}
use Rattle.limits.specs.LimitsLaws.{place_ok_lem}
use Rattle.model.specs.Reading.{cells_of, steps_of, size_of, both_versions, least_size, cells_and_steps_ok}
use Rattle.model.specs.Reading.{seconds_ok, caller_ok, ReadAnswer, road_of, start_of, step_ok, refused_of}
use Rattle.model.specs.Reading.{accepted_of, reading_by, reading_of}
use Rattle.reading.specs.Headers.{Header}
use Rattle.reading.specs.Cases.{AcceptedRecord, ReadingEnds, read_found, early_refused, reads}

-- the first row that is not within the limits
abbrev rows_first : List ℕ → ℕ
rows_first s = first_of (step_ok s (road_of s)) (steps_of s)

-- what reading answers, from a record's length, its header, its road and start, and that row
abbrev answer_by : ℕ → ℕ → ℕ → ℕ → ℕ → ℕ → Road → State → ℕ → ReadAnswer
answer_by size count version n T seconds r q first =
    unless (leb (least_size both_versions version) size && (leb size most_bytes && eqb count (size - count_size))) (refused_of 1 0)
    (unless (one_of both_versions version) (refused_of 2 0)
    (unless (cells_and_steps_ok n T) (refused_of 3 0)
    (unless (seconds_ok version seconds) (refused_of 19 0)
    (unless (eqb size (size_of version n T)) (refused_of 4 0)
    (unless (caller_ok most_cells most_bytes n size) (refused_of 26 0)
    (unless_first (place_ok r q) (n + 1) (refused_of 5)
    (unless (eqb first T) (refused_of 6 first)
    (accepted_of T r q))))))))

-- the bytes before the rows are the same
module _ (s u : List ℕ) (head : (b : ℕ) → b < row_start (version_of s) (cells_of s) 0 → at u b ≡ at s b) where
  number : (i w : ℕ) → i + w ≤ row_start (version_of s) (cells_of s) 0 → number_of u i w ≡ number_of s i w
  number i w h = number_same u s i i w (λ k l. head (i + k) (omega arith))

  version : version_of u ≡ version_of s
  version = number version_offset 1 (omega arith)

  cells : cells_of u ≡ cells_of s
  cells = number cells_offset 1 (omega arith)

  seconds : seconds_of u ≡ seconds_of s
  seconds = rw version (number seconds_offset (seconds_size (version_of s)) (omega arith))

  column : (offset w : ℕ) → offset + w ≤ cell_size → column_of u offset w (cells_of u) ≡ column_of s offset w (cells_of s)
  column offset w h =
      ap (column_of u offset w) cells
      ∙ fill_same (field_of u offset w) (field_of s offset w) (cells_of s) zeros
      (λ i l. rw version (number (16 + seconds_size (version_of s) + 24 * i + offset) w (omega arith)))

  gate_capacity_lem : number_of u (gate_capacity_offset (version_of u)) number_size ≡ number_of s (gate_capacity_offset (version_of s)) number_size
  gate_capacity_lem = rw version (number (gate_capacity_offset (version_of s)) number_size (omega arith))

  gate_queue_lem : number_of u (gate_queue_offset (version_of u)) number_size ≡ number_of s (gate_queue_offset (version_of s)) number_size
  gate_queue_lem = rw version (number (gate_queue_offset (version_of s)) number_size (omega arith))

  road_same : road_of u ≡ road_of s
  road_same = rw (
    column speed_offset short_size (omega arith),
    column wave_offset short_size (omega arith),
    column share_offset short_size (omega arith),
    column ramp_offset short_size (omega arith),
    column jam_offset number_size (omega arith),
    column capacity_offset number_size (omega arith),
    gate_capacity_lem,
    seconds,
    version,
    cells,
  )

  start_same : start_of u ≡ start_of s
  start_same = rw (column held_offset number_size (omega arith), column queue_offset number_size (omega arith), gate_queue_lem)

  header_same : Header s (cells_of s) (steps_of s) → length u ≡ length s → Header u (cells_of s) (steps_of s)
  header_same h size = record {
    lengths = rw (number 0 count_size (omega arith), version, size) h.lengths;
    version = rw version h.version;
    cells = sym cells;
    steps = sym (number steps_offset short_size (omega arith));
    counts = h.counts;
    seconds = rw (seconds, version) h.seconds;
    size = rw (size, version) h.size;
  }

  -- what reading depends on, except the rows
  steps : steps_of u ≡ steps_of s
  steps = number steps_offset short_size (omega arith)

  count : number_of u 0 count_size ≡ number_of s 0 count_size
  count = number 0 count_size (omega arith)

  rows_first_lem : ((t : ℕ) → t < steps_of s → step_ok u (road_of s) t ≡ step_ok s (road_of s) t)
      → first_of (step_ok u (road_of u)) (steps_of u) ≡ first_of (step_ok s (road_of s)) (steps_of s)
  rows_first_lem h =
      ap (λ (r : Road). first_of (step_ok u r) (steps_of u)) road_same
      ∙ ap (first_of (step_ok u (road_of s))) steps
      ∙ first_same (step_ok u (road_of s)) (step_ok s (road_of s)) (steps_of s) h

  -- if the same rows pass, the answer is the same, also a refusal
  pub reading_alike : length u ≡ length s → ((t : ℕ) → t < steps_of s → step_ok u (road_of s) t ≡ step_ok s (road_of s) t) → reading_of u ≡ reading_of s
  unfolding reading_by
  reading_alike size h =
      ap (λ (x : ℕ). answer_by x (number_of u 0 count_size) (version_of u) (cells_of u) (steps_of u) (seconds_of u) (road_of u) (start_of u) (rows_first u)) size
      ∙ ap (λ (x : ℕ). answer_by (length s) x (version_of u) (cells_of u) (steps_of u) (seconds_of u) (road_of u) (start_of u) (rows_first u)) count
      ∙ ap (λ (x : ℕ). answer_by (length s) (number_of s 0 count_size) x (cells_of u) (steps_of u) (seconds_of u) (road_of u) (start_of u) (rows_first u)) version
      ∙ ap (λ (x : ℕ). answer_by (length s) (number_of s 0 count_size) (version_of s) x (steps_of u) (seconds_of u) (road_of u) (start_of u) (rows_first u)) cells
      ∙ ap (λ (x : ℕ). answer_by (length s) (number_of s 0 count_size) (version_of s) (cells_of s) x (seconds_of u) (road_of u) (start_of u) (rows_first u)) steps
      ∙ ap (λ (x : ℕ). answer_by (length s) (number_of s 0 count_size) (version_of s) (cells_of s) (steps_of s) x (road_of u) (start_of u) (rows_first u)) seconds
      ∙ ap (λ (x : Road). answer_by (length s) (number_of s 0 count_size) (version_of s) (cells_of s) (steps_of s) (seconds_of s) x (start_of u) (rows_first u)) road_same
      ∙ ap (λ (x : State). answer_by (length s) (number_of s 0 count_size) (version_of s) (cells_of s) (steps_of s) (seconds_of s) (road_of s) x (rows_first u)) start_same
      ∙ ap (answer_by (length s) (number_of s 0 count_size) (version_of s) (cells_of s) (steps_of s) (seconds_of s) (road_of s) (start_of s)) (rows_first_lem h)

  reading_same : AcceptedRecord s (steps_of s) (road_of s) (start_of s) → length u ≡ length s → ((t : ℕ) → t < steps_of s → step_ok u (road_of s) t ≡ true)
      → reading_of u ≡ accepted_of (steps_of s) (road_of s) (start_of s)
  reading_same w size rows =
      reads (header_same w.header size) (λ p l. rw (road_same, start_same) (place_ok_lem (road_of s) (start_of s) w.road w.state p l))
      (λ t l. ap (λ (r : Road). step_ok u r t) road_same ∙ rows t l)
      ∙ rw (road_same, start_same)

-- u's rows are within the limits of a road
abbrev RowsOk : List ℕ → ReadAnswer → Type 0
RowsOk u a = (t : ℕ) → t < a.steps → row_ok a.road.ramp a.road.n (record_row u a.road.n t) ≡ true

module _ (s u : List ℕ) (size : length u ≡ length s) where
  found_same : {a : ReadAnswer} → ReadingEnds s a → a.number ≡ 0 → ((b : ℕ) → b < row_start (version_of s) a.road.n 0 → at u b ≡ at s b) → RowsOk u a
      → reading_of u ≡ a
  found_same (ReadingEnds.early k l) h head rows = absurd (early_refused l h)
  found_same (ReadingEnds.at_place p l) h head rows = absurd (omega arith)
  found_same (ReadingEnds.at_step t l) h head rows = absurd (omega arith)
  found_same (ReadingEnds.clear w) h head rows = reading_same s u head w size rows

  -- replacing the rows by rows within the limits does not change the answer
  pub rows_replaced : (reading_of s).number ≡ 0 → ((b : ℕ) → b < row_start (version_of s) (reading_of s).road.n 0 → at u b ≡ at s b) → RowsOk u (reading_of s)
      → reading_of u ≡ reading_of s
  rows_replaced = found_same (read_found s)
