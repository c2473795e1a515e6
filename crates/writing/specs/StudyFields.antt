-- Where each number of a study is in its record's bytes. Assumes nothing.
use Rattle.std.specs.Prelude.{◌≡◌, List, ◌++◌, ℕ, ◌+◌, ◌-◌, ◌*◌, ◌≤◌, ◌<◌, length}
use Rattle.std.proofs.Common.{arith}
use Rattle.model.specs.Numbers.{at, concat_of}
use Rattle.numbers.specs.Concat.{length_concat}
use Rattle.numbers.specs.TablesLaws.{row_ends}
use Rattle.model.specs.Schedules.{Study}
use Rattle.model.specs.Record.{count_size, header_size, seconds_size, gate_capacity_offset, gate_queue_offset, cell_size, short_size, number_size, row_numbers, row_size, bytes_of}
use Rattle.fields.specs.BytesLaws.{Field, length_bytes, field_first, field_only, field_after, field_before, field_in, field_there}
use Rattle.model.specs.Reading.{size_of}
use Rattle.model.specs.Encoding.{header_of, cell_of, header_bytes, cell_bytes, row_bytes, record_of}
use Rattle.encoding.specs.Encoding.{header_length, length_cell, length_row}

-- the fields of a header
pub record HeaderFields (s : List ℕ) (version n T seconds capacity queue : ℕ) : Type 0 where
  pub count : Field s 0 count_size (size_of version n T - count_size)
  pub version_field : Field s 4 1 version
  pub cells : Field s 5 1 n
  pub steps : Field s 6 short_size T
  pub seconds_field : Field s 8 (seconds_size version) seconds
  pub gate_capacity : Field s (gate_capacity_offset version) number_size capacity
  pub gate_queue : Field s (gate_queue_offset version) number_size queue

after : (k x : ℕ) (rest : List ℕ) {offset w y : ℕ} → Field rest offset w y → Field (bytes_of k x ++ rest) (k + offset) w y
after k x rest {offset} {w} {y} h = field_after (bytes_of k x) rest k offset w y (length_bytes k x) h

pub header_fields : (version n T seconds capacity queue : ℕ)
    → HeaderFields (header_of version n T seconds capacity queue) version n T seconds capacity queue
unfolding header_of
header_fields version n T seconds capacity queue =
    let size = size_of version n T - count_size in
    let f = bytes_of number_size queue in
    let e = bytes_of number_size capacity ++ f in
    let d = bytes_of (seconds_size version) seconds ++ e in
    let c = bytes_of short_size T ++ d in
    let b = bytes_of 1 n ++ c in
    let a = bytes_of 1 version ++ b in
    record {
      count = field_first count_size size a;
      version_field = after count_size size a (field_first 1 version b);
      cells = after count_size size a (after 1 version b (field_first 1 n c));
      steps = after count_size size a (after 1 version b (after 1 n c (field_first short_size T d)));
      seconds_field = after count_size size a (after 1 version b (after 1 n c (after short_size T d (field_first (seconds_size version) seconds e))));
      gate_capacity =
          field_there (omega arith)
          (after count_size size a
          (after 1 version b (after 1 n c (after short_size T d (after (seconds_size version) seconds e (field_first number_size capacity f))))));
      gate_queue =
          field_there (omega arith)
          (after count_size size a
          (after 1 version b
          (after 1 n c (after short_size T d (after (seconds_size version) seconds e (after number_size capacity f (field_only number_size queue)))))));
    }

-- the fields of a cell
pub record CellFields (s : List ℕ) (speed wave share ramp jam capacity held queue : ℕ) : Type 0 where
  pub speed_field : Field s 0 short_size speed
  pub wave_field : Field s 2 short_size wave
  pub share_field : Field s 4 short_size share
  pub ramp_field : Field s 6 short_size ramp
  pub jam_field : Field s 8 number_size jam
  pub capacity_field : Field s 12 number_size capacity
  pub held_field : Field s 16 number_size held
  pub queue_field : Field s 20 number_size queue

-- past the four short fields of a cell
past_shorts : (speed wave share ramp : ℕ) (rest : List ℕ) {offset w y : ℕ} → Field rest offset w y
    → Field (bytes_of short_size speed ++ (bytes_of short_size wave ++ (bytes_of short_size share ++ (bytes_of short_size ramp ++ rest)))) (2 + (2 + (2 + (2 + offset)))) w y
past_shorts speed wave share ramp rest h =
    after short_size speed (bytes_of short_size wave ++ (bytes_of short_size share ++ (bytes_of short_size ramp ++ rest)))
    (after short_size wave (bytes_of short_size share ++ (bytes_of short_size ramp ++ rest))
    (after short_size share (bytes_of short_size ramp ++ rest) (after short_size ramp rest h)))

pub cell_fields : (speed wave share ramp jam capacity held queue : ℕ)
    → CellFields (cell_of speed wave share ramp jam capacity held queue) speed wave share ramp jam capacity held queue
unfolding cell_of
cell_fields speed wave share ramp jam capacity held queue =
    let g = bytes_of number_size queue in
    let f = bytes_of number_size held ++ g in
    let e = bytes_of number_size capacity ++ f in
    let d = bytes_of number_size jam ++ e in
    let c = bytes_of short_size ramp ++ d in
    let b = bytes_of short_size share ++ c in
    let a = bytes_of short_size wave ++ b in
    record {
      speed_field = field_first short_size speed a;
      wave_field = after short_size speed a (field_first short_size wave b);
      share_field = after short_size speed a (after short_size wave b (field_first short_size share c));
      ramp_field = after short_size speed a (after short_size wave b (after short_size share c (field_first short_size ramp d)));
      jam_field = past_shorts speed wave share ramp d (field_first number_size jam e);
      capacity_field = past_shorts speed wave share ramp d (after number_size jam e (field_first number_size capacity f));
      held_field = past_shorts speed wave share ramp d (after number_size jam e (after number_size capacity f (field_first number_size held g)));
      queue_field = past_shorts speed wave share ramp d (after number_size jam e (after number_size capacity f (after number_size held g (field_only number_size queue))));
    }

-- in the whole record
module _ (a : Study) where
  abbrev cells : List ℕ
  cells = concat_of (cell_bytes a.road a.start) a.road.n

  abbrev rows : List ℕ
  rows = concat_of (row_bytes a.road.n a.rows) a.steps

  cells_length : length cells ≡ a.road.n * cell_size
  cells_length = length_concat (cell_bytes a.road a.start) cell_size (λ i. length_cell _ _ _ _ _ _ _ _) a.road.n

  -- a field of the header
  pub in_header_lem : {offset w x : ℕ} → offset + w ≤ header_size a.road.version → Field (header_bytes a) offset w x → Field (record_of a) offset w x
  unfolding record_of
  in_header_lem {offset} {w} {x} l h = field_before (header_bytes a) (cells ++ rows) offset w x (omega (arith, header_length a)) h

  -- a field of the cell at i
  pub in_cell : (i : ℕ) {offset w x : ℕ} → i < a.road.n → offset + w ≤ cell_size → Field (cell_bytes a.road a.start i) offset w x
      → Field (record_of a) (header_size a.road.version + (i * cell_size + offset)) w x
  unfolding record_of
  in_cell i {offset} {w} {x} l k h =
      field_after (header_bytes a) (cells ++ rows) (header_size a.road.version) (i * cell_size + offset) w x (header_length a)
      (field_before cells rows (i * cell_size + offset) w x (omega (arith, cells_length, row_ends i a.road.n cell_size l))
      (field_in (cell_bytes a.road a.start) cell_size a.road.n i offset w x (λ j. length_cell _ _ _ _ _ _ _ _) l k h))

  -- number k of the row of step t
  pub in_row : (t k : ℕ) → t < a.steps → k < row_numbers a.road.n
      → Field (record_of a) (header_size a.road.version + (a.road.n * cell_size + (t * row_size a.road.n + (k * number_size + 0)))) number_size (at (a.rows t) k)
  unfolding record_of
  in_row t k l m =
      let n = a.road.n in
      let number = at (a.rows t) k in
      let here : Field (row_bytes n a.rows t) (k * number_size + 0) number_size (at (a.rows t) k) =
      field_in (λ j. bytes_of number_size (at (a.rows t) j)) number_size (row_numbers n) k 0 number_size number
      (λ j. length_bytes number_size (at (a.rows t) j)) m (omega arith) (field_only number_size number) in
      field_after (header_bytes a) (cells ++ rows) (header_size a.road.version) (n * cell_size + (t * row_size n + (k * number_size + 0))) number_size number (header_length a)
      (field_after cells rows (n * cell_size) (t * row_size n + (k * number_size + 0)) number_size number cells_length
      (field_in (row_bytes n a.rows) (row_size n) a.steps t (k * number_size + 0) number_size number (length_row n a.rows) l (omega arith) here))
