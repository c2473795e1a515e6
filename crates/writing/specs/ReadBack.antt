-- The record of a study within the limits reads back as that study. Assumes nothing.
use Rattle.std.specs.Prelude.{◌≡◌, Bool, ◌&&◌, List, ℕ, zero, suc, ◌+◌, ◌-◌, ◌*◌, ◌/◌, ◌%◌, ◌^◌, ◌≤◌, ◌<◌, length}
use Rattle.std.proofs.Math.Path.{refl, ap}
use Rattle.std.proofs.Common.{sym, ◌∙◌, arith, ext_get_or}
use Rattle.std.proofs.Math.Bool.{true, false}
use Rattle.std.proofs.Math.Dec.{leb, eqb}
use borrow.Author.Tests.{leb-true, eqb-true, eqb-false, eq-eqb}
use Rattle.model.specs.Numbers.{at, one_of}
use Rattle.numbers.specs.Tests.{le_head, le_then}
use Rattle.numbers.specs.RowsLaws.{fill_same, fill_own}
use Rattle.model.specs.declared.Road.{Road}
use Rattle.model.specs.declared.State.{State}
use Rattle.model.specs.Road.{most_bytes, most_rate, most_seconds, zeros, start_state, start_in}
use Rattle.model.specs.Schedules.{Study}
use Rattle.model.specs.Record.{second_version, count_size, seconds_size, header_size, gate_capacity_offset}
use Rattle.model.specs.Record.{gate_queue_offset, cell_size, short_size, number_size, row_size, row_numbers}
use Rattle.model.specs.Record.{row_start, number_of, version_of, seconds_of, field_of, column_of, entry_of, record_row}
use Rattle.fields.specs.FieldsLaws.{seconds_second, seconds_none, length_row, row_at_lem}
use Rattle.fields.specs.BytesLaws.{Field, field_number}
use Rattle.limits.specs.LimitsLaws.{RoadOk, StateOk, RowOk, place_ok_lem, row_ok_lem}
use Rattle.model.specs.Reading.{cells_of, steps_of, size_of, both_versions, least_size, seconds_ok, road_of, start_of, step_ok, accepted_of, reading_of}
use Rattle.fields.specs.HeaderLaws.{Counts, facts_counts, known_most, least_both}
use Rattle.reading.specs.Headers.{Header}
use Rattle.reading.specs.Cases.{reads}
use Rattle.model.specs.Encoding.{record_size, header_bytes, cell_bytes, record_of}
use Rattle.encoding.specs.Encoding.{length_record}
use Rattle.model.specs.Writing.{cut_of, kept_seconds, cut_road, cut_state}
use Rattle.writing.specs.CutLaws.{kept_ok, cut_road_lem, cut_state_lem, cut_row}
use Rattle.writing.specs.StudyFields.{HeaderFields, header_fields, CellFields, cell_fields, in_header_lem, in_cell, in_row}

-- a study within the limits: its version is known, its record is short enough, and its road, its start and each row are within their limits
pub record Recordable (a : Study) : Type 0 where
  pub version : one_of both_versions a.road.version ≡ true
  pub counts : Counts a.road.n a.steps
  pub seconds : seconds_ok a.road.version a.road.seconds ≡ true
  pub size : record_size a ≤ most_bytes
  pub road : RoadOk a.road
  pub start : StateOk a.road (start_state (start_in a.start))
  pub row : (t : ℕ) → t < a.steps → RowOk a.road (a.rows t)

module _ (a : Study) (ok : Recordable a) where
  abbrev s : List ℕ
  s = record_of a

  abbrev road : Road
  road = a.road

  abbrev n : ℕ
  n = road.n

  abbrev T : ℕ
  T = a.steps

  -- the state before step 0
  abbrev start : State
  start = start_state (start_in a.start)

  -- the header
  header : HeaderFields (header_bytes a) a.road.version a.road.n a.steps a.road.seconds a.road.gate_capacity a.start.gate_queue
  header = header_fields road.version n T road.seconds road.gate_capacity start.gate_queue

  count_read : number_of s 0 count_size ≡ size_of road.version n T - count_size
  count_read = field_number s 0 0 count_size (size_of road.version n T - count_size) refl (omega (arith, ok.size)) (in_header_lem a (omega arith) header.count)

  version_read : version_of s ≡ road.version
  version_read =
      field_number s 4 4 1 road.version refl (omega (arith, known_most road.version ok.version)) (in_header_lem a (omega arith) header.version_field)

  -- so the bytes have the layout of the study's version
  layout : seconds_size (version_of s) ≡ seconds_size road.version
  layout = ap seconds_size version_read

  cells_read : cells_of s ≡ n
  cells_read = field_number s 5 5 1 n refl (omega (arith, ok.counts.cells)) (in_header_lem a (omega arith) header.cells)

  steps_read : steps_of s ≡ T
  steps_read = field_number s 6 6 short_size T refl (omega (arith, ok.counts.steps)) (in_header_lem a (omega arith) header.steps)

  seconds_read : seconds_of s ≡ kept_seconds road.version road.seconds
  unfolding number_of
  seconds_read = ap (number_of s 8) layout ∙ go (eqb road.version second_version) refl
    where
      go : (b : Bool) → eqb road.version second_version ≡ b → number_of s 8 (seconds_size road.version) ≡ kept_seconds road.version road.seconds
      go true e =
          let second = eqb-true road.version second_version e in
          let size = seconds_second road.version second in
          let within : leb 1 road.seconds && leb road.seconds most_seconds ≡ true = rw e at ok.seconds in
          let most = leb-true road.seconds most_seconds (le_head 1 road.seconds _ within).1 in
          let field : Field s 8 short_size road.seconds = rw size at (in_header_lem a {w = seconds_size road.version} (omega arith) header.seconds_field) in
          rw (size, e) (field_number s 8 8 short_size road.seconds refl (omega (arith, most)) field)
      go false e = rw (seconds_none road.version (eqb-false road.version second_version e), e)

  capacity_read : number_of s (gate_capacity_offset (version_of s)) number_size ≡ road.gate_capacity
  capacity_read =
      field_number s (gate_capacity_offset road.version) (gate_capacity_offset (version_of s)) number_size road.gate_capacity (omega (arith, layout))
      (omega (arith, ok.road.gate)) (in_header_lem a (omega arith) header.gate_capacity)

  queue_read : number_of s (gate_queue_offset (version_of s)) number_size ≡ start.gate_queue
  queue_read =
      field_number s (gate_queue_offset road.version) (gate_queue_offset (version_of s)) number_size start.gate_queue (omega (arith, layout))
      (omega (arith, ok.start.gate_queue)) (in_header_lem a (omega arith) header.gate_queue)

  -- the cells
  cell : (i : ℕ) → CellFields (cell_bytes a.road a.start i) (at a.road.speed i) (at a.road.wave i) (at a.road.share i)
      (at a.road.ramp i) (at a.road.jam i) (at a.road.capacity i) (at a.start.held i) (at a.start.queue i)
  cell i = cell_fields _ _ _ _ _ _ _ _

  -- a column of a record of n cells, from the fields of the cells
  column : (offset w : ℕ) (l : List ℕ) → offset + w ≤ cell_size
      → ((i : ℕ) → i < a.road.n → (at l i < 256 ^ w) × Field (cell_bytes a.road a.start i) offset w (at l i))
      → column_of (record_of a) offset w (cells_of (record_of a)) ≡ cut_of a.road.n l
  column offset w l fits h =
      ap (column_of s offset w) cells_read
      ∙ fill_same (field_of s offset w) (λ i. at l i) n zeros
      (λ i k. field_number s (header_size road.version + (i * cell_size + offset)) (header_size (version_of s) + cell_size * i + offset) w (at l i)
      (omega (arith, layout)) (h i k).0
      (in_cell a i k fits (h i k).1))

  short : (x most : ℕ) → x ≤ most → most ≤ 65535 → x < 256 ^ short_size
  short x most l m = omega arith

  long : (x most : ℕ) → x ≤ most → most ≤ 4294967295 → x < 256 ^ number_size
  long x most l m = omega arith

  speed_read : column_of s 0 short_size (cells_of s) ≡ cut_of n road.speed
  speed_read = column 0 short_size road.speed (omega arith) (λ i l. (short _ _ (ok.road.speed i l) (omega arith), (cell i).speed_field))

  wave_read : column_of s 2 short_size (cells_of s) ≡ cut_of n road.wave
  wave_read = column 2 short_size road.wave (omega arith) (λ i l. (short _ _ (ok.road.wave i l) (omega arith), (cell i).wave_field))

  share_read : column_of s 4 short_size (cells_of s) ≡ cut_of n road.share
  share_read = column 4 short_size road.share (omega arith) (λ i l. (short _ _ (ok.road.share i l) (omega arith), (cell i).share_field))

  ramp_read : column_of s 6 short_size (cells_of s) ≡ cut_of n road.ramp
  ramp_read = column 6 short_size road.ramp (omega arith) (λ i l. (short _ _ (ok.road.ramp i l) (omega arith), (cell i).ramp_field))

  jam_read : column_of s 8 number_size (cells_of s) ≡ cut_of n road.jam
  jam_read = column 8 number_size road.jam (omega arith) (λ i l. (long _ _ (ok.road.jam i l) (omega arith), (cell i).jam_field))

  capacities_read : column_of s 12 number_size (cells_of s) ≡ cut_of n road.capacity
  capacities_read = column 12 number_size road.capacity (omega arith) (λ i l. (long _ _ (ok.road.capacity i l) (omega arith), (cell i).capacity_field))

  held_read : column_of s 16 number_size (cells_of s) ≡ cut_of n start.held
  held_read = column 16 number_size start.held (omega arith)
      (λ i l. (long (at start.held i) most_rate (omega (arith, ok.start.held i l, ok.road.jam i l)) (omega arith), (cell i).held_field))

  queues_read : column_of s 20 number_size (cells_of s) ≡ cut_of n start.queue
  queues_read = column 20 number_size start.queue (omega arith) (λ i l. (long _ _ (ok.start.queue i l) (omega arith), (cell i).queue_field))

  road_read : road_of s ≡ cut_road road
  road_read =
      rw (speed_read, wave_read, share_read, ramp_read, jam_read, capacities_read, cells_read, capacity_read, seconds_read, version_read)

  start_read : start_of s ≡ cut_state n start
  start_read = rw (held_read, queues_read, queue_read, fill_own zeros n)

  -- the rows
  number_rate : (row : List ℕ) → RowOk a.road row → (k : ℕ) → k < row_numbers a.road.n → at row k ≤ most_rate
  number_rate row h zero l = h.gate
  number_rate row h (suc k) l = go (k / 2) (k % 2) (omega arith) (omega arith)
    where
      go : (i j : ℕ) → k ≡ 2 * i + j → j < 2 → at row (suc k) ≤ most_rate
      go i zero e m = let f : suc k ≡ 2 * i + 1 = omega arith in rw f (h.arrivals i (omega arith))
      go i (suc j) e m = let f : suc k ≡ 2 * i + 2 = omega arith in rw f (h.release i (omega arith))

  entry_read : (t : ℕ) → t < a.steps → (k : ℕ) → k < row_numbers a.road.n
      → entry_of (record_of a) a.road.n t k ≡ at (a.rows t) k
  entry_read t l k m =
      field_number s (header_size road.version + (n * cell_size + (t * row_size n + (k * number_size + 0)))) (row_start (version_of s) n t + number_size * k) number_size _
      (omega (arith, layout))
      (long _ _ (number_rate (a.rows t) (ok.row t l) k m) (omega arith)) (in_row a t k l m)

  pub rows_read : (t : ℕ) → t < a.steps → record_row (record_of a) a.road.n t ≡ a.rows t
  rows_read t l =
      ext_get_or 0 (record_row s n t) (a.rows t)
      (length_row s n t ∙ sym (ok.row t l).numbers)
      (λ k m.
      let h : k < row_numbers n = omega (arith, length_row s n t) in
      row_at_lem s n t k h ∙ entry_read t l k h)

  -- no refusal of reading applies
  header_read : Header (record_of a) a.road.n a.steps
  header_read =
      let e = length_record a in
      record {
        lengths =
            le_then (least_size both_versions (version_of s)) (length s) _ (omega (arith, e, least_both (version_of s), layout))
            (le_then (length s) most_bytes _ (omega (arith, e, ok.size))
            (eq-eqb (number_of s 0 count_size) (length s - count_size) (count_read ∙ omega (arith, e))));
        version = ap (one_of both_versions) version_read ∙ ok.version;
        cells = sym cells_read;
        steps = sym steps_read;
        counts = facts_counts ok.counts;
        seconds =
            ap (λ (v : ℕ). seconds_ok v (seconds_of s)) version_read
            ∙ ap (λ (q : ℕ). seconds_ok road.version q) seconds_read
            ∙ kept_ok road.version road.seconds
            ∙ ok.seconds;
        size = omega (arith, e, layout);
      }

  pub reads_back : reading_of (record_of a) ≡ accepted_of a.steps (cut_road a.road) (cut_state a.road.n (start_state (start_in a.start)))
  reads_back =
      let within = cut_road_lem road ok.road in
      reads header_read
      (λ p l. rw (road_read, start_read) (place_ok_lem (cut_road road) (cut_state n start) within (cut_state_lem road start ok.road ok.start) p l))
      (λ t l.
      ap (λ (r : Road). step_ok s r t) road_read
      ∙ rw (rows_read t l) (row_ok_lem (cut_road road) (a.rows t) within (cut_row road (a.rows t) ok.road (ok.row t l))))
      ∙ rw (road_read, start_read)
