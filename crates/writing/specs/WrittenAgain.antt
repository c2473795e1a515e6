-- A record that was read and is written again has the same bytes. Assumes nothing.
use Rattle.std.specs.Prelude.{◌≡◌, List, [], ◌++◌, ℕ, ◌+◌, ◌-◌, ◌*◌, ◌≤◌, ◌<◌}
use Rattle.std.proofs.Math.Path.{refl, ap}
use Rattle.std.proofs.Common.{◌∙◌}
use native.Mathlib.Omega.{arith}
use Rattle.std.proofs.Math.ListN.{length}
use Rattle.std.proofs.Math.Seq.{take_all}
use Rattle.model.specs.Numbers.{at, concat_of}
use Rattle.numbers.specs.Concat.{concat_same}
use Rattle.numbers.specs.TablesLaws.{row_ends}
use Rattle.model.specs.Road.{start_state, start_in}
use Rattle.model.specs.Schedules.{Study, study}
use Rattle.model.specs.Record.{count_size, version_of, seconds_size, header_size, gate_queue_offset, cell_size}
use Rattle.model.specs.Record.{short_size, number_size, row_numbers, row_size, row_start, number_of}
use Rattle.model.specs.Record.{record_row, bytes_of}
use Rattle.fields.specs.FieldsLaws.{row_at_lem}
use Rattle.fields.specs.BytesLaws.{part_of, part_join, part_next, part_concat, bytes_part}
use Rattle.model.specs.Reading.{size_of, ReadAnswer, reading_of}
use Rattle.reading.specs.Cases.{AcceptedRecord}
use Rattle.reading.specs.Numbers.{Numbers, read_numbers}
use Rattle.reading.specs.Within.{read_within_lem}
use Rattle.model.specs.Encoding.{header_of, cell_of, header_bytes, cell_bytes, row_bytes, record_of}

module _ (s : List ℕ) (small : (i : ℕ) → at s i < 256) (reads : (reading_of s).number ≡ 0) (rows : ℕ → List ℕ)
    (same : (t : ℕ) → t < (reading_of s).steps → rows t ≡ record_row s (reading_of s).road.n t) where
  abbrev x : ReadAnswer
  x = reading_of s

  abbrev n : ℕ
  n = x.road.n

  abbrev T : ℕ
  T = x.steps

  abbrev a : Study
  a = study x.road (start_state (start_in x.state)) x.steps rows []

  numbers : Numbers s (reading_of s).steps (reading_of s).road (reading_of s).state
  numbers = read_numbers s (reading_of s) refl reads

  within : AcceptedRecord s (reading_of s).steps (reading_of s).road (reading_of s).state
  within = read_within_lem s (reading_of s) refl reads

  part : (i w y : ℕ) → i + w ≤ length s → y ≡ number_of s i w → bytes_of w y ≡ part_of s i w
  part i w y l e = ap (bytes_of w) e ∙ bytes_part s i w small l

  -- the layout is that of the bytes' version
  abbrev h : ℕ
  h = header_size (version_of s)

  abbrev z : ℕ
  z = seconds_size (version_of s)

  long : header_size (version_of s) + n * cell_size + T * row_size n ≤ length s
  long = omega (arith, within.size)

  -- the header
  header : header_bytes a ≡ part_of s 0 (header_size (version_of s))
  unfolding header_of
  header =
      let next : gate_queue_offset (version_of s) ≡ 8 + z + 4 = omega arith in
      let queue : bytes_of number_size x.state.gate_queue ≡ part_of s (8 + z + 4) number_size =
      part (gate_queue_offset (version_of s)) number_size x.state.gate_queue (omega (arith, long)) numbers.gate_queue
      ∙ ap (λ (i : ℕ). part_of s i number_size) next in
      let all : 4 + (1 + (1 + (2 + (z + 8)))) ≡ 16 + z = omega arith in
      ap (λ (v : ℕ). header_of v n T x.road.seconds x.road.gate_capacity x.state.gate_queue) numbers.version
      ∙ rw (
        part 0 count_size (size_of (version_of s) n T - count_size) (omega (arith, long)) (omega (arith, within.count, within.size)),
        part 4 1 (version_of s) (omega (arith, long)) refl,
        part 5 1 n (omega (arith, long)) numbers.cells,
        part 6 short_size T (omega (arith, long)) numbers.steps,
        part 8 z x.road.seconds (omega (arith, long)) numbers.seconds,
        part (8 + z) number_size x.road.gate_capacity (omega (arith, long)) numbers.gate_capacity,
        queue,
        part_join s (8 + z) 4 4,
        part_join s 8 z 8,
        part_join s 6 2 (z + 8),
        part_join s 5 1 (2 + (z + 8)),
        part_join s 4 1 (1 + (2 + (z + 8))),
        part_join s 0 4 (1 + (1 + (2 + (z + 8)))),
        all,
      )

  -- the cells
  module _ (i : ℕ) (l : i < (reading_of s).road.n) where
    abbrev b : ℕ
    b = h + cell_size * i

    inside : h + cell_size * i + cell_size ≤ length s
    inside = omega (arith, long, row_ends i n cell_size l)

    cell : cell_bytes x.road (start_state (start_in x.state)) i ≡ part_of s (h + i * cell_size) cell_size
    unfolding cell_of
    cell =
        let z : b + 0 ≡ h + i * cell_size = omega arith in
        rw (
          part (b + 0) short_size (at x.road.speed i) (omega (arith, inside)) (numbers.speed.cell i l),
          part (b + 2) short_size (at x.road.wave i) (omega (arith, inside)) (numbers.wave.cell i l),
          part (b + 4) short_size (at x.road.share i) (omega (arith, inside)) (numbers.share.cell i l),
          part (b + 6) short_size (at x.road.ramp i) (omega (arith, inside)) (numbers.ramp.cell i l),
          part (b + 8) number_size (at x.road.jam i) (omega (arith, inside)) (numbers.jam.cell i l),
          part (b + 12) number_size (at x.road.capacity i) (omega (arith, inside)) (numbers.capacity.cell i l),
          part (b + 16) number_size (at x.state.held i) (omega (arith, inside)) (numbers.held.cell i l),
          part (b + 20) number_size (at x.state.queue i) (omega (arith, inside)) (numbers.queue.cell i l),
          part_next s b 16 4 4,
          part_next s b 12 4 8,
          part_next s b 8 4 12,
          part_next s b 6 2 16,
          part_next s b 4 2 18,
          part_next s b 2 2 20,
          part_next s b 0 2 22,
          z,
        )

  cells : concat_of (cell_bytes x.road (start_state (start_in x.state))) n ≡ part_of s h (n * cell_size)
  cells =
      concat_same (cell_bytes x.road (start_state (start_in x.state))) (λ j. part_of s (h + j * cell_size) cell_size) n cell
      ∙ part_concat s h cell_size n

  -- the rows
  row : (t : ℕ) → t < T → row_bytes n a.rows t ≡ part_of s (h + n * cell_size + t * row_size n) (row_size n)
  row t l =
      let size : row_numbers n * number_size ≡ row_size n = omega arith in
      let base : row_start (version_of s) n t ≡ h + n * cell_size + t * row_size n = omega arith in
      concat_same (λ k. bytes_of number_size (at (a.rows t) k)) (λ k. part_of s (row_start (version_of s) n t + k * number_size) number_size) (row_numbers n)
      (λ k m.
      let e : row_start (version_of s) n t + number_size * k ≡ row_start (version_of s) n t + k * number_size = omega arith in
      let f : at (a.rows t) k ≡ number_of s (row_start (version_of s) n t + number_size * k) number_size = ap (λ (l : List ℕ). at l k) (same t l) ∙ row_at_lem s n t k m in
      part (row_start (version_of s) n t + number_size * k) number_size (at (a.rows t) k) (omega (arith, long, row_ends t T (row_size n) l)) f
      ∙ ap (λ (i : ℕ). part_of s i number_size) e)
      ∙ part_concat s (row_start (version_of s) n t) number_size (row_numbers n)
      ∙ rw (size, base)

  all_rows_lem : concat_of (row_bytes n a.rows) T ≡ part_of s (h + n * cell_size) (T * row_size n)
  all_rows_lem =
      concat_same (row_bytes n a.rows) (λ t. part_of s (h + n * cell_size + t * row_size n) (row_size n)) T row
      ∙ part_concat s (h + n * cell_size) (row_size n) T

  pub same_bytes : record_of (study (reading_of s).road (start_state (start_in (reading_of s).state)) (reading_of s).steps rows []) ≡ s
  unfolding record_of
  same_bytes =
      let e : h + (n * cell_size + T * row_size n) ≡ length s = omega (arith, within.size) in
      let first : 0 + h ≡ h = omega arith in
      let whole : part_of s 0 h ++ part_of s h (n * cell_size + T * row_size n) ≡ part_of s 0 (h + (n * cell_size + T * row_size n)) =
      rw first at (part_join s 0 h (n * cell_size + T * row_size n)) in
      rw (header, cells, all_rows_lem, part_join s h (n * cell_size) (T * row_size n))
      (whole ∙ take_all (h + (n * cell_size + T * row_size n)) s (omega (arith, e)))
