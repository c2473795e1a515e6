-- docs/MODEL.md, 'Writing': the bytes of a study's record. Assumes nothing.
use Rattle.std.specs.Prelude.{List, [], ◌++◌, ℕ, ◌-◌}
use Rattle.model.specs.declared.State.{State}
use Rattle.model.specs.declared.Start.{Start}
use Rattle.model.specs.declared.Road.{Road}
use Rattle.model.specs.Numbers.{at, concat_of, row_at}
use Rattle.model.specs.Road.{start_state}
use Rattle.model.specs.Schedules.{Study, study}
use Rattle.model.specs.Record.{count_size, short_size, number_size, seconds_size, row_numbers, bytes_of}
use Rattle.model.specs.Reading.{size_of}

-- the number of bytes that follow the first field; version; n; T; the step's seconds, if the version has them; gate capacity and queue
unfoldable pub header_of : ℕ → ℕ → ℕ → ℕ → ℕ → ℕ → List ℕ
header_of version n T seconds capacity queue =
    bytes_of count_size (size_of version n T - count_size)
    ++ (bytes_of 1 version
    ++ (bytes_of 1 n
    ++ (bytes_of short_size T
    ++ (bytes_of (seconds_size version) seconds
    ++ (bytes_of number_size capacity
    ++ bytes_of number_size queue)))))

-- a cell: v, w, b, ramp mark, two bytes each; J, C, held, ramp queue, four bytes each
unfoldable pub cell_of : ℕ → ℕ → ℕ → ℕ → ℕ → ℕ → ℕ → ℕ → List ℕ
cell_of speed wave share ramp jam capacity held queue =
    bytes_of short_size speed
    ++ (bytes_of short_size wave
    ++ (bytes_of short_size share
    ++ (bytes_of short_size ramp
    ++ (bytes_of number_size jam
    ++ (bytes_of number_size capacity
    ++ (bytes_of number_size held
    ++ bytes_of number_size queue))))))

-- the first `count` numbers of a row, four bytes each
abbrev pub numbers_of : List ℕ → ℕ → List ℕ
numbers_of row count = concat_of (λ k. bytes_of number_size (at row k)) count

-- a study's record: its size, its header, its cell at i and its row of step t
abbrev pub record_size : Study → ℕ
record_size a = size_of a.road.version a.road.n a.steps

abbrev pub header_bytes : Study → List ℕ
header_bytes a = header_of a.road.version a.road.n a.steps a.road.seconds a.road.gate_capacity a.start.gate_queue

abbrev pub cell_bytes : Road → State → ℕ → List ℕ
cell_bytes r s i =
    cell_of (at r.speed i) (at r.wave i) (at r.share i) (at r.ramp i) (at r.jam i) (at r.capacity i) (at s.held i) (at s.queue i)

abbrev pub row_bytes : ℕ → (ℕ → List ℕ) → ℕ → List ℕ
row_bytes n rows t = numbers_of (rows t) (row_numbers n)

-- the header, then the cells, then one row per step
unfoldable pub record_of : Study → List ℕ
record_of a = header_bytes a ++ (concat_of (cell_bytes a.road a.start) a.road.n ++ concat_of (row_bytes a.road.n a.rows) a.steps)

-- the study that writing is given: a road, T, a start and the numbers of all rows, one row after the other
abbrev pub given_study : Road → ℕ → Start → List ℕ → Study
given_study road T start rows = study road (start_state start) T (row_at rows (row_numbers road.n)) []
