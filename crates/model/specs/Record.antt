-- docs/MODEL.md, 'The record': where each field is, and the numbers, columns and rows that the bytes give. Assumes nothing.
use Rattle.std.specs.Prelude.{cond, List, [], ◌∷◌, ◌++◌, ℕ, zero, suc, ◌+◌, ◌*◌, ◌/◌, ◌%◌, eqb}
use Rattle.model.specs.Numbers.{at, fill_of, list_of}
use Rattle.model.specs.Road.{zeros}

-- all fields are big-endian and unsigned: the number in the w bytes from i, the highest byte first
unfoldable pub number_of : List ℕ → ℕ → ℕ → ℕ
number_of s i zero = 0
number_of s i (suc w) = number_of s i w * 256 + at s (i + w)

-- the other direction: the w bytes of a number
unfoldable pub bytes_of : ℕ → ℕ → List ℕ
bytes_of zero x = []
bytes_of (suc w) x = bytes_of w (x / 256) ++ (x % 256 ∷ [])

-- a number has four bytes, a short one two
abbrev pub number_size : ℕ
number_size = 4

abbrev pub short_size : ℕ
short_size = 2

-- bytes 0 to 3: the number of bytes that follow them
abbrev pub count_size : ℕ
count_size = 4

-- byte 4: the version, 1 or 2
abbrev pub version_offset : ℕ
version_offset = 4

abbrev pub first_version : ℕ
first_version = 1

abbrev pub second_version : ℕ
second_version = 2

abbrev pub version_of : List ℕ → ℕ
version_of s = number_of s version_offset 1

-- byte 5: n
abbrev pub cells_offset : ℕ
cells_offset = 5

-- bytes 6, 7: T
abbrev pub steps_offset : ℕ
steps_offset = 6

-- version 2 has two more bytes after byte 7, the step's seconds, and everything after them comes two bytes later; other versions have none
abbrev pub seconds_offset : ℕ
seconds_offset = 8

unfoldable pub seconds_size : ℕ → ℕ
seconds_size version = cond (eqb version second_version) short_size 0

-- bytes 8 to 11 of version 1: gate capacity
abbrev pub gate_capacity_offset : ℕ → ℕ
gate_capacity_offset version = 8 + seconds_size version

-- bytes 12 to 15 of version 1: gate queue
abbrev pub gate_queue_offset : ℕ → ℕ
gate_queue_offset version = 12 + seconds_size version

-- everything before the cells
abbrev pub header_size : ℕ → ℕ
header_size version = 16 + seconds_size version

-- then 24 bytes per cell
abbrev pub cell_size : ℕ
cell_size = 24

-- v, w, b, ramp mark, two bytes each
abbrev pub speed_offset : ℕ
speed_offset = 0

abbrev pub wave_offset : ℕ
wave_offset = 2

abbrev pub share_offset : ℕ
share_offset = 4

abbrev pub ramp_offset : ℕ
ramp_offset = 6

-- J, C, held, ramp queue, four bytes each
abbrev pub jam_offset : ℕ
jam_offset = 8

abbrev pub capacity_offset : ℕ
capacity_offset = 12

abbrev pub held_offset : ℕ
held_offset = 16

abbrev pub queue_offset : ℕ
queue_offset = 20

-- then one row per step, four bytes per number: gate arrivals; then for each cell its ramp arrivals and its release
abbrev pub rates_size : ℕ
rates_size = 8

abbrev pub row_size : ℕ → ℕ
row_size n = number_size + rates_size * n

-- where the row of step t starts; the whole is 16 + 24n + T × (4 + 8n) bytes, in version 2 two more
abbrev pub row_start : ℕ → ℕ → ℕ → ℕ
row_start version n t = header_size version + cell_size * n + t * row_size n

-- the step's seconds, 0 if the version has none
abbrev pub seconds_of : List ℕ → ℕ
seconds_of s = number_of s seconds_offset (seconds_size (version_of s))

-- the field of w bytes at an offset into the cell at i
abbrev pub field_of : List ℕ → ℕ → ℕ → ℕ → ℕ
field_of s offset w i = number_of s (header_size (version_of s) + cell_size * i + offset) w

-- one field of each of the n cells, in an array of 64; entries past cell n are 0
abbrev pub column_of : List ℕ → ℕ → ℕ → ℕ → List ℕ
column_of s offset w n = fill_of (field_of s offset w) n zeros

-- where number k of that row is
abbrev pub entry_start : ℕ → ℕ → ℕ → ℕ → ℕ
entry_start version n t k = row_start version n t + number_size * k

-- number k of the row of step t
abbrev pub entry_of : List ℕ → ℕ → ℕ → ℕ → ℕ
entry_of s n t k = number_of s (entry_start (version_of s) n t k) number_size

-- how many numbers a row of n cells has
abbrev pub row_numbers : ℕ → ℕ
row_numbers n = 1 + 2 * n

-- the row of step t: 1 + 2n numbers in the record's order
abbrev pub record_row : List ℕ → ℕ → ℕ → List ℕ
record_row s n t = list_of (entry_of s n t) (row_numbers n)
