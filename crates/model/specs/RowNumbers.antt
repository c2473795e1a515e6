-- docs/MODEL.md, 'The numbers of a row': those of one step, from any bytes, and all rows in one list. Assumes nothing.
use Rattle.std.specs.Prelude.{◌&&◌, Bool, cond, List, ℕ, ◌+◌, ◌*◌, leb, length, replicate, take}
use Rattle.model.specs.Numbers.{unless, fill_of, front_of}
use Rattle.model.specs.Road.{most_cells, most_steps}
use Rattle.model.specs.Record.{number_size, number_of, version_of, entry_start, row_numbers}

-- an array for the numbers of a row of 64 cells: all 0
abbrev pub no_numbers : List ℕ
no_numbers = replicate (row_numbers most_cells) 0

-- the number in the four bytes from i on; 0 if they are not all present
unfoldable pub entry_or : List ℕ → ℕ → ℕ
entry_or s i = unless (leb (i + number_size) (length s)) 0 (number_of s i number_size)

-- number k of the row of step t, 0 if the bytes don't hold it; the layout is version 2's if byte 4 is 2, otherwise version 1's
abbrev pub number_at : List ℕ → ℕ → ℕ → ℕ → ℕ
number_at s n t k = entry_or s (entry_start (version_of s) n t k)

-- the numbers of a row of n cells, and 0 past them
abbrev pub numbers_at : List ℕ → ℕ → ℕ → List ℕ
numbers_at s n t = fill_of (number_at s n t) (row_numbers n) no_numbers

-- all are 0 for n above 64 or t from 1,440 on
unfoldable pub row_array : List ℕ → ℕ → ℕ → List ℕ
row_array s n t = unless (leb n most_cells && leb (t + 1) most_steps) no_numbers (numbers_at s n t)

-- the 1 + 2n numbers of step t's row, from any bytes
abbrev pub taken_row : List ℕ → ℕ → ℕ → List ℕ
taken_row bytes n t = take (row_numbers n) (row_array bytes n t)

-- n is at most 64, T at most 1,440, and there is room for T rows
abbrev pub room_for_rows : ℕ → ℕ → ℕ → Bool
room_for_rows n T room = leb n most_cells && (leb T most_steps && leb (T * row_numbers n) room)

-- how many numbers are put into the list; otherwise none
unfoldable pub taken_count : ℕ → ℕ → ℕ → ℕ
taken_count n T room = cond (room_for_rows n T room) (T * row_numbers n) 0

-- the list afterwards: the rows one after the other in front, and the numbers beyond them unchanged; otherwise all unchanged
unfoldable pub taken_list : List ℕ → ℕ → ℕ → List ℕ → List ℕ
taken_list bytes n T list = cond (room_for_rows n T (length list)) (front_of (taken_row bytes n) (row_numbers n) list T) list
