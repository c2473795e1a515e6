-- What the inner functions of reading require of a record. Assumes nothing.
use Rattle.std.specs.Prelude.{◌≡◌, true, List, ℕ, ◌≤◌, length}
use Rattle.model.specs.Road.{most_cells}
use Rattle.model.specs.Numbers.{one_of}
use Rattle.model.specs.Record.{version_of, seconds_of, row_start}
use Rattle.model.specs.Reading.{cells_of, steps_of, size_of, both_versions, length_ok, cells_and_steps_ok, seconds_ok}

-- a record that holds the fields of its n cells
pub record Cells (s : List ℕ) (n : ℕ) : Type 0 where
  pub count : n ≡ cells_of s
  pub most : n ≤ most_cells
  pub held : row_start (version_of s) n 0 ≤ length s

-- a record that holds the rows of T steps
pub record Steps (s : List ℕ) (n T : ℕ) : Type 0 where
  pub most : n ≤ most_cells
  pub held : row_start (version_of s) n T ≤ length s

-- a record to which refusals 1, 2, 3, 19 and 4 do not apply
pub record Header (s : List ℕ) (n T : ℕ) : Type 0 where
  pub lengths : length_ok both_versions s ≡ true
  pub version : one_of both_versions (version_of s) ≡ true
  pub cells : n ≡ cells_of s
  pub steps : T ≡ steps_of s
  pub counts : cells_and_steps_ok n T ≡ true
  pub seconds : seconds_ok (version_of s) (seconds_of s) ≡ true
  pub size : length s ≡ size_of (version_of s) n T
