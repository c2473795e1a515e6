-- docs/MODEL.md, 'The numbers of a row': what taking the rows of a record that reads promises. They are the record's rows, the list beyond
-- them is unchanged, and writing them with what was read gives the record's bytes again. Assumes nothing.
use Rattle.std.specs.Prelude.{◌≡◌, refl, List, ℕ, ◌*◌, ◌≤◌, ◌<◌, length, take, drop}
use Rattle.std.proofs.Common.{ap, ◌∙◌}
use Rattle.model.specs.Numbers.{at, row_at}
use Rattle.numbers.specs.Concat.{length_concat}
use Rattle.numbers.specs.TablesLaws.{concat_row}
use Rattle.model.specs.Road.{start_in}
use Rattle.model.specs.Record.{row_numbers, record_row}
use Rattle.model.specs.Reading.{reading_of}
use Rattle.reading.specs.Within.{read_within_lem}
use Rattle.taking.specs.RowLaws.{row_read}
use Rattle.model.specs.Writing.{written_count, writing_of, target_after}
use Rattle.writing.specs.Theorems.{again_answer, again_bytes}
use Rattle.model.specs.RowNumbers.{taken_row, taken_count, taken_list}
use Rattle.taking.specs.TakingLaws.{RoomForRows, length_taken_row, count_all, taken_row_lem, taken_past, taken_rows}

-- the rows as writing takes them: the front of the list, as long as the answer
abbrev pub taken_numbers : List ℕ → ℕ → ℕ → List ℕ → List ℕ
taken_numbers bytes n T list = take (taken_count n T (length list)) (taken_list bytes n T list)

module _ (s : List ℕ) (reads : (reading_of s).number ≡ 0) (list : List ℕ)
    (room : (reading_of s).steps * row_numbers (reading_of s).road.n ≤ length list) where
  abbrev n : ℕ
  n = (reading_of s).road.n

  abbrev T : ℕ
  T = (reading_of s).steps

  within : RoomForRows n T (length list)
  within = let w = read_within_lem s (reading_of s) refl reads in record { cells = w.road.cells; steps = w.steps; long = room }

  record_row_lem : (t : ℕ) → t < T → taken_row s n t ≡ record_row s n t
  record_row_lem = row_read s (reading_of s) refl reads

  pub count_numbers : taken_count n T (length list) ≡ T * row_numbers n
  count_numbers = count_all n T (length list) within

  -- row t in the list is the record's row
  pub list_row : (t : ℕ) → t < T → row_at (taken_list s n T list) (row_numbers n) t ≡ record_row s n t
  list_row t l = taken_row_lem s n T list within t l ∙ record_row_lem t l

  -- the list beyond the rows is unchanged
  pub list_beyond : drop (T * row_numbers n) (taken_list s n T list) ≡ drop (T * row_numbers n) list
  list_beyond = taken_past s n T list within

  size : (t : ℕ) → length (taken_row s n t) ≡ row_numbers n
  size t = length_taken_row s n t within.cells

  -- the same for the rows by themselves
  pub length_rows : length (taken_numbers s n T list) ≡ T * row_numbers n
  length_rows = ap length (taken_rows s n T list within) ∙ length_concat (taken_row s n) (row_numbers n) size T

  pub rows_row : (t : ℕ) → t < T → row_at (taken_numbers s n T list) (row_numbers n) t ≡ record_row s n t
  rows_row t l =
      ap (λ (x : List ℕ). row_at x (row_numbers n) t) (taken_rows s n T list within)
      ∙ concat_row (taken_row s n) (row_numbers n) size T t l
      ∙ record_row_lem t l

  -- writing what was read with these rows isn't refused and gives the same bytes
  module _ (small : (i : ℕ) → at s i < 256) (target : List ℕ) (long : length s ≤ length target) where
    pub same_answer : writing_of (reading_of s).road T (start_in (reading_of s).state) (taken_numbers s n T list) target ≡ written_count (length s)
    same_answer = again_answer s small reads (taken_numbers s n T list) target length_rows rows_row long

    pub same_bytes : take (length s) (target_after (reading_of s).road T (start_in (reading_of s).state) (taken_numbers s n T list) target) ≡ s
    same_bytes = again_bytes s small reads (taken_numbers s n T list) target length_rows rows_row long
