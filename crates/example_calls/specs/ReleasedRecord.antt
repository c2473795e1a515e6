-- What `released` answers and leaves: the record's rows with another release of cell 2 in step 0, and the record written with them. Assumes nothing.
use Rattle.std.specs.Prelude.{cond, List, ℕ, leb, length, set}
use Rattle.model.specs.Road.{start_in}
use Rattle.model.specs.Reading.{reading_of}
use Rattle.model.specs.RowNumbers.{taken_list}
use Rattle.model.specs.Writing.{writing_of, target_after}

-- the lent list: the record's rows with the release as number 4; unchanged there if the list is shorter
abbrev pub released_rows : List ℕ → ℕ → List ℕ → List ℕ
released_rows bytes release list = set (taken_list bytes (reading_of bytes).road.n (reading_of bytes).steps list) 4 release

-- the count of bytes that writing returns, 0 if the list has no number 4
abbrev pub released_count : List ℕ → ℕ → List ℕ → List ℕ → ℕ
released_count bytes release list target =
    cond (leb (length list) 4) 0
    (writing_of (reading_of bytes).road (reading_of bytes).steps (start_in (reading_of bytes).state) (released_rows bytes release list) target).count

-- the target that writing leaves; unchanged if the list has no number 4
abbrev pub released_target : List ℕ → ℕ → List ℕ → List ℕ → List ℕ
released_target bytes release list target =
    cond (leb (length list) 4) target
    (target_after (reading_of bytes).road (reading_of bytes).steps (start_in (reading_of bytes).state) (released_rows bytes release list) target)
