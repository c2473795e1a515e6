-- docs/MODEL.md, 'Putting a release': releases put into the printed run's record. Assumes nothing.
use Rattle.std.specs.Prelude.{◌≡◌, refl, [], ◌∷◌}
use Rattle.model.specs.Numbers.{fill_of, list_of, placed, one_of, first_from, first_of}
use Rattle.model.specs.Record.{number_of, bytes_of, seconds_size, record_row}
use Rattle.model.specs.Refusals.{fault}
use Rattle.model.specs.Limits.{place_ok, row_ok}
use Rattle.model.specs.Reading.{reading_by}
use Rattle.model.specs.Put.{ramp_ok, putting_of, released_record}
use Rattle.model.specs.WorkedRecord.{header, upstream, downstream, row, sample}

-- cells 0 and 3 are not on the road, and cell 1 has no ramp; 5 comes before 6
pub no_cell : putting_of sample 0 0 300 ≡ fault 5 0
unfolding putting_of ramp_ok reading_by sample header upstream downstream row number_of seconds_size one_of first_of first_from place_ok row_ok fill_of list_of
no_cell = refl

pub no_ramp_lem : putting_of sample 3 1 1000001 ≡ fault 5 1
unfolding putting_of ramp_ok reading_by sample header upstream downstream row number_of seconds_size one_of first_of first_from place_ok row_ok fill_of list_of
no_ramp_lem = refl

pub past_cells : putting_of sample 0 3 300 ≡ fault 5 3
unfolding putting_of ramp_ok reading_by sample header upstream downstream row number_of seconds_size one_of first_of first_from place_ok row_ok fill_of list_of
past_cells = refl

-- step 2 is the last; a release of 1,000,000 is put, one more is not
pub past_steps : putting_of sample 3 2 300 ≡ fault 6 3
unfolding putting_of ramp_ok reading_by sample header upstream downstream row number_of seconds_size one_of first_of first_from place_ok row_ok fill_of list_of
past_steps = refl

pub most_put : putting_of sample 2 2 1000000 ≡ fault 0 0
unfolding putting_of ramp_ok reading_by sample header upstream downstream row number_of seconds_size one_of first_of first_from place_ok row_ok fill_of list_of
most_put = refl

pub above_rate : putting_of sample 2 2 1000001 ≡ fault 6 2
unfolding putting_of ramp_ok reading_by sample header upstream downstream row number_of seconds_size one_of first_of first_from place_ok row_ok fill_of list_of
above_rate = refl

-- the release of cell 2 in step 1 becomes 7, and the row's other numbers do not change
pub put_there : record_row (released_record sample 1 2 7) 2 1 ≡ 1000 ∷ 0 ∷ 0 ∷ 500 ∷ 7 ∷ []
unfolding released_record placed bytes_of
    putting_of ramp_ok reading_by sample header upstream downstream row number_of seconds_size one_of first_of first_from place_ok row_ok fill_of list_of
put_there = refl
