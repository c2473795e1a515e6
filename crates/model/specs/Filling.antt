-- docs/MODEL.md, 'Filling': what meter laws grant in one step, all steps filled one after the other, and what filling answers and leaves.
-- Assumes nothing.
use Rattle.std.specs.Prelude.{cond, List, ◌≡◌, ℕ, zero, suc, min, ◌<◌, length, eqb, leb, Float}
use Rattle.model.specs.declared.State.{State}
use Rattle.model.specs.declared.Law.{Law}
use Rattle.model.specs.declared.Road.{Road}
use Rattle.model.specs.Numbers.{at, fill_of, unless}
use Rattle.model.specs.Road.{zeros, most_rate}
use Rattle.model.specs.Flow.{most_release_at, supply_at, entering_at, gate_arrivals, arrivals_at}
use Rattle.model.specs.Move.{next_of}
use Rattle.model.specs.Schedules.{outflows_of, Study, study, road_at, table_size}
use Rattle.model.specs.Record.{number_size, version_of, entry_start, record_row}
use Rattle.model.specs.Reading.{reading_of, study_of}
use Rattle.model.specs.Running.{EndAnswer, end_with, no_state, lanes_fault, table_of}
use Rattle.model.specs.Meter.{wish_of, whole_below, law_at, law_fault_of}
use Rattle.model.specs.Put.{put_table, release_number, released_row, Outside}

-- what the wishes of a step are computed from: the state before it, and from the last step each release granted and what entered each cell from upstream
pub record MeterState : Type 0 where
  pub state : State
  pub releases : List ℕ
  pub entries : List ℕ

abbrev pub meter_state : State → List ℕ → List ℕ → MeterState
meter_state s releases entries = record { state = s; releases = releases; entries = entries }

-- before the first step the last release and last entry are 0
abbrev pub meter_start : State → MeterState
meter_start s = meter_state s zeros zeros

-- the wish of the law of the cell at i
abbrev pub wish_at : List Law → MeterState → ℕ → Float
wish_at laws m i = wish_of (law_at laws i) (at m.releases i) (at m.entries i) (at m.state.held i)

-- the cap of a release: queue plus arrivals, supply and 1,000,000
abbrev pub cap_at : Road → State → List ℕ → ℕ → ℕ
cap_at r s row i = min (most_release_at s row i) (min (supply_at r s i) most_rate)

-- the release is the greatest whole number not above the wish, at most the cap; it is 0 at a cell without a ramp, whose law is ignored
unfoldable pub release_of : ℕ → Float → ℕ → ℕ
release_of ramp wish cap = cond (eqb ramp 0) 0 (whole_below wish cap)

-- the release granted to the cell at i
unfoldable pub granted_at : List Law → Road → MeterState → List ℕ → ℕ → ℕ
granted_at laws r m row i = release_of (at r.ramp i) (wish_at laws m i) (cap_at r m.state row i)

-- the row with the releases granted instead of its own
unfoldable pub filled_row : List Law → Road → MeterState → List ℕ → List ℕ
filled_row laws r m row = released_row (granted_at laws r m row) r.n row

-- a step with a row whose releases are given: what the next step's wishes are computed from
abbrev pub next_metered : Road → MeterState → List ℕ → List ℕ → MeterState
next_metered r m row given =
    meter_state (next_of r m.state row (outflows_of r m.state row)) given
    (fill_of (entering_at r m.state (outflows_of r m.state row)) r.n m.entries)

-- a step with the filled row
unfoldable pub metered_of : List Law → Road → MeterState → List ℕ → MeterState
metered_of laws r m row = next_metered r m (filled_row laws r m row) (fill_of (granted_at laws r m row) r.n m.releases)

-- what the wishes of step k are computed from, if those of step 0 are computed from m: the state is the one before step k
unfoldable pub metered_from : List Law → Study → MeterState → ℕ → MeterState
metered_from laws a m zero = m
metered_from laws a m (suc k) = metered_of laws (road_at a k) (metered_from laws a m k) (a.rows k)

-- the release of the cell at i in step k
abbrev pub granted_from : List Law → Study → MeterState → ℕ → ℕ → ℕ
granted_from laws a m k i = granted_at laws (road_at a k) (metered_from laws a m k) (a.rows k) i

-- the row of step k with its releases filled
abbrev pub rows_from : List Law → Study → MeterState → ℕ → List ℕ
rows_from laws a m k = filled_row laws (road_at a k) (metered_from laws a m k) (a.rows k)

-- the study with its releases filled: road, start, T, arrivals and lanes stay
abbrev pub filled_from : List Law → Study → MeterState → Study
filled_from laws a m = study a.road a.start a.steps (rows_from laws a m) a.lanes

-- the same from the record's start; the last release and last entry before it are 0
abbrev pub metered_after : List Law → Study → ℕ → MeterState
metered_after laws a k = metered_from laws a (meter_start a.start) k

abbrev pub granted_in : List Law → Study → ℕ → ℕ → ℕ
granted_in laws a k i = granted_from laws a (meter_start a.start) k i

abbrev pub filled_study : List Law → Study → Study
filled_study laws a = filled_from laws a (meter_start a.start)

-- filling changes only the record's releases
unfoldable pub filled_bytes : List Law → List ℕ → List ℕ → List ℕ
filled_bytes laws bytes lanes = put_table bytes (study_of bytes lanes).road.n (granted_in laws (study_of bytes lanes)) (study_of bytes lanes).steps

-- the place of 16: the lowest ramp whose law has a number that isn't finite, 0 if there is none
abbrev pub law_place : List Law → Study → ℕ
law_place laws a = law_fault_of laws a.road.ramp a.road.n

-- filling takes a record, a law for each cell, a table of lanes and running's lent list. Refusals: those of reading; 16, a ramp's law with a
-- number that isn't finite; 17 and 18; 11. Otherwise it makes all T steps
unfoldable pub filling_of : List Law → List ℕ → List ℕ → List ℕ → EndAnswer
filling_of laws bytes lanes list =
    unless (eqb (reading_of bytes).number 0) (no_state (reading_of bytes).number (reading_of bytes).place)
    (unless (eqb (law_place laws (study_of bytes lanes)) 0) (no_state 16 (law_place laws (study_of bytes lanes)))
    (unless (eqb (lanes_fault (study_of bytes lanes)).number 0) (no_state (lanes_fault (study_of bytes lanes)).number (lanes_fault (study_of bytes lanes)).place)
    (unless (leb (table_size (study_of bytes lanes)) (length list)) (no_state 11 0)
    (end_with 0 0 0 (study_of bytes lanes).road (metered_after laws (study_of bytes lanes) (study_of bytes lanes).steps).state))))

-- the record and the list afterwards; a refusal leaves both unchanged
unfoldable pub record_after : List Law → List ℕ → List ℕ → List ℕ → List ℕ
record_after laws bytes lanes list = unless (eqb (filling_of laws bytes lanes list).number 0) bytes (filled_bytes laws bytes lanes)

unfoldable pub filled_list : List Law → List ℕ → List ℕ → List ℕ → List ℕ
filled_list laws bytes lanes list =
    unless (eqb (filling_of laws bytes lanes list).number 0) list
    (table_of (filled_study laws (study_of bytes lanes)) list (study_of bytes lanes).steps)

-- `after` differs from the record `bytes` only in its releases
pub record OnlyReleases (bytes after : List ℕ) : Type 0 where
  pub size : length after ≡ length bytes
  -- every byte outside the releases is unchanged
  pub byte : (b : ℕ)
      → ((t i : ℕ) → t < (reading_of bytes).steps → i < (reading_of bytes).road.n
      → Outside b (entry_start (version_of bytes) (reading_of bytes).road.n t (release_number i)) number_size)
      → at after b ≡ at bytes b
  -- road, T, start and arrivals read the same
  pub reads : reading_of after ≡ reading_of bytes
  pub gate : (t : ℕ) → t < (reading_of bytes).steps
      → gate_arrivals (record_row after (reading_of bytes).road.n t) ≡ gate_arrivals (record_row bytes (reading_of bytes).road.n t)
  pub arrivals : (t i : ℕ) → t < (reading_of bytes).steps
      → arrivals_at (record_row after (reading_of bytes).road.n t) i ≡ arrivals_at (record_row bytes (reading_of bytes).road.n t) i
