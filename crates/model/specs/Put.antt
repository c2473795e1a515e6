-- docs/MODEL.md, 'Putting a release': its refusals in order, and the record afterwards; the releases of all cells and steps, as filling puts
-- them. Assumes nothing.
use Rattle.std.specs.Prelude.{◌≡◌, Bool, false, ◌&&◌, List, ◌⊎◌, ℕ, zero, suc, ◌*◌, ◌-◌, ◌≤◌, ◌+◌, ◌<◌, leb, ltb, eqb, length, set}
use Rattle.model.specs.Numbers.{at, unless, placed}
use Rattle.model.specs.Road.{most_rate}
use Rattle.model.specs.Record.{number_size, version_of, entry_start, entry_of, record_row, bytes_of}
use Rattle.model.specs.Refusals.{FaultAnswer, fault}
use Rattle.model.specs.Reading.{reading_of}

-- x put as number k of the row of step t
abbrev pub put_entry : List ℕ → ℕ → ℕ → ℕ → ℕ → List ℕ
put_entry s n t k x = placed s (entry_start (version_of s) n t k) (bytes_of number_size x)

-- 5 applies if this fails: the cell is one of 1 to n and has a ramp
unfoldable pub ramp_ok : List ℕ → ℕ → ℕ → Bool
ramp_ok ramp n zero = false
ramp_ok ramp n (suc i) = leb (suc i) n && eqb (at ramp i) 1

-- 6 applies if this fails: the step is before T, and the release is at most 1,000,000
abbrev pub step_and_rate_ok : ℕ → ℕ → ℕ → Bool
step_and_rate_ok step T release = ltb step T && leb release most_rate

-- the release of cell i is number 2i of a row
abbrev pub with_release : List ℕ → ℕ → ℕ → ℕ → ℕ → List ℕ
with_release bytes n step cell release = put_entry bytes n step (2 * cell) release

-- the refusals of reading; 5 at a cell that has no ramp or isn't on the road; 6 at a step from T on or with a release above 1,000,000
unfoldable pub putting_of : List ℕ → ℕ → ℕ → ℕ → FaultAnswer
putting_of bytes step cell release =
    unless (eqb (reading_of bytes).number 0) (fault (reading_of bytes).number (reading_of bytes).place)
    (unless (ramp_ok (reading_of bytes).road.ramp (reading_of bytes).road.n cell) (fault 5 cell)
    (unless (step_and_rate_ok step (reading_of bytes).steps release) (fault 6 step)
    (fault 0 0)))

-- the record afterwards; a refusal leaves it unchanged
unfoldable pub released_record : List ℕ → ℕ → ℕ → ℕ → List ℕ
released_record bytes step cell release =
    unless (eqb (putting_of bytes step cell release).number 0) bytes (with_release bytes (reading_of bytes).road.n step cell release)

-- a cell from 1 to n that has a ramp
pub record Ramp (ramp : List ℕ) (n cell : ℕ) : Type 0 where
  pub some : 1 ≤ cell
  pub within : cell ≤ n
  pub mark : at ramp (cell - 1) ≡ 1

-- k is outside the w places from i on
abbrev pub Outside : ℕ → ℕ → ℕ → Type 0
Outside k i w = (k < i) ⊎ (i + w ≤ k)

-- u is s with x put as number k of the row of step t: exactly that number changes
pub record NumberPut (s u : List ℕ) (n t k x : ℕ) : Type 0 where
  pub size : length u ≡ length s
  pub version : version_of u ≡ version_of s
  -- every byte outside its four is unchanged
  pub byte : (b : ℕ) → Outside b (entry_start (version_of s) n t k) number_size → at u b ≡ at s b
  -- the number is there, and every other number of every row is unchanged
  pub number : entry_of u n t k ≡ x
  pub others : (q j : ℕ) → j < 1 + 2 * n → (q ≡ t → j ≡ k → ⊥) → entry_of u n q j ≡ entry_of s n q j
  -- the same for whole rows
  pub row : record_row u n t ≡ set (record_row s n t) k x
  pub rows : (q : ℕ) → (q ≡ t → ⊥) → record_row u n q ≡ record_row s n q

-- what holds if nothing is refused: the record reads, the cell is on the road and has a ramp, the step is before T, and the release is at most 1,000,000
pub record PutRequest (bytes : List ℕ) (step cell release : ℕ) : Type 0 where
  pub reads : (reading_of bytes).number ≡ 0
  pub ramp : Ramp (reading_of bytes).road.ramp (reading_of bytes).road.n cell
  pub before : step < (reading_of bytes).steps
  pub rate : release ≤ most_rate

-- the record after a release was put into it
pub record ReleasePut (bytes after : List ℕ) (step cell release : ℕ) : Type 0 where
  -- exactly that number changes: every other byte, and every other number of every row, is unchanged
  pub put : NumberPut bytes after (reading_of bytes).road.n step (2 * cell) release
  -- it reads without refusal, as before: the same road, T and start
  pub reads : reading_of after ≡ reading_of bytes

-- the cases of putting's answer, with the record that each leaves
pub data PutEnds (bytes : List ℕ) (step cell release : ℕ) : FaultAnswer → List ℕ → Type 0 where
  unread : ((reading_of bytes).number ≡ 0 → ⊥) → PutEnds bytes step cell release (fault (reading_of bytes).number (reading_of bytes).place) bytes
  no_ramp : (reading_of bytes).number ≡ 0 → (Ramp (reading_of bytes).road.ramp (reading_of bytes).road.n cell → ⊥)
      → PutEnds bytes step cell release (fault 5 cell) bytes
  no_rate : (reading_of bytes).number ≡ 0 → Ramp (reading_of bytes).road.ramp (reading_of bytes).road.n cell
      → (step < (reading_of bytes).steps → release ≤ most_rate → ⊥) → PutEnds bytes step cell release (fault 6 step) bytes
  put : PutRequest bytes step cell release → {after : List ℕ} → ReleasePut bytes after step cell release → PutEnds bytes step cell release (fault 0 0) after

-- the release of the cell at i is number 2i + 2 of a row
abbrev pub release_number : ℕ → ℕ
release_number i = 2 * i + 2

-- the releases of the first c cells put into the row of step t; f i is that of the cell at i
unfoldable pub put_releases : List ℕ → ℕ → ℕ → (ℕ → ℕ) → ℕ → List ℕ
put_releases s n t f zero = s
put_releases s n t f (suc c) = put_entry (put_releases s n t f c) n t (release_number c) (f c)

-- the releases of all n cells put into the rows of the first k steps; f t i is that of the cell at i in step t
unfoldable pub put_table : List ℕ → ℕ → (ℕ → ℕ → ℕ) → ℕ → List ℕ
put_table s n f zero = s
put_table s n f (suc k) = put_releases (put_table s n f k) n k (f k) n

-- a row with the releases of the first c cells given by f
unfoldable pub released_row : (ℕ → ℕ) → ℕ → List ℕ → List ℕ
released_row f zero row = row
released_row f (suc c) row = set (released_row f c row) (release_number c) (f c)
