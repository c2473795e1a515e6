-- Laws of a record's rows in one list: when there is room for them, and the two loops that put them there. Assumes nothing.
use Rattle.std.specs.Prelude.{◌≡◌, true, false, List, ◌++◌, ℕ, ◌+◌, ◌-◌, ◌*◌, ◌≤◌, ◌<◌, length, take, drop, set}
use Rattle.std.proofs.Math.Path.{refl}
use Rattle.std.proofs.Common.{sym, ap, ◌∙◌, mul-le-mul, mul-le-mul_right, arith, length-take-le, get_or-take, ext_get_or}
use borrow.Author.Tests.{leb-true, le-leb, lt-leb}
use Rattle.model.specs.Numbers.{at, fill_of, concat_of, row_at, front_of}
use Rattle.numbers.specs.Tests.{unless_elim, le_head}
use Rattle.numbers.specs.RowsLaws.{fill_more, fill_at, length_fill}
use Rattle.numbers.specs.TablesLaws.{row_ends, mul_more, part_length, length_front, front_row, front_past, front_rows, front_more, front_none}
use Rattle.model.specs.Road.{most_cells, most_steps}
use Rattle.model.specs.Record.{row_numbers}
use Rattle.model.specs.RowNumbers.{row_array, taken_row, room_for_rows, taken_count, taken_list}
use Rattle.taking.specs.RowLaws.{length_array}

-- there is room for the rows
pub record RoomForRows (n T room : ℕ) : Type 0 where
  pub cells : n ≤ most_cells
  pub steps : T ≤ most_steps
  pub long : T * row_numbers n ≤ room

-- the most numbers that there can be; they fit a machine number
abbrev pub most_numbers : ℕ
most_numbers = most_steps * row_numbers most_cells

pub count_small : (n T : ℕ) → n ≤ most_cells → T ≤ most_steps → T * row_numbers n ≤ most_numbers
count_small n T h l = let k : row_numbers n ≤ row_numbers most_cells = omega arith in mul-le-mul l k

-- the test, from the code's tests
module _ (n T room : ℕ) where
  pub over_cells : most_cells < n → room_for_rows n T room ≡ false
  over_cells h = rw (lt-leb n most_cells h)

  pub over_steps : n ≤ most_cells → most_steps < T → room_for_rows n T room ≡ false
  over_steps h l = rw (le-leb n most_cells h, lt-leb T most_steps l)

  pub too_short : n ≤ most_cells → T ≤ most_steps → room < T * row_numbers n → room_for_rows n T room ≡ false
  too_short h l m = rw (le-leb n most_cells h, le-leb T most_steps l, lt-leb (T * row_numbers n) room m)

  has_room : RoomForRows n T room → room_for_rows n T room ≡ true
  has_room r = rw (le-leb n most_cells r.cells, le-leb T most_steps r.steps, le-leb (T * row_numbers n) room r.long)

  pub count_all : RoomForRows n T room → taken_count n T room ≡ T * row_numbers n
  unfolding taken_count
  count_all r = rw (has_room r)

  -- the answer is at most the list's length
  pub count_within : taken_count n T room ≤ room
  unfolding taken_count
  count_within =
      unless_elim (λ (m : ℕ). m ≤ room) (room_for_rows n T room) (λ _. omega arith) (λ e.
      leb-true (T * row_numbers n) room (le_head T most_steps _ (le_head n most_cells _ e).1).1)

-- without room nothing is taken, and the list is unchanged
pub untaken : (bytes : List ℕ) (n T : ℕ) (list : List ℕ) → room_for_rows n T (length list) ≡ false
    → (0 ≡ taken_count n T (length list)) × (list ≡ taken_list bytes n T list)
unfolding taken_count taken_list
untaken bytes n T list h = (rw h, rw h)

pub length_taken_row : (bytes : List ℕ) (n t : ℕ) → n ≤ most_cells → length (taken_row bytes n t) ≡ row_numbers n
length_taken_row bytes n t h = length-take-le (row_numbers n) (row_array bytes n t) (omega (arith, length_array bytes n t))

-- with room: the rows in front of the list
module _ (bytes : List ℕ) (n T : ℕ) (list : List ℕ) (r : RoomForRows n T (length list)) where
  size : (t : ℕ) → length (taken_row bytes n t) ≡ row_numbers n
  size t = length_taken_row bytes n t r.cells

  pub list_front : taken_list bytes n T list ≡ front_of (taken_row bytes n) (row_numbers n) list T
  unfolding taken_list
  list_front = rw (has_room n T (length list) r)

  -- the list keeps its length
  pub length_taken : length (taken_list bytes n T list) ≡ length list
  length_taken = ap length list_front ∙ length_front (taken_row bytes n) (row_numbers n) size list T r.long

  -- row t of the list is the row of step t
  pub taken_row_lem : (t : ℕ) → t < T → row_at (taken_list bytes n T list) (row_numbers n) t ≡ taken_row bytes n t
  taken_row_lem t l =
      ap (λ (x : List ℕ). row_at x (row_numbers n) t) list_front ∙ front_row (taken_row bytes n) (row_numbers n) size list T t l

  -- the list beyond the rows is unchanged
  pub taken_past : drop (T * row_numbers n) (taken_list bytes n T list) ≡ drop (T * row_numbers n) list
  taken_past = ap (drop (T * row_numbers n)) list_front ∙ front_past (taken_row bytes n) (row_numbers n) size list T

  -- the rows by themselves
  pub taken_rows : take (taken_count n T (length list)) (taken_list bytes n T list) ≡ concat_of (taken_row bytes n) T
  taken_rows =
      ap (λ (k : ℕ). take k (taken_list bytes n T list)) (count_all n T (length list) r)
      ∙ ap (take (T * row_numbers n)) list_front
      ∙ front_rows (taken_row bytes n) (row_numbers n) size list T

-- the loop over a row's numbers: the part of the list holds the first k
pub record CopiedRow (row start part : List ℕ) (k : ℕ) : Type 0 where
  pub within : k ≤ length start
  pub numbers : part ≡ fill_of (at row) k start

module _ {row start : List ℕ} where
  pub copied_none : CopiedRow row start start 0
  unfolding fill_of
  copied_none = record { within = omega arith; numbers = refl }

  module _ {part : List ℕ} {k : ℕ} (h : CopiedRow row start part k) where
    pub copied_length : length part ≡ length start
    copied_length = ap length h.numbers ∙ length_fill (at row) k start

    pub copied_more : {x : ℕ} → k < length start → x ≡ at row k → CopiedRow row start (set part k x) (k + 1)
    copied_more l e = record { within = omega arith; numbers = cc (fill_more (at row) k start, e, h.numbers) }

    pub copied_end : length start ≤ length row → length start ≤ k → part ≡ take (length start) row
    copied_end l m =
        let e : k ≡ length start = omega (arith, h.within) in
        let size : length (fill_of (at row) (length start) start) ≡ length (take (length start) row) =
        length_fill (at row) (length start) start ∙ sym (length-take-le (length start) row l) in
        h.numbers
        ∙ ap (λ (j : ℕ). fill_of (at row) j start) e
        ∙ ext_get_or 0 (fill_of (at row) (length start) start) (take (length start) row) size
        (λ i j.
        let i_in : i < length start = omega (arith, length_fill (at row) (length start) start) in
        fill_at (at row) (length start) start i i_in (omega arith) ∙ sym (get_or-take (length start) row i 0 i_in))

-- the loop over the steps: the rows of the first t steps are in the list, and the next begins at `from`
pub record RowsSoFar (bytes : List ℕ) (n T : ℕ) (list out : List ℕ) (from t : ℕ) : Type 0 where
  pub within : t ≤ T
  pub place : from ≡ t * row_numbers n
  pub rows : out ≡ front_of (taken_row bytes n) (row_numbers n) list t

module _ {bytes : List ℕ} {n T : ℕ} {list : List ℕ} where
  pub listed_none : RowsSoFar bytes n T list list 0 0
  listed_none = record { within = omega arith; place = omega arith; rows = sym (front_none (taken_row bytes n) (row_numbers n) list) }

  module _ {out : List ℕ} {from t : ℕ} (h : RowsSoFar bytes n T list out from t) (r : RoomForRows n T (length list)) where
    -- the list keeps its length
    pub listed_length : length out ≡ length list
    listed_length =
        ap length h.rows
        ∙ length_front (taken_row bytes n) (row_numbers n) (size bytes n T list r) list t
        (omega (arith, r.long, mul-le-mul_right {m = t} {n = T} (row_numbers n) h.within))

    -- the next row is within the list
    pub row_fits : t < T → from + row_numbers n ≤ length out
    row_fits l = omega (arith, row_ends t T (row_numbers n) l, h.place, r.long, listed_length)

    pub row_small : t < T → from + row_numbers n ≤ most_numbers
    row_small l = omega (arith, row_ends t T (row_numbers n) l, h.place, count_small n T r.cells r.steps)

    -- one more row, as the code's write to a part of the list leaves it
    pub listed_more : t < T → {row part : List ℕ} → row ≡ row_array bytes n t
        → part ≡ take (length (take (from + row_numbers n - from) (drop from out))) row
        → RowsSoFar bytes n T list (take from out ++ (part ++ drop (from + row_numbers n - from) (drop from out))) (from + row_numbers n) (t + 1)
    listed_more l {row} {part} er ep =
        let e : part ≡ taken_row bytes n t =
        ep ∙ ap (λ (w : ℕ). take w row) (part_length out from (row_numbers n) (row_fits l)) ∙ ap (take (row_numbers n)) er in
        record {
          within = omega arith;
          place = omega (arith, h.place, mul_more t (row_numbers n));
          rows = front_more (taken_row bytes n) (row_numbers n) (size bytes n T list r) list t out part from h.rows e h.place;
        }

    -- all rows are in the list
    pub listed_end : T ≤ t → (from ≡ taken_count n T (length list)) × (out ≡ taken_list bytes n T list)
    listed_end m =
        let e : t ≡ T = omega (arith, h.within) in (
          h.place ∙ ap (λ (j : ℕ). j * row_numbers n) e ∙ sym (count_all n T (length list) r),
          h.rows ∙ ap (front_of (taken_row bytes n) (row_numbers n) list) e ∙ sym (list_front bytes n T list r),
        )
