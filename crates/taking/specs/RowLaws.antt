-- Laws of a row's numbers: the code's tests, and that the rows taken from a record that reads are its rows. Assumes nothing.
use Rattle.std.specs.Prelude.{◌≡◌, Bool, ◌&&◌, List, ℕ, ◌+◌, ◌*◌, ◌≤◌, ◌<◌, set, take}
use Rattle.std.proofs.Math.Path.{refl}
use Rattle.std.proofs.Common.{sym, ap, ◌∙◌}
use Rattle.std.proofs.Math.Bool.{true, false}
use native.Mathlib.Omega.{arith}
use borrow.Author.Tests.{le-leb, lt-leb}
use Rattle.std.proofs.Math.Dec.{leb}
use Rattle.std.proofs.Math.ListN.{length, length-replicate, get_or-eq_default}
use Rattle.model.specs.Numbers.{unless, fill_of}
use Rattle.model.specs.Road.{most_cells, most_steps}
use Rattle.numbers.specs.RowsLaws.{fill_more, fill_same, length_fill}
use Rattle.model.specs.Record.{version_offset, number_size, number_of, version_of, row_start, row_numbers, entry_of, record_row}
use Rattle.fields.specs.FieldsLaws.{HoldsRow, row_taken, holds_row}
use Rattle.model.specs.Reading.{ReadAnswer, reading_of}
use Rattle.reading.specs.Cases.{ReadingEnds, read_found, early_refused}
use Rattle.model.specs.RowNumbers.{no_numbers, entry_or, number_at, numbers_at, row_array}

-- one number, whose bytes are all present or not
module _ (s : List ℕ) (i : ℕ) where
  pub entry_there : {x : ℕ} → i + number_size ≤ length s → x ≡ number_of s i number_size → x ≡ entry_or s i
  unfolding entry_or
  entry_there h e = e ∙ rw (le-leb (i + number_size) (length s) h)

  pub entry_none : length s < i + number_size → 0 ≡ entry_or s i
  unfolding entry_or
  entry_none h = rw (lt-leb (i + number_size) (length s) h)

-- fewer than five bytes have no version
pub version_none : (s : List ℕ) → length s ≤ version_offset → 0 ≡ version_of s
unfolding number_of
version_none s h = omega (arith, get_or-eq_default s 0 h)

-- the array, outside the limits and within them
module _ (s : List ℕ) (n t : ℕ) where
  pub array_cells : most_cells < n → no_numbers ≡ row_array s n t
  unfolding row_array
  array_cells h = rw (lt-leb n most_cells h)

  pub array_steps : n ≤ most_cells → most_steps ≤ t → no_numbers ≡ row_array s n t
  unfolding row_array
  array_steps h l =
      let k : most_steps < t + 1 = omega arith in
      rw (le-leb n most_cells h, lt-leb (t + 1) most_steps k)

  pub array_numbers : {r : List ℕ} → n ≤ most_cells → t < most_steps → r ≡ numbers_at s n t → r ≡ row_array s n t
  unfolding row_array
  array_numbers h l e =
      let k : t + 1 ≤ most_steps = omega arith in
      e ∙ rw (le-leb n most_cells h, le-leb (t + 1) most_steps k)

  -- it has 129 numbers
  pub length_array : length (row_array s n t) ≡ row_numbers most_cells
  unfolding row_array
  length_array = go (leb n most_cells && leb (t + 1) most_steps)
    where
      go : (b : Bool) → length (unless b no_numbers (numbers_at s n t)) ≡ row_numbers most_cells
      go true = length_fill (number_at s n t) (row_numbers n) no_numbers ∙ length-replicate {A = ℕ} (row_numbers most_cells) 0
      go false = length-replicate {A = ℕ} (row_numbers most_cells) 0

-- the loop over a row's numbers: l holds the first k
pub record RowSoFar (s : List ℕ) (n t : ℕ) (l : List ℕ) (k : ℕ) : Type 0 where
  pub within : k ≤ row_numbers n
  pub numbers : l ≡ fill_of (number_at s n t) k no_numbers

module _ {s : List ℕ} {n t : ℕ} where
  pub row_none : RowSoFar s n t no_numbers 0
  unfolding fill_of
  row_none = record { within = omega arith; numbers = refl }

  module _ {l : List ℕ} {k : ℕ} (h : RowSoFar s n t l k) where
    pub row_more : {x : ℕ} → k < row_numbers n → x ≡ number_at s n t k → RowSoFar s n t (set l k x) (k + 1)
    row_more m e = record { within = omega arith; numbers = cc (fill_more (number_at s n t) k no_numbers, e, h.numbers) }

    pub row_end : row_numbers n ≤ k → l ≡ numbers_at s n t
    row_end m =
        let e : k ≡ row_numbers n = omega (arith, h.within) in
        h.numbers ∙ ap (λ (j : ℕ). fill_of (number_at s n t) j no_numbers) e

-- bytes that hold a row hold each of its numbers
held_numbers : (s : List ℕ) (n t : ℕ) → HoldsRow s n t → numbers_at s n t ≡ fill_of (entry_of s n t) (row_numbers n) no_numbers
held_numbers s n t h =
    fill_same (number_at s n t) (entry_of s n t) (row_numbers n) no_numbers
    (λ k l. sym (entry_there s (row_start (version_of s) n t + number_size * k) (omega (arith, h.row)) refl))

pub row_held : (s : List ℕ) (n t : ℕ) → t < most_steps → HoldsRow s n t → take (row_numbers n) (row_array s n t) ≡ record_row s n t
row_held s n t l h =
    ap (take (row_numbers n)) (sym (array_numbers s n t h.cells l refl))
    ∙ row_taken s n t no_numbers (numbers_at s n t) (omega (arith, length-replicate {A = ℕ} 129 0, h.cells)) (held_numbers s n t h)

-- for a record that reads, the numbers taken are the row of each of its steps
found_row : (s : List ℕ) {a : ReadAnswer} → ReadingEnds s a → a.number ≡ 0 → (t : ℕ) → t < a.steps
    → take (row_numbers a.road.n) (row_array s a.road.n t) ≡ record_row s a.road.n t
found_row s (ReadingEnds.early k l) h t m = absurd (early_refused l h)
found_row s (ReadingEnds.at_place p l) h t m = absurd (omega arith)
found_row s (ReadingEnds.at_step q l) h t m = absurd (omega arith)
found_row s {a} (ReadingEnds.clear w) h t m =
    row_held s a.road.n t (omega (arith, w.steps)) (holds_row s a.road.n t a.steps w.road.cells (omega (arith, w.size)) m)

pub row_read : (s : List ℕ) (a : ReadAnswer) → a ≡ reading_of s → a.number ≡ 0 → (t : ℕ) → t < a.steps
    → take (row_numbers a.road.n) (row_array s a.road.n t) ≡ record_row s a.road.n t
row_read s a e h = let f : ReadingEnds s a = rw e (read_found s) in found_row s f h
