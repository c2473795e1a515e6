-- Laws of the record's fields. Assumes nothing.
use Rattle.std.specs.Prelude.{List, ℕ, ◌+◌, ◌≤◌, ◌*◌, ◌^◌, ◌<◌, length, take, drop, set, ◌≡◌, Bool, true, false, cond, eqb}
use Rattle.std.proofs.Math.Path.{refl}
use Rattle.std.proofs.Common.{ap, ◌∙◌, pow-suc, mul-le-mul, mul-le-mul_right, suc-mul, add-one, arith, eq-eqb, ne_eqb, take_at}
use Rattle.std.proofs.Math.Nat.{pow-le-pow_right}
use Rattle.model.specs.Road.{most_cells, most_steps, zeros}
use Rattle.model.specs.Record.{version_of, row_size, row_start, short_size, second_version, seconds_size, cell_size, number_of, field_of, column_of, entry_of, record_row}
use Rattle.model.specs.Numbers.{at, fill_of}
use Rattle.numbers.specs.Zeros.{length_zeros, zeros_at}
use Rattle.numbers.specs.RowsLaws.{fill_at, fill_more, fill_past, fill_list, length_fill, length_list, list_at}

-- the bytes hold the row of step t of n cells
pub record HoldsRow (s : List ℕ) (n t : ℕ) : Type 0 where
  pub cells : n ≤ most_cells
  pub row : row_start (version_of s) n t + row_size n ≤ length s

pub number_more : (s : List ℕ) (i w : ℕ) → number_of s i (w + 1) ≡ number_of s i w * 256 + at s (i + w)
unfolding number_of
number_more s i w = rw add-one

-- a number with one more byte stays below the bound
pub power_more : (k r b : ℕ) → r < 256 ^ k → b < 256 → r * 256 + b < 256 ^ (k + 1)
power_more k r b h l = rw (add-one, pow-suc) (omega arith)

pub power_small : (k : ℕ) → k ≤ 3 → 256 ^ k ≤ 16777216
power_small k h = let p : 0 < 256 = omega arith in pow-le-pow_right p h

pub power_short : (k : ℕ) → k ≤ short_size → 256 ^ k ≤ 65536
power_short k h = let p : 0 < 256 = omega arith in pow-le-pow_right p h

-- the bytes of the step's seconds: two in version 2, none in any other
pub seconds_second : (version : ℕ) → version ≡ second_version → seconds_size version ≡ short_size
unfolding seconds_size
seconds_second version e = rw (eq-eqb version second_version e)

pub seconds_none : (version : ℕ) → (version ≡ second_version → ⊥) → seconds_size version ≡ 0
unfolding seconds_size
seconds_none version h = rw (ne_eqb version second_version h)

pub seconds_most : (version : ℕ) → seconds_size version ≤ short_size
unfolding seconds_size
seconds_most version = go (eqb version second_version)
  where
    go : (b : Bool) → cond b short_size 0 ≤ short_size
    go true = omega arith
    go false = omega arith

-- a column l of n cells: an entry up to cell n is that cell's field, and an entry past it is 0
pub record Column (s : List ℕ) (offset w n : ℕ) (l : List ℕ) : Type 0 where
  pub entries : length l ≡ 64
  pub cell : (i : ℕ) → i < n → at l i ≡ field_of s offset w i
  pub past : (i : ℕ) → n ≤ i → at l i ≡ 0

pub column : (s : List ℕ) (offset w n : ℕ) → n ≤ 64 → Column s offset w n (column_of s offset w n)
column s offset w n h = record {
  entries = length_fill (field_of s offset w) n zeros ∙ length_zeros;
  cell = λ i l. fill_at (field_of s offset w) n zeros i l (omega (arith, length_zeros));
  past = λ i l. fill_past (field_of s offset w) n zeros i l ∙ zeros_at i;
}

-- the loop over a column's cells: l holds the fields of the first i
pub record CollectedColumn (s : List ℕ) (offset w n : ℕ) (l : List ℕ) (i : ℕ) : Type 0 where
  pub within : i ≤ n
  pub fields : l ≡ fill_of (field_of s offset w) i zeros

module _ {s : List ℕ} {offset w n : ℕ} where
  pub collected_none : CollectedColumn s offset w n zeros 0
  unfolding fill_of
  collected_none = record { within = omega arith; fields = refl }

  module _ {l : List ℕ} {i : ℕ} (h : CollectedColumn s offset w n l i) where
    pub collected_more : {x : ℕ} → i < n → x ≡ field_of s offset w i → CollectedColumn s offset w n (set l i x) (i + 1)
    collected_more k e = record { within = omega arith; fields = cc (fill_more (field_of s offset w) i zeros, e, h.fields) }

    pub collected_end : n ≤ i → l ≡ column_of s offset w n
    collected_end k =
        let e : i ≡ n = omega (arith, h.within) in
        h.fields ∙ ap (column_of s offset w) e

-- a row: its length, each of its numbers, and the end of its bytes
pub length_row : (s : List ℕ) (n t : ℕ) → length (record_row s n t) ≡ 1 + 2 * n
length_row s n t = length_list (entry_of s n t) (1 + 2 * n)

pub row_at_lem : (s : List ℕ) (n t k : ℕ) → k < 1 + 2 * n → at (record_row s n t) k ≡ entry_of s n t k
row_at_lem s n t k l = list_at (entry_of s n t) (1 + 2 * n) k l

pub row_within : (version n t T : ℕ) → t < T → row_start version n t + row_size n ≤ row_start version n T
row_within version n t T h = omega (arith, suc-mul t (row_size n), mul-le-mul_right (row_size n) h)

-- if n and t are within their limits, the row's start fits a machine number
abbrev pub most_size : ℕ
most_size = 16 + short_size + cell_size * most_cells + most_steps * row_size most_cells

pub start_small : (version n t : ℕ) → n ≤ most_cells → t ≤ most_steps → row_start version n t ≤ most_size
start_small version n t h l =
    let k : row_size n ≤ row_size most_cells = omega arith in
    omega (arith, seconds_most version, mul-le-mul l k)

-- bytes that hold T rows hold each
pub holds_row : (s : List ℕ) (n t T : ℕ) → n ≤ most_cells → row_start (version_of s) n T ≤ length s → t < T → HoldsRow s n t
holds_row s n t T h k l = record { cells = h; row = omega (arith, row_within (version_of s) n t T l) }

-- the numbers of a row, taken from the array that they were stored in
pub row_taken : (s : List ℕ) (n t : ℕ) (l r : List ℕ) → 1 + 2 * n ≤ length l → r ≡ fill_of (entry_of s n t) (1 + 2 * n) l
    → take (1 + 2 * n) r ≡ record_row s n t
row_taken s n t l r h e =
    ap (take (1 + 2 * n)) (e ∙ fill_list (entry_of s n t) (1 + 2 * n) l h)
    ∙ take_at (record_row s n t) (drop (1 + 2 * n) l) (1 + 2 * n) (length_row s n t)
