-- Laws of lanes: the capacity that they leave, and the tests of 17 and 18 as facts. Assumes nothing.
use Rattle.std.specs.Prelude.{◌≡◌, Bool, true, List, ℕ, zero, suc, ◌+◌, ◌*◌, ◌/◌, ◌%◌, ◌-◌, min, ◌≤◌, ◌<◌, eqb, length, set, take, drop}
use Rattle.std.proofs.Math.Path.{refl}
use Rattle.std.proofs.Common.{sym, ap, ◌∙◌, ⊎_elim, eq-zero-or-pos, mul-le-mul_left, mul-le-mul_right, suc-mul, mul_comm}
use Rattle.std.proofs.Common.{mul-div_cancel, div-mul-le_self, le-div_iff_mul-le, add-one, eqb-true, eq-eqb}
use Rattle.std.proofs.Math.Nat.{min-le_left, min-le_right, div-zero, div-le_of_le-mul}
use native.Mathlib.Omega.{arith}
use Rattle.std.proofs.Math.Arith.{bin_ind}
use Rattle.std.specs.Int.Bits.{bit_and, and_step, and_self}
use Rattle.std.proofs.lemmas.Nat.{and_le_l}
use Rattle.std.specs.Int.Count.{ones_in, ones, ones_step}
use Rattle.std.proofs.Math.ListN.{get_or-eq_default}
use Rattle.model.specs.Numbers.{at, all_of, fill_of, row_at}
use Rattle.numbers.specs.Tests.{order, le_head, le_then}
use Rattle.numbers.specs.FirstLaws.{all_at}
use Rattle.numbers.specs.RowsLaws.{fill_more}
use Rattle.numbers.specs.TablesLaws.{row_entry, part_row, row_ends, mul_more}
use Rattle.model.specs.Lanes.{most_number, open_capacity, open_capacities, lanes_ok, lanes_at, built_in, open_in, table_at, table_bytes}

-- C 2000 with two of three lanes open leaves 1333; with none open or none built 0; with more open than built at most the greatest number of 32 bits
pub on_paper : (open_capacity 2000 7 5 ≡ 1333) × ((open_capacity 2000 7 0 ≡ 0) × ((open_capacity 2000 0 7 ≡ 0) × (open_capacity most_number 1 3 ≡ most_number)))
unfolding open_capacity ones ones_in
on_paper = (refl, (refl, (refl, refl)))

-- the byte 0 has no lane
pub ones_none : ones 0 ≡ 0
unfolding ones
ones_none = refl

-- a byte that is not 0 has a lane
pub ones_pos : (n : ℕ) → 0 < n → 0 < ones n
ones_pos = bin_ind (λ (n : ℕ). 0 < n → 0 < ones n) (λ p. absurd (omega arith))
    (λ n ih p. ⊎_elim (λ (z : n / 2 ≡ 0). omega (arith, ones_step n)) (λ (q : 0 < n / 2). omega (arith, ones_step n, ih q)) (eq-zero-or-pos (n / 2)))

-- if a's lanes are among b's, they are no more
pub ones_within : (a b : ℕ) → bit_and a b ≡ a → ones a ≤ ones b
ones_within = bin_ind (λ (a : ℕ). (b : ℕ) → bit_and a b ≡ a → ones a ≤ ones b) (λ b e. omega (arith, ones_none))
    (λ a ih b e.
    let x : bit_and (a / 2) (b / 2) ≡ a / 2 = omega (arith, and_step a b, and_le_l (a / 2) (b / 2), min-le_left (a % 2) (b % 2)) in
    let m : min (a % 2) (b % 2) ≡ a % 2 = omega (arith, and_step a b, and_le_l (a / 2) (b / 2), min-le_left (a % 2) (b % 2)) in
    omega (arith, ones_step a, ones_step b, ih (b / 2) x, min-le_right (a % 2) (b % 2)))

-- with no lane built the capacity is 0
pub open_unbuilt : (c usable : ℕ) → open_capacity c 0 usable ≡ 0
unfolding open_capacity ones
open_unbuilt c usable = rw (div-zero (c * ones usable)) refl

-- with all lanes open it is C
pub open_all : (c built : ℕ) → 0 < built → c ≤ most_number → open_capacity c built built ≡ c
unfolding open_capacity
open_all c built l m = rw (mul-div_cancel c (ones_pos built l)) (omega arith)

-- if every open lane is built, it is at most C
pub open_le : (c built usable : ℕ) → bit_and usable built ≡ usable → open_capacity c built usable ≤ c
unfolding open_capacity
open_le c built usable e =
    let h : c * ones usable / ones built ≤ c = div-le_of_le-mul (ones built) (omega (arith, mul-le-mul_left c (ones_within usable built e))) in
    omega (arith, min-le_left (c * ones usable / ones built) most_number)

-- a larger capacity leaves no less
pub open_mono : (c d built usable : ℕ) → c ≤ d → open_capacity c built usable ≤ open_capacity d built usable
unfolding open_capacity
open_mono c d built usable l = go (ones built) refl
  where
    go : (b : ℕ) → ones built ≡ b → min (c * ones usable / ones built) most_number ≤ min (d * ones usable / ones built) most_number
    go zero e = rw (e, div-zero (c * ones usable), div-zero (d * ones usable)) (omega arith)
    go (suc b) e =
        let h : c * ones usable / suc b ≤ d * ones usable / suc b =
        (le-div_iff_mul-le {k = suc b} {x = c * ones usable / suc b} {y = d * ones usable} (omega arith)).1
        (omega (arith, div-mul-le_self (c * ones usable) (suc b), mul-le-mul_right (ones usable) l)) in
        rw e (omega arith)

-- the test of 18 as facts
pub record Lanes (built usable : ℕ) : Type 0 where
  pub some : 0 < built
  pub within : bit_and usable built ≡ usable

pub lanes_facts : (built usable : ℕ) → lanes_ok built usable ≡ true → Lanes built usable
unfolding lanes_ok
lanes_facts built usable h =
    let p = le_head 1 built (eqb (bit_and usable built) usable) h in
    record { some = p.0; within = eqb-true (bit_and usable built) usable p.1 }

-- all built lanes open pass the test
pub lanes_all : (built : ℕ) → 0 < built → lanes_ok built built ≡ true
unfolding lanes_ok
lanes_all built l = le_then 1 built (eqb (bit_and built built) built) l (eq-eqb (bit_and built built) built (and_self built))

-- the byte of a table at a cell, in the row of lanes built and in the row of a step
pub built_byte : (table : List ℕ) (n i : ℕ) → i < n → at table i ≡ at (built_in table n) i
built_byte table n i l =
    let e : 0 * n + i ≡ i = omega arith in
    ap (at table) (sym e) ∙ sym (row_entry table n 0 i l)

pub open_byte : (table : List ℕ) (n k i to : ℕ) → i < n → to ≡ k * n + i → at table (to + n) ≡ at (open_in table n k) i
open_byte table n k i to l e =
    let f : to + n ≡ suc k * n + i = omega (arith, suc-mul k n) in
    ap (at table) f ∙ sym (row_entry table n (suc k) i l)

pub cell_found : (table : List ℕ) (n k i to : ℕ) {b : Bool} → i < n → to ≡ k * n + i → b ≡ lanes_ok (at table i) (at table (to + n))
    → b ≡ lanes_at (built_in table n) (open_in table n k) i
cell_found table n k i to l e eb = rw (built_byte table n i l, open_byte table n k i to l e) at eb

-- the byte is within the table
pub byte_within : (n T k i to : ℕ) → i < n → k < T → to ≡ k * n + i → to + n < table_bytes n T
byte_within n T k i to l m e =
    omega (arith, e, mul_comm n (T + 1), suc-mul k n, suc-mul (suc k) n, mul-le-mul_right {m = suc (suc k)} {n = T + 1} n (omega arith))

-- the rows of a step are within the table
pub rows_within : (table : List ℕ) (n T k : ℕ) → k < T → length table ≡ table_bytes n T → (k + 1) * n + n ≤ length table
rows_within table n T k l e = omega (arith, mul_comm n (T + 1), mul_more k n, row_ends k T n l, mul_more T n)

-- past the table's rows no lane is open
open_past : (table : List ℕ) (n T k i : ℕ) → length table ≡ table_bytes n T → T ≤ k → i < n → at (open_in table n k) i ≡ 0
open_past table n T k i e l m =
    row_entry table n (suc k) i m
    ∙ get_or-eq_default table 0 (omega (arith, mul_comm n (T + 1), mul-le-mul_right {m = T + 1} {n = suc k} n (omega arith)))

-- in a table of the right size that passes 18, each open lane is built in every step
pub table_within : (table : List ℕ) (n T : ℕ) → length table ≡ table_bytes n T → all_of (table_at table n T) n ≡ true
    → (k i : ℕ) → i < n → bit_and (at (open_in table n k) i) (at (built_in table n) i) ≡ at (open_in table n k) i
table_within table n T e h k i l = ⊎_elim
    (λ (m : T ≤ k). rw (open_past table n T k i e m l) refl)
    (λ (m : k < T).
    (lanes_facts (at (built_in table n) i) (at (open_in table n k) i)
    (all_at (λ j. lanes_at (built_in table n) (open_in table n j) i) T (all_at (table_at table n T) n h i l) k m)).within)
    (order T k)

-- the loop over the cells has computed the capacities of the first i
pub record OpenedCells (capacity built usable left : List ℕ) (i : ℕ) : Type 0 where
  pub done : left ≡ open_capacities capacity built usable i

module _ {capacity built usable : List ℕ} where
  pub opened_none : OpenedCells capacity built usable capacity 0
  unfolding fill_of
  opened_none = record { done = refl }

  pub opened_more : {left : List ℕ} {i x : ℕ} → OpenedCells capacity built usable left i
      → x ≡ open_capacity (at capacity i) (at built i) (at usable i) → OpenedCells capacity built usable (set left i x) (i + 1)
  opened_more {left} {i} {x} h e = record {
    done = rw (h.done, e) (sym (fill_more (λ j. open_capacity (at capacity j) (at built j) (at usable j)) i capacity));
  }

  pub opened_end : {left : List ℕ} {n i : ℕ} → OpenedCells capacity built usable left i → i ≡ n → left ≡ open_capacities capacity built usable n
  opened_end h e = h.done ∙ ap (open_capacities capacity built usable) e

-- the rows of a step, as the code's slices give them
built_row : (table : List ℕ) (n : ℕ) → take n table ≡ built_in table n
unfolding row_at
built_row table n = let e : 0 * n ≡ 0 = omega arith in rw e

pub cut_capacities : (capacity table : List ℕ) (n k : ℕ) {left : List ℕ}
    → left ≡ open_capacities capacity (take n table) (take ((k + 1) * n + n - (k + 1) * n) (drop ((k + 1) * n) table)) n
    → left ≡ open_capacities capacity (built_in table n) (open_in table n k) n
cut_capacities capacity table n k e =
    let o : take ((k + 1) * n + n - (k + 1) * n) (drop ((k + 1) * n) table) ≡ open_in table n k = part_row table n (suc k) ((k + 1) * n) (rw add-one refl) in
    rw (built_row table n, o) at e

-- the capacity that the code computes from its counts of lanes
pub open_empty : (c built usable : ℕ) → ones built ≡ 0 → 0 ≡ open_capacity c built usable
unfolding open_capacity
open_empty c built usable e = rw (e, div-zero (c * ones usable)) refl

module _ (c built usable : ℕ) {all some : ℕ} (ea : all ≡ ones built) (es : some ≡ ones usable) where
  pub open_most : most_number < c * some / all → most_number ≡ open_capacity c built usable
  unfolding open_capacity
  open_most l = let m : most_number < c * ones usable / ones built = rw (ea, es) at l in omega arith

  pub open_fits : c * some / all ≤ most_number → c * some / all ≡ open_capacity c built usable
  unfolding open_capacity
  open_fits l = let m : c * ones usable / ones built ≤ most_number = rw (ea, es) at l in rw (ea, es) (omega arith)
