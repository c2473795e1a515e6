-- The greatest byte at each position over parts of equal size: if the row of these bytes is within its limits, every row is. Assumes nothing.
use Rattle.std.specs.Prelude.{◌≡◌, refl, Bool, true, false, List, ℕ, ◌+◌, ◌-◌, ◌*◌, ◌/◌, ◌%◌, ◌≤◌, ◌<◌, eqb, length, set}
use Rattle.std.proofs.Common.{ap, subst, ◌∙◌, ⊎_elim, suc-mul, add-mul, mul_assoc, mul-le-mul_right, mod-lt, le_refl, div-add-mod', div-mul-le_self, div-lt_iff_lt-mul}
use Rattle.std.proofs.Common.{le-div_iff_mul-le, arith, length-set, get_or-set_same, get_or-set_other, eqb-true, below_none, below_more}
use Rattle.std.proofs.lemmas.Bool.{eqb-false}
use Rattle.model.specs.Numbers.{at, list_of}
use Rattle.numbers.specs.Tests.{order}
use Rattle.model.specs.Road.{most_cells}
use Rattle.numbers.specs.RowsLaws.{list_at}
use Rattle.model.specs.Record.{number_size, row_numbers, row_size, row_start, entry_start, number_of, version_of, record_row}
use Rattle.fields.specs.FieldsLaws.{row_at_lem}
use Rattle.fields.specs.BytesLaws.{number_le}
use Rattle.model.specs.Limits.{row_ok}
use Rattle.limits.specs.LimitsLaws.{row_less}
use Rattle.reading.specs.Headers.{Steps}

-- the numbers of a row of n cells that starts at a byte
abbrev pub row_at : List ℕ → ℕ → ℕ → List ℕ
row_at s n start = list_of (λ k. number_of s (start + number_size * k) number_size) (row_numbers n)

pub row_number : (s : List ℕ) (n start k : ℕ) → k < row_numbers n → at (row_at s n start) k ≡ number_of s (start + number_size * k) number_size
row_number s n start k l = list_at (λ k. number_of s (start + number_size * k) number_size) (row_numbers n) k l

-- the bytes of a row of 64 cells, the longest row
abbrev pub most_row : ℕ
most_row = row_size most_cells

-- what raising the greatest bytes to `count` parts of s requires; each part has `size` bytes, and the first begins at `start`
pub record RaiseRequires (s : List ℕ) (start size count : ℕ) (greatest : List ℕ) : Type 0 where
  pub parts : start + count * size ≤ length s
  pub small : size ≤ most_row
  pub room : most_row ≤ length greatest

-- each part ends within all of them
pub part_within : (size k count : ℕ) → k < count → k * size + size ≤ count * size
part_within size k count l = omega (arith, suc-mul k size, mul-le-mul_right size l)

-- no byte is below its earlier value, or below the byte of s at its position in the `size` bytes from `start` on
pub record AbovePart (s : List ℕ) (start size : ℕ) (before after : List ℕ) : Type 0 where
  pub same : length after ≡ length before
  pub kept : (j : ℕ) → at before j ≤ at after j
  pub above : (j : ℕ) → j < size → at s (start + j) ≤ at after j

-- the same for `count` such parts, one after the other
pub record AboveParts (s : List ℕ) (start size count : ℕ) (before after : List ℕ) : Type 0 where
  pub same : length after ≡ length before
  pub kept : (j : ℕ) → at before j ≤ at after j
  pub above : (k : ℕ) → k < count → (j : ℕ) → j < size → at s (start + k * size + j) ≤ at after j

-- storing a greater byte makes no byte smaller
set_raises : (l : List ℕ) (i x : ℕ) → i < length l → at l i ≤ x → (j : ℕ) → at l j ≤ at (set l i x) j
set_raises l i x h le j = go (eqb j i) refl
  where
    go : (t : Bool) → eqb j i ≡ t → at l j ≤ at (set l i x) j
    go true e = rw (eqb-true j i e) (omega (arith, get_or-set_same l i x 0 h))
    go false e = omega (arith, get_or-set_other l i j x 0 (eqb-false j i e))

-- the loop over a part's bytes
module _ {s : List ℕ} {start : ℕ} {before : List ℕ} where
  pub part_none : AbovePart s start 0 before before
  part_none = record { same = refl; kept = λ j. le_refl (at before j); above = below_none _ }

  pub part_more : {i x : ℕ} {now : List ℕ} → AbovePart s start i before now → i < length before → at now i ≤ x → at s (start + i) ≤ x
      → AbovePart s start (i + 1) before (set now i x)
  part_more {i} {x} {now} h l old new =
      let there : i < length now = omega (arith, h.same) in
      let more = set_raises now i x there old in
      record {
        same = length-set now i x ∙ h.same;
        kept = λ j. omega (arith, h.kept j, more j);
        above = below_more _ _ (λ j m. omega (arith, h.above j m, more j)) (omega (arith, get_or-set_same now i x 0 there));
      }

  pub part_end : {i size : ℕ} {now : List ℕ} → AbovePart s start i before now → size ≤ i → AbovePart s start size before now
  part_end h l = record { same = h.same; kept = h.kept; above = λ j m. h.above j (omega arith) }

-- the loop over parts
module _ {s : List ℕ} {start size : ℕ} {before : List ℕ} where
  pub parts_none : AboveParts s start size 0 before before
  parts_none = record { same = refl; kept = λ j. le_refl (at before j); above = below_none _ }

  pub parts_more : {k from : ℕ} {now after : List ℕ} → AboveParts s start size k before now → from ≡ start + k * size
      → AbovePart s from size now after → AboveParts s start size (k + 1) before after
  parts_more {k} {from} {after = after} h e p = record {
    same = p.same ∙ h.same;
    kept = λ j. omega (arith, h.kept j, p.kept j);
    above = below_more _ _ (λ q m j l. omega (arith, h.above q m j l, p.kept j))
        (λ j l. subst (λ (i : ℕ). at s (i + j) ≤ at after j) e (p.above j l));
  }

  pub parts_next : {count k from : ℕ} {now : List ℕ} → RaiseRequires s start size count before → k < count → AboveParts s start size k before now
      → from ≡ start + k * size → RaiseRequires s from size 1 now
  parts_next {count} {k} a l h e = record {
    parts = let one : 1 * size ≡ size = omega arith in omega (arith, one, e, a.parts, part_within size k count l);
    small = a.small;
    room = omega (arith, a.room, h.same);
  }

  pub parts_end : {k count : ℕ} {now : List ℕ} → AboveParts s start size k before now → count ≤ k → AboveParts s start size count before now
  parts_end h l = record { same = h.same; kept = h.kept; above = λ q m. h.above q (omega arith) }

-- T rows in blocks; a block is as many rows side by side as the longest row has room for. The rows after the blocks are single
pub record Blocks (n beside blocks T : ℕ) : Type 0 where
  pub some : 0 < beside
  pub span : beside * row_size n ≤ most_row
  pub rows : blocks * beside ≤ T

pub in_blocks : (n T : ℕ) → n ≤ most_cells → Blocks n (most_row / row_size n) (T / (most_row / row_size n)) T
in_blocks n T h =
    let positive : 0 < row_size n = omega arith in
    record {
      some = (le-div_iff_mul-le positive).1 (omega arith);
      span = div-mul-le_self most_row (row_size n);
      rows = div-mul-le_self T (most_row / row_size n);
    }

-- what each of the three passes requires: over the blocks, over the rows of the greatest block, and over the rows after the blocks
module _ {s : List ℕ} {n T beside blocks : ℕ} (held : Steps s n T) (plan : Blocks n beside blocks T) where
  pub blocks_there : row_start (version_of s) n (blocks * beside) ≤ length s
  blocks_there = omega (arith, mul-le-mul_right (row_size n) plan.rows, held.held)

  pub blocks_ready : {start : ℕ} {zeros : List ℕ} → start ≡ row_start (version_of s) n 0 → most_row ≤ length zeros
      → RaiseRequires s start (beside * row_size n) blocks zeros
  blocks_ready e l = record { parts = omega (arith, mul_assoc blocks beside (row_size n), e, blocks_there); small = plan.span; room = l }

  pub block_ready : {block zeros : List ℕ} → most_row ≤ length block → most_row ≤ length zeros → RaiseRequires block 0 (row_size n) beside zeros
  block_ready l m = record { parts = omega (arith, plan.span); small = omega (arith, held.most); room = m }

  pub rest_ready : {start count : ℕ} {row : List ℕ} → start ≡ row_start (version_of s) n (blocks * beside) → blocks * beside + count ≤ T
      → most_row ≤ length row → RaiseRequires s start (row_size n) count row
  rest_ready {count = count} e f l = record {
    parts = omega (arith, e, add-mul (blocks * beside) count (row_size n), mul-le-mul_right (row_size n) f, held.held);
    small = omega (arith, held.most);
    room = l;
  }

-- the results of the three passes: the greatest bytes of the blocks in `block`, of its rows in `first`, and of all rows in `row`
module _ {s zeros block first row : List ℕ} {n beside blocks T start left count : ℕ} (plan : Blocks n beside blocks T)
    (starts : start ≡ row_start (version_of s) n 0) (blocked : AboveParts s start (beside * row_size n) blocks zeros block)
    (folded : AboveParts block 0 (row_size n) beside zeros first)
    (lefts : left ≡ row_start (version_of s) n (blocks * beside)) (rest : AboveParts s left (row_size n) count first row)
    (all : T ≤ blocks * beside + count) where
  -- row t is row r of block q, with t ≡ q × beside + r
  in_block : (t j : ℕ) → t < blocks * beside → j < row_size n → at s (row_start (version_of s) n t + j) ≤ at row j
  in_block t j l m =
      let q = t / beside in
      let r = t % beside in
      let size = row_size n in
      let under : r < beside = mod-lt t plan.some in
      let inside : r * size + j < beside * size = omega (arith, part_within size r beside under) in
      let sum : (q * beside + r) * size ≡ t * size = ap (λ (x : ℕ). x * size) (div-add-mod' t beside) in
      let place : start + q * (beside * size) + (r * size + j) ≡ row_start (version_of s) n t + j =
      omega (arith, starts, sum, add-mul (q * beside) r size, mul_assoc q beside size) in
      let flat : 0 + r * size + j ≡ r * size + j = omega arith in
      let above : at s (row_start (version_of s) n t + j) ≤ at block (r * size + j) =
      subst (λ (i : ℕ). at s i ≤ at block (r * size + j)) place
      (blocked.above q ((div-lt_iff_lt-mul plan.some).1 l) (r * size + j) inside) in
      let below : at block (r * size + j) ≤ at first j = subst (λ (i : ℕ). at block i ≤ at first j) flat (folded.above r under j m) in
      omega (arith, above, below, rest.kept j)

  after_blocks : (t j : ℕ) → blocks * beside ≤ t → t < T → j < row_size n → at s (row_start (version_of s) n t + j) ≤ at row j
  after_blocks t j l m k =
      let d = t - blocks * beside in
      let sum : (blocks * beside + d) * row_size n ≡ t * row_size n = ap (λ (x : ℕ). x * row_size n) (omega arith) in
      let place : left + d * row_size n + j ≡ row_start (version_of s) n t + j = omega (arith, lefts, sum, add-mul (blocks * beside) d (row_size n)) in
      subst (λ (i : ℕ). at s i ≤ at row j) place (rest.above d (omega (arith, all)) j k)

  above_rows : (t j : ℕ) → t < T → j < row_size n → at s (row_start (version_of s) n t + j) ≤ at row j
  above_rows t j l m =
      ⊎_elim (λ (k : blocks * beside ≤ t). after_blocks t j k l m) (λ (k : t < blocks * beside). in_block t j k m) (order (blocks * beside) t)

  numbers_above : (t : ℕ) → t < T → (k : ℕ) → k < row_numbers n → at (record_row s n t) k ≤ at (row_at row n 0) k
  numbers_above t l k m =
      let place = entry_start (version_of s) n t k in
      let le : number_of s place number_size ≤ number_of row (0 + number_size * k) number_size =
      number_le s row place (0 + number_size * k) number_size
      (λ i u.
      let j = 0 + number_size * k + i in
      let there : row_start (version_of s) n t + j ≡ place + i = omega arith in
      subst (λ (x : ℕ). at s x ≤ at row j) there (above_rows t j l (omega arith))) in
      omega (arith, le, row_at_lem s n t k m, row_number row n 0 k m)

  -- if the row of the greatest bytes is within its limits, every row is
  pub rows_within : (ramp : List ℕ) → row_ok ramp n (row_at row n 0) ≡ true → (t : ℕ) → t < T → row_ok ramp n (record_row s n t) ≡ true
  rows_within ramp h t l = row_less ramp n (record_row s n t) (row_at row n 0) (numbers_above t l) h
