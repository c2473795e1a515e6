-- Bytes put one after the other, and the loops that put lists of equal length. Assumes nothing.
use Rattle.std.specs.Prelude.{◌≡◌, refl, List, ◌++◌, ℕ, ◌+◌, ◌-◌, ◌*◌, ◌≤◌, ◌<◌, length, drop}
use Rattle.std.proofs.Common.{sym, ap, ◌∙◌, arith, length-append}
use Rattle.model.specs.Numbers.{at, concat_of, row_at}
use Rattle.numbers.specs.Concat.{length_concat, concat_none, concat_more}
use Rattle.numbers.specs.TablesLaws.{mul_more, row_ends}
use Rattle.numbers.specs.PlacedText.{Puts, placed_none, placed_there, puts_more, length_placed}
use Rattle.model.specs.Road.{most_cells}
use Rattle.model.specs.Schedules.{Study}
use Rattle.model.specs.Record.{count_size, seconds_size, header_size, cell_size, short_size, number_size, row_numbers, row_size, bytes_of}
use Rattle.fields.specs.BytesLaws.{length_bytes}
use Rattle.fields.specs.BytesStored.{StoredBytes, stored_puts}
use Rattle.model.specs.Reading.{size_of}
use Rattle.fields.specs.HeaderLaws.{Counts}
use Rattle.model.specs.Encoding.{header_of, cell_of, numbers_of, record_size, header_bytes, cell_bytes, row_bytes, record_of}

-- the lengths of the parts
pub length_header : (version n T seconds capacity queue : ℕ) → length (header_of version n T seconds capacity queue) ≡ header_size version
unfolding header_of
length_header version n T seconds capacity queue =
    let f = bytes_of number_size queue in
    let e = bytes_of number_size capacity ++ f in
    let d = bytes_of (seconds_size version) seconds ++ e in
    let c = bytes_of short_size T ++ d in
    let b = bytes_of 1 n ++ c in
    let a = bytes_of 1 version ++ b in
    omega (
      arith,
      length-append (bytes_of count_size (size_of version n T - count_size)) a,
      length-append (bytes_of 1 version) b,
      length-append (bytes_of 1 n) c,
      length-append (bytes_of short_size T) d,
      length-append (bytes_of (seconds_size version) seconds) e,
      length-append (bytes_of number_size capacity) f,
      length_bytes count_size (size_of version n T - count_size),
      length_bytes 1 version,
      length_bytes 1 n,
      length_bytes short_size T,
      length_bytes (seconds_size version) seconds,
      length_bytes number_size capacity,
      length_bytes number_size queue,
    )

pub header_length : (a : Study) → length (header_bytes a) ≡ header_size a.road.version
header_length a = length_header a.road.version a.road.n a.steps a.road.seconds a.road.gate_capacity a.start.gate_queue

pub length_cell : (speed wave share ramp jam capacity held queue : ℕ) → length (cell_of speed wave share ramp jam capacity held queue) ≡ cell_size
unfolding cell_of
length_cell speed wave share ramp jam capacity held queue =
    let g = bytes_of number_size queue in
    let f = bytes_of number_size held ++ g in
    let e = bytes_of number_size capacity ++ f in
    let d = bytes_of number_size jam ++ e in
    let c = bytes_of short_size ramp ++ d in
    let b = bytes_of short_size share ++ c in
    let a = bytes_of short_size wave ++ b in
    omega (
      arith,
      length-append (bytes_of short_size speed) a,
      length-append (bytes_of short_size wave) b,
      length-append (bytes_of short_size share) c,
      length-append (bytes_of short_size ramp) d,
      length-append (bytes_of number_size jam) e,
      length-append (bytes_of number_size capacity) f,
      length-append (bytes_of number_size held) g,
      length_bytes short_size speed,
      length_bytes short_size wave,
      length_bytes short_size share,
      length_bytes short_size ramp,
      length_bytes number_size jam,
      length_bytes number_size capacity,
      length_bytes number_size held,
      length_bytes number_size queue,
    )

pub length_numbers : (row : List ℕ) (count : ℕ) → length (numbers_of row count) ≡ count * number_size
length_numbers row count = length_concat (λ k. bytes_of number_size (at row k)) number_size (λ k. length_bytes number_size (at row k)) count

pub length_row : (n : ℕ) (rows : ℕ → List ℕ) (t : ℕ) → length (row_bytes n rows t) ≡ row_size n
length_row n rows t = length_numbers (rows t) (row_numbers n) ∙ omega arith

-- the parts of the header and of a cell, one after the other
module _ {a : List ℕ} {start : ℕ} {b : List ℕ} {p : ℕ} {c : List ℕ} {q : ℕ} {d : List ℕ} {u : ℕ} {e : List ℕ} {v : ℕ} {f : List ℕ} {w : ℕ} where
  pub header_puts : {version n T seconds capacity queue size : ℕ} {g : List ℕ} {x : ℕ} {h : List ℕ} {y : ℕ} → size ≡ size_of version n T
      → StoredBytes a start count_size (size - count_size) b p → StoredBytes b p 1 version c q → StoredBytes c q 1 n d u
      → StoredBytes d u short_size T e v → StoredBytes e v (seconds_size version) seconds f w → StoredBytes f w number_size capacity g x
      → StoredBytes g x number_size queue h y → Puts a start (header_of version n T seconds capacity queue) h y
  unfolding header_of
  header_puts {version} {n} {T} {g = g} {x = x} {h = h} {y = y} es h1 h2 h3 h4 h5 h6 h7 =
      let first : StoredBytes a start count_size (size_of version n T - count_size) b p = rw es at h1 in
      puts_more a start _ b p _ h y (stored_puts first)
      (puts_more b p _ c q _ h y (stored_puts h2)
      (puts_more c q _ d u _ h y (stored_puts h3)
      (puts_more d u _ e v _ h y (stored_puts h4)
      (puts_more e v _ f w _ h y (stored_puts h5) (puts_more f w _ g x _ h y (stored_puts h6) (stored_puts h7))))))

  pub cell_puts : {speed wave share ramp jam capacity held queue : ℕ} {g : List ℕ} {x : ℕ} {k : List ℕ} {y : ℕ} {l : List ℕ} {z : ℕ}
      → StoredBytes a start short_size speed b p → StoredBytes b p short_size wave c q → StoredBytes c q short_size share d u → StoredBytes d u short_size ramp e v
      → StoredBytes e v number_size jam f w → StoredBytes f w number_size capacity g x → StoredBytes g x number_size held k y → StoredBytes k y number_size queue l z
      → Puts a start (cell_of speed wave share ramp jam capacity held queue) l z
  unfolding cell_of
  cell_puts {g = g} {x = x} {k = k} {y = y} {l = l} {z = z} h1 h2 h3 h4 h5 h6 h7 h8 =
      puts_more a start _ b p _ l z (stored_puts h1)
      (puts_more b p _ c q _ l z (stored_puts h2)
      (puts_more c q _ d u _ l z (stored_puts h3)
      (puts_more d u _ e v _ l z (stored_puts h4)
      (puts_more e v _ f w _ l z (stored_puts h5)
      (puts_more f w _ g x _ l z (stored_puts h6) (puts_more g x _ k y _ l z (stored_puts h7) (stored_puts h8)))))))

-- a loop has put the first i of its lists, each of w bytes
pub record PuttingLists (before : List ℕ) (start : ℕ) (f : ℕ → List ℕ) (w i : ℕ) (after : List ℕ) (end : ℕ) : Type 0 where
  pub next : end ≡ start + i * w
  pub same : length after ≡ length before
  pub bytes : Puts before start (concat_of f i) after end

module _ (before : List ℕ) (start : ℕ) (f : ℕ → List ℕ) (w : ℕ) where
  pub putting_none : PuttingLists before start f w 0 before start
  putting_none = record {
    next = omega arith;
    same = refl;
    bytes = rw (concat_none f) (omega arith, sym (placed_none before start));
  }

  pub putting_more : (i : ℕ) {after : List ℕ} {end : ℕ} {more : List ℕ} {to : ℕ} → length (f i) ≡ w → PuttingLists before start f w i after end
      → Puts after end (f i) more to → PuttingLists before start f w (i + 1) more to
  putting_more i {after} {end} {more} {to} l h p = record {
    next = omega (arith, h.next, p.0, l, mul_more i w);
    same = ap length p.1 ∙ length_placed after end (f i) ∙ h.same;
    bytes = rw (concat_more f i) (puts_more before start (concat_of f i) after end (f i) more to h.bytes p);
  }

  -- all n are put
  pub putting_end : (i n : ℕ) {after : List ℕ} {end : ℕ} → i ≡ n → PuttingLists before start f w i after end → Puts before start (concat_of f n) after end
  putting_end i n e h = rw e at h.bytes

  -- there is room for the next list if there is room for n of them
  pub putting_fits : (i n : ℕ) {after : List ℕ} {end : ℕ} → PuttingLists before start f w i after end → i < n → start + n * w ≤ length before
      → end + w ≤ length after
  putting_fits i n h l m = omega (arith, h.next, h.same, row_ends i n w l)

-- a record put at the start of a target: its bytes, and the bytes beyond them unchanged
pub record_in_target : (a : Study) (target after : List ℕ) (end : ℕ) → length (record_of a) ≡ record_size a
    → record_size a ≤ length target → Puts target 0 (record_of a) after end
    → (end ≡ record_size a) × (after ≡ record_of a ++ drop (record_size a) target)
record_in_target a target after end l m p =
    let z : 0 + length (record_of a) ≡ record_size a = omega (arith, l) in (
      p.0 ∙ z,
      p.1 ∙ placed_there target 0 (record_of a) (omega (arith, l)) ∙ ap (λ (k : ℕ). record_of a ++ drop k target) z,
    )

pub length_record : (a : Study) → length (record_of a) ≡ record_size a
unfolding record_of
length_record a =
    let cells = concat_of (cell_bytes a.road a.start) a.road.n in
    let rows = concat_of (row_bytes a.road.n a.rows) a.steps in
    omega (
      arith,
      length-append (header_bytes a) (cells ++ rows),
      length-append cells rows,
      header_length a,
      length_concat (cell_bytes a.road a.start) cell_size (λ i. length_cell _ _ _ _ _ _ _ _) a.road.n,
      length_concat (row_bytes a.road.n a.rows) (row_size a.road.n) (length_row a.road.n a.rows) a.steps,
    )

-- the rows of T steps of n cells, one after the other
pub record Rows (rows : List ℕ) (n T : ℕ) : Type 0 where
  pub cells : n ≤ most_cells
  pub all : length rows ≡ T * row_numbers n

-- what putting a record requires: n and T within their limits, all rows, and room
pub record Fits (a : Study) (rows target : List ℕ) : Type 0 where
  pub counts : Counts a.road.n a.steps
  pub all : length rows ≡ a.steps * row_numbers a.road.n
  pub room : record_size a ≤ length target

-- the loop over the rows: the rows of t steps are put, and the next begins at `from`
pub record RowsPutSoFar (before : List ℕ) (start : ℕ) (rows : List ℕ) (n T t from : ℕ) (after : List ℕ) (end : ℕ) : Type 0 where
  pub within : t ≤ T
  pub place : from ≡ t * row_numbers n
  pub put : PuttingLists before start (row_bytes n (row_at rows (row_numbers n))) (row_size n) t after end

module _ {before : List ℕ} {start : ℕ} {rows : List ℕ} {n T : ℕ} where
  pub rowing_none : RowsPutSoFar before start rows n T 0 0 before start
  rowing_none = record { within = omega arith; place = omega arith; put = putting_none before start _ (row_size n) }

  module _ {t from : ℕ} {after : List ℕ} {end : ℕ} (h : RowsPutSoFar before start rows n T t from after end) where
    -- the next row is within the rows, and its bytes are within the target
    pub row_there : Rows rows n T → t < T → from + row_numbers n ≤ length rows
    row_there k l = omega (arith, h.place, k.all, row_ends t T (row_numbers n) l)

    pub row_room : t < T → start + T * row_size n ≤ length before → end + row_size n ≤ length after
    row_room l m = putting_fits before start _ (row_size n) t T h.put l m

    pub rowing_more : {row more : List ℕ} {to : ℕ} → t < T → row ≡ row_at rows (row_numbers n) t → length row ≡ row_numbers n
        → Puts after end (numbers_of row (length row)) more to → RowsPutSoFar before start rows n T (t + 1) (from + row_numbers n) more to
    rowing_more {row} {more} {to} l e m p =
        let q : Puts after end (row_bytes n (row_at rows (row_numbers n)) t) more to = rw (m, e) at p in
        record {
          within = omega arith;
          place = omega (arith, h.place, mul_more t (row_numbers n));
          put = putting_more before start _ (row_size n) t (length_row n (row_at rows (row_numbers n)) t) h.put q;
        }

    pub rowing_end : T ≤ t → Puts before start (concat_of (row_bytes n (row_at rows (row_numbers n))) T) after end
    rowing_end l = putting_end before start _ (row_size n) t T (omega (arith, h.within)) h.put

-- the whole record: where the header and the cells end, and the three parts one after the other
module _ (a : Study) (target b : List ℕ) (p : ℕ) (header : Puts target 0 (header_bytes a) b p) where
  pub header_ends : (p ≡ header_size a.road.version) × (length b ≡ length target)
  header_ends = (
    omega (arith, header.0, header_length a),
    ap length header.1 ∙ length_placed target 0 (header_bytes a),
  )

  module _ (c : List ℕ) (q : ℕ) (cells : Puts b p (concat_of (cell_bytes a.road a.start) a.road.n) c q) where
    pub cells_end : (q ≡ header_size a.road.version + a.road.n * cell_size) × (length c ≡ length target)
    cells_end = (
      omega (arith, cells.0, header_ends.0, length_concat (cell_bytes a.road a.start) cell_size (λ i. length_cell _ _ _ _ _ _ _ _) a.road.n),
      ap length cells.1 ∙ length_placed b p (concat_of (cell_bytes a.road a.start) a.road.n) ∙ header_ends.1,
    )

    pub record_puts : (d : List ℕ) (e : ℕ) → Puts c q (concat_of (row_bytes a.road.n a.rows) a.steps) d e → Puts target 0 (record_of a) d e
    unfolding record_of
    record_puts d e rows =
        puts_more target 0 (header_bytes a) b p _ d e header
        (puts_more b p (concat_of (cell_bytes a.road a.start) a.road.n) c q _ d e cells rows)
