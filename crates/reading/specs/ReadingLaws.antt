-- Laws of reading for the proofs of its code. Assumes nothing.
use Rattle.std.specs.Prelude.{◌≡◌, Bool, true, false, List, ℕ, ◌+◌, ◌*◌, ◌≤◌, ◌<◌, length}
use Rattle.std.proofs.Math.Path.{refl, sym}
use Rattle.std.proofs.Common.{ap, ◌∙◌, arith}
use borrow.Author.Tests.{eq-eqb, ne_eqb}
use Rattle.model.specs.declared.Road.{Road}
use Rattle.model.specs.declared.State.{State}
use Rattle.model.specs.Road.{most_cells, most_steps, most_bytes}
use Rattle.model.specs.Record.{version_of, seconds_of, number_size, row_numbers, row_size, number_of}
use Rattle.fields.specs.FieldsLaws.{HoldsRow, holds_row}
use Rattle.model.specs.Numbers.{at, one_of, first_of, unless_first}
use Rattle.model.specs.Limits.{place_ok, rates_ok, rates_at}
use Rattle.reading.specs.Headers.{Cells, Steps, Header}
use Rattle.reading.specs.Greatest.{row_at, row_number}
use Rattle.model.specs.Reading.{cells_of, steps_of, size_of, both_versions, length_ok, cells_and_steps_ok}
use Rattle.model.specs.Reading.{seconds_ok, caller_ok, road_of, start_of, step_ok, ReadAnswer, refused_of}
use Rattle.model.specs.Reading.{accepted_of, reading_by, reading_within, reading_of}
use Rattle.fields.specs.HeaderLaws.{Counts, length_facts, counts_facts, caller_passes}

-- a record with such a header holds its cells and rows
module _ {s : List ℕ} {n T : ℕ} (h : Header s n T) where
  header_counts : Counts n T
  header_counts = counts_facts n T h.counts

  pub header_cells : Cells s n
  header_cells = record {
    count = h.cells;
    most = header_counts.cells;
    held = let z : 0 * row_size n ≡ 0 = omega arith in omega (arith, h.size);
  }

  pub header_done : {q : State} → q ≡ start_of s → q.done ≤ most_steps
  header_done e = rw e (omega arith)

  module _ {r : Road} (e : r ≡ road_of s) where
    header_road : r.n ≡ n
    header_road = ap (λ (x : Road). x.n) e ∙ sym h.cells

    pub header_most : r.n ≤ most_cells
    header_most = omega (arith, header_road, header_counts.cells)

    pub header_steps : Steps s r.n T
    header_steps = rw header_road (record { most = header_counts.cells; held = omega (arith, h.size) })

-- the refusals of the header, each from the tests before it, for all limits of the caller
module _ (cells most : ℕ) (s : List ℕ) where
  pub answer_length : {x : ReadAnswer} → length_ok both_versions s ≡ false → x ≡ refused_of 1 0 → x ≡ reading_within cells most s
  unfolding reading_by
  answer_length h g = g ∙ rw h refl

  pub answer_version : {x : ReadAnswer} → length_ok both_versions s ≡ true → one_of both_versions (version_of s) ≡ false → x ≡ refused_of 2 0
      → x ≡ reading_within cells most s
  unfolding reading_by
  answer_version h k g = g ∙ rw (h, k) refl

-- a record to which refusals 1 and 2 do not apply, with its n and T
pub record LengthAndVersionOk (s : List ℕ) (n T : ℕ) : Type 0 where
  pub lengths : length_ok both_versions s ≡ true
  pub version : one_of both_versions (version_of s) ≡ true
  pub cells : n ≡ cells_of s
  pub steps : T ≡ steps_of s

module _ (cells most : ℕ) {s : List ℕ} {n T : ℕ} (h : LengthAndVersionOk s n T) where
  pub answer_counts : {x : ReadAnswer} → cells_and_steps_ok n T ≡ false → x ≡ refused_of 3 0 → x ≡ reading_within cells most s
  unfolding reading_by
  answer_counts k g = g ∙ rw (h.lengths, h.version, ← h.cells, ← h.steps, k) refl

  module _ (k : cells_and_steps_ok n T ≡ true) where
    pub answer_seconds : {x : ReadAnswer} → seconds_ok (version_of s) (seconds_of s) ≡ false → x ≡ refused_of 19 0 → x ≡ reading_within cells most s
    unfolding reading_by
    answer_seconds l g = g ∙ rw (h.lengths, h.version, ← h.cells, ← h.steps, k, l) refl

    pub answer_size : seconds_ok (version_of s) (seconds_of s) ≡ true → {size : ℕ} → size ≡ size_of (version_of s) n T
        → {x : ReadAnswer} → (length s ≡ size → ⊥) → x ≡ refused_of 4 0 → x ≡ reading_within cells most s
    unfolding reading_by
    answer_size l e z g =
        g ∙ rw (h.lengths, h.version, ← h.cells, ← h.steps, k, l, ne_eqb (length s) (size_of (version_of s) n T) (λ x. z (x ∙ sym e))) refl

pub header_passed : {s : List ℕ} {n T : ℕ} → LengthAndVersionOk s n T → cells_and_steps_ok n T ≡ true → seconds_ok (version_of s) (seconds_of s) ≡ true
    → {size : ℕ} → size ≡ size_of (version_of s) n T → length s ≡ size → Header s n T
header_passed h k l e z = record {
  lengths = h.lengths;
  version = h.version;
  cells = h.cells;
  steps = h.steps;
  counts = k;
  seconds = l;
  size = z ∙ e;
}

-- 26, for a record to which none of these apply
module _ (cells most : ℕ) {s : List ℕ} {n T : ℕ} (h : Header s n T) where
  pub answer_caller : {x : ReadAnswer} → caller_ok cells most n (length s) ≡ false → x ≡ refused_of 26 0 → x ≡ reading_within cells most s
  unfolding reading_by
  answer_caller k g =
      let size = eq-eqb (length s) (size_of (version_of s) n T) h.size in
      g ∙ rw (h.lengths, h.version, ← h.cells, ← h.steps, h.counts, h.seconds, size, k) refl

-- the answer after the header's tests
abbrev body_of : List ℕ → ℕ → Road → State → ReadAnswer
body_of s T r q =
    unless_first (place_ok r q) (r.n + 1) (refused_of 5)
    (unless_first (step_ok s r) T (refused_of 6)
    (accepted_of T r q))

-- a record that passes the header's tests, with its road, its start and the lowest place out of its limits
pub record Body (s : List ℕ) (n T : ℕ) (r : Road) (q : State) (p : ℕ) : Type 0 where
  pub header : Header s n T
  pub road : r ≡ road_of s
  pub start : q ≡ start_of s
  pub place : p ≡ first_of (place_ok r q) (r.n + 1)

module _ {s : List ℕ} {n T : ℕ} {r : Road} {q : State} {p : ℕ} (b : Body s n T r q p) where
  body : body_of s T r q ≡ reading_of s
  unfolding reading_by
  body =
      let h = b.header in
      rw (
        b.road,
        b.start,
        h.lengths,
        h.version,
        ← h.cells,
        ← h.steps,
        h.counts,
        h.seconds,
        eq-eqb (length s) (size_of (version_of s) n T) h.size,
        caller_passes {cells = most_cells} {most = most_bytes} (header_counts h).cells (length_facts s h.lengths).1,
      )

  places : r.n ≡ n
  places = header_road b.header b.road

  pub answer_place : {x : ReadAnswer} → (p ≡ n + 1 → ⊥) → x ≡ refused_of 5 p → x ≡ reading_of s
  answer_place k g = g ∙ rw (← body, ← b.place, ne_eqb p (r.n + 1) (λ z. k (omega (arith, places))))

  module _ (k : p ≡ n + 1) {t : ℕ} (e : t ≡ first_of (step_ok s r) T) where
    pub answer_step : {x : ReadAnswer} → (t ≡ T → ⊥) → x ≡ refused_of 6 t → x ≡ reading_of s
    answer_step l g = g ∙ rw (← body, ← b.place, eq-eqb p (r.n + 1) (omega (arith, places)), ← e, ne_eqb t T l)

    pub answer_accepted : t ≡ T → accepted_of T r q ≡ reading_of s
    answer_accepted l = rw (← body, ← b.place, eq-eqb p (r.n + 1) (omega (arith, places)), ← e, eq-eqb t T l)

-- a record that holds the rows of T steps holds each of them
pub steps_row : {s : List ℕ} {n T t : ℕ} → Steps s n T → t < T → HoldsRow s n t
steps_row {s} {n} {T} {t} h l = holds_row s n t T h.most h.held l

-- number k of a row that starts at a byte, as the code reads it
pub entry_read : (s : List ℕ) (n start k : ℕ) {place x : ℕ} → place ≡ start + number_size * k → x ≡ number_of s place number_size
    → k < row_numbers n → x ≡ at (row_at s n start) k
entry_read s n start k p ex l = ex ∙ ap (λ (i : ℕ). number_of s i number_size) p ∙ sym (row_number s n start k l)

-- the code's test of a cell's rates
pub rates_read : (ramp row : List ℕ) (i : ℕ) {arrivals release : ℕ} {b : Bool} → b ≡ rates_ok (at ramp i) arrivals release
    → arrivals ≡ at row (2 * i + 1) → release ≡ at row (2 * i + 2) → b ≡ rates_at ramp row i
rates_read ramp row i {release = release} e a r =
    e ∙ ap (λ (x : ℕ). rates_ok (at ramp i) x release) a ∙ ap (rates_ok (at ramp i) (at row (2 * i + 1))) r
