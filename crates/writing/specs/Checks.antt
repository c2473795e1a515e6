-- What the inner functions of writing require, and the cases of its tests. Assumes nothing.
use Rattle.std.specs.Prelude.{◌≡◌, refl, true, false, List, [], ℕ, ◌+◌, ◌*◌, ◌≤◌, ◌<◌, leb, eqb, length}
use Rattle.std.proofs.Common.{sym, arith}
use borrow.Author.Tests.{leb-true, le-leb, lt-leb, eqb-true, eq-eqb, ne_eqb}
use Rattle.model.specs.Numbers.{unless, one_of, unless_first, first_of}
use Rattle.numbers.specs.Tests.{unless_elim}
use Rattle.numbers.specs.TablesLaws.{row_ends}
use Rattle.model.specs.declared.Road.{Road}
use Rattle.model.specs.declared.Start.{Start}
use Rattle.model.specs.Road.{most_bytes, zeros, empty_state}
use Rattle.model.specs.Schedules.{Study, study}
use Rattle.model.specs.Record.{seconds_size, row_numbers}
use Rattle.model.specs.Limits.{place_ok}
use Rattle.model.specs.Reading.{size_of, both_versions, cells_and_steps_ok, seconds_ok}
use Rattle.fields.specs.HeaderLaws.{Counts, counts_facts, facts_counts}
use Rattle.model.specs.Writing.{unwritten, written_count, given_ok, frame_fault, frame_of, writing_by, writing_of}
use Rattle.model.specs.Encoding.{record_size, given_study}
use Rattle.encoding.specs.Encoding.{Rows}

-- a study of n cells and T steps without rows, whose other numbers are 0
abbrev blank : ℕ → ℕ → ℕ → Study
blank version n T = study (record {
  n = n;
  version = version;
  seconds = 0;
  gate_capacity = 0;
  speed = zeros;
  wave = zeros;
  share = zeros;
  ramp = zeros;
  jam = zeros;
  capacity = zeros;
}) empty_state T (λ _. []) []

-- 65 cells and 1,440 steps are too many bytes too. Version 3 is refused with 2, version 2 with 3; with 64 cells version 2 with 19, and version 1 with 1
on_paper : (writing_by (blank 3 65 1440) 0 0 ≡ unwritten 2 0)
    × ((writing_by (blank 2 65 1440) 0 0 ≡ unwritten 3 0)
    × ((writing_by (blank 2 64 1440) 0 0 ≡ unwritten 19 0) × (writing_by (blank 1 64 1440) 0 0 ≡ unwritten 1 0)))
unfolding frame_fault one_of seconds_size
on_paper = (refl, (refl, (refl, refl)))

-- 2, 3, 19, 1 and 4 do not apply
pub record FrameOk (a : Study) (numbers : ℕ) : Type 0 where
  pub version : one_of both_versions a.road.version ≡ true
  pub counts : Counts a.road.n a.steps
  pub seconds : seconds_ok a.road.version a.road.seconds ≡ true
  pub size : record_size a ≤ most_bytes
  pub all : numbers ≡ a.steps * row_numbers a.road.n

module _ (version seconds n T numbers : ℕ) where
  pub frame_version : one_of both_versions version ≡ false → 2 ≡ frame_fault version seconds n T numbers
  unfolding frame_fault
  frame_version h = rw h

  module _ (v : one_of both_versions version ≡ true) where
    pub frame_counts : cells_and_steps_ok n T ≡ false → 3 ≡ frame_fault version seconds n T numbers
    unfolding frame_fault
    frame_counts h = rw (v, h)

    module _ (h : cells_and_steps_ok n T ≡ true) where
      pub frame_seconds : seconds_ok version seconds ≡ false → 19 ≡ frame_fault version seconds n T numbers
      unfolding frame_fault
      frame_seconds q = rw (v, h, q)

      module _ (q : seconds_ok version seconds ≡ true) where
        pub frame_size : most_bytes < size_of version n T → 1 ≡ frame_fault version seconds n T numbers
        unfolding frame_fault
        frame_size l = rw (v, h, q, lt-leb (size_of version n T) most_bytes l)

        module _ (l : size_of version n T ≤ most_bytes) where
          pub frame_numbers : (numbers ≡ T * row_numbers n → ⊥) → 4 ≡ frame_fault version seconds n T numbers
          unfolding frame_fault
          frame_numbers k = rw (v, h, q, le-leb (size_of version n T) most_bytes l, ne_eqb numbers (T * row_numbers n) k)

          pub frame_none : numbers ≡ T * row_numbers n → 0 ≡ frame_fault version seconds n T numbers
          unfolding frame_fault
          frame_none k = rw (v, h, q, le-leb (size_of version n T) most_bytes l, eq-eqb numbers (T * row_numbers n) k)

module _ (a : Study) (numbers : ℕ) where
  abbrev Lets : ℕ → Type 0
  Lets m = m ≡ 0 → FrameOk a numbers

  -- without a fault all five hold
  pub frame_ok_lem : frame_of a numbers ≡ 0 → FrameOk a numbers
  unfolding frame_fault
  frame_ok_lem =
      unless_elim Lets (one_of both_versions a.road.version) (λ _ z. absurd (omega arith)) (λ version.
      unless_elim Lets (cells_and_steps_ok a.road.n a.steps) (λ _ z. absurd (omega arith)) (λ counts.
      unless_elim Lets (seconds_ok a.road.version a.road.seconds) (λ _ z. absurd (omega arith)) (λ seconds.
      unless_elim Lets (leb (record_size a) most_bytes) (λ _ z. absurd (omega arith)) (λ size.
      unless_elim Lets (eqb numbers (a.steps * row_numbers a.road.n)) (λ _ z. absurd (omega arith)) (λ all _.
      record {
        version = version;
        counts = counts_facts a.road.n a.steps counts;
        seconds = seconds;
        size = leb-true (record_size a) most_bytes size;
        all = eqb-true numbers (a.steps * row_numbers a.road.n) all;
      })))))

  faultless : FrameOk a numbers → frame_of a numbers ≡ 0
  faultless ok = sym (frame_none _ _ _ _ _ ok.version (facts_counts ok.counts) ok.seconds ok.size ok.all)

-- the loop over the rows: the row of step t begins at `from` and is within the list
pub row_fits : {rows : List ℕ} {n T from t : ℕ} → Rows rows n T → from ≡ t * row_numbers n → t < T → from + row_numbers n ≤ length rows
row_fits {n = n} {T} {t = t} h e l = omega (arith, h.all, row_ends t T (row_numbers n) l)

-- the answers, in the code's order
module _ (a : Study) (numbers room : ℕ) where
  pub answer_frame : (frame_of a numbers ≡ 0 → ⊥) → unwritten (frame_of a numbers) 0 ≡ writing_by a numbers room
  answer_frame h = rw (ne_eqb (frame_of a numbers) 0 h)

  module _ (ok : FrameOk a numbers) where
    abbrev place : ℕ
    place = first_of (place_ok a.road a.start) (a.road.n + 1)

    abbrev step : ℕ
    step = first_of (given_ok a) a.steps

    -- the tests after the first five
    body : unless_first (place_ok a.road a.start) (a.road.n + 1) (unwritten 5)
        (unless_first (given_ok a) a.steps (unwritten 6)
        (unless (leb (record_size a) room) (unwritten 15 0) (written_count (record_size a))))
        ≡ writing_by a numbers room
    body = rw (eq-eqb (frame_of a numbers) 0 (faultless a numbers ok)) refl

    pub answer_place : (p : ℕ) → p ≡ place → (p ≡ a.road.n + 1 → ⊥) → unwritten 5 p ≡ writing_by a numbers room
    answer_place p e h = rw (← body, ← e, ne_eqb p (a.road.n + 1) h)

    module _ (p : ℕ) (ep : p ≡ place) (hp : p ≡ a.road.n + 1) where
      pub answer_step : (t : ℕ) → t ≡ step → (t ≡ a.steps → ⊥) → unwritten 6 t ≡ writing_by a numbers room
      answer_step t e h = rw (← body, ← ep, eq-eqb p (a.road.n + 1) hp, ← e, ne_eqb t a.steps h)

      module _ (t : ℕ) (et : t ≡ step) (ht : t ≡ a.steps) where
        pub answer_short : room < record_size a → unwritten 15 0 ≡ writing_by a numbers room
        answer_short l =
            rw (← body, ← ep, eq-eqb p (a.road.n + 1) hp, ← et, eq-eqb t a.steps ht, lt-leb (record_size a) room l)

        pub answer_written : record_size a ≤ room → written_count (record_size a) ≡ writing_by a numbers room
        answer_written l =
            rw (← body, ← ep, eq-eqb p (a.road.n + 1) hp, ← et, eq-eqb t a.steps ht, le-leb (record_size a) room l)

-- the answer for what was given
pub by_given : (road : Road) (T : ℕ) (start : Start) (rows target : List ℕ)
    → writing_by (given_study road T start rows) (length rows) (length target) ≡ writing_of road T start rows target
unfolding writing_of
by_given road T start rows target = refl
