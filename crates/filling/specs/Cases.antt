-- The answers of filling, case by case. Assumes nothing.
use Rattle.std.specs.Prelude.{◌≡◌, Bool, List, ℕ, ◌≤◌, ◌<◌, length}
use Rattle.std.proofs.Math.Path.{refl}
use Rattle.std.proofs.Common.{ap, ⊎_elim, arith}
use borrow.Author.Tests.{eq-eqb, ne_eqb, le-leb, lt-leb}
use Rattle.model.specs.Numbers.{unless}
use Rattle.numbers.specs.Tests.{fault_elim, order}
use Rattle.model.specs.Schedules.{Study, table_size}
use Rattle.model.specs.declared.Law.{Law}
use Rattle.model.specs.Reading.{reading_of, study_of}
use Rattle.model.specs.Running.{EndAnswer, end_with, no_state, lanes_fault, table_of}
use Rattle.model.specs.Demand.{Openable}
use Rattle.model.specs.Filling.{metered_after, filled_study, filled_bytes, law_place, filling_of, record_after, filled_list}

module _ (laws : List Law) (bytes lanes list : List ℕ) where
  abbrev a : Study
  a = study_of bytes lanes

  -- the answer after all steps
  abbrev finished : EndAnswer
  finished = end_with 0 0 0 a.road (metered_after laws a a.steps).state

  -- an answer, with the record and the list that it leaves
  pub record Leaves (answer : EndAnswer) (record_left list_left : List ℕ) : Type 0 where
    pub answers : filling_of laws bytes lanes list ≡ answer
    pub bytes_are : record_after laws bytes lanes list ≡ record_left
    pub list_is : filled_list laws bytes lanes list ≡ list_left

  -- a refusal leaves both unchanged
  pub refusal : (number place : ℕ) → (number ≡ 0 → ⊥) → filling_of laws bytes lanes list ≡ no_state number place → Leaves (no_state number place) bytes list
  unfolding record_after filled_list
  refusal number place d e = record { answers = e; bytes_are = rw (e, ne_eqb number 0 d) refl; list_is = rw (e, ne_eqb number 0 d) refl }

  -- the refusals of reading
  pub fills_refused : ((reading_of bytes).number ≡ 0 → ⊥) → Leaves (no_state (reading_of bytes).number (reading_of bytes).place) bytes list
  unfolding filling_of
  fills_refused h = refusal (reading_of bytes).number (reading_of bytes).place h (rw (ne_eqb (reading_of bytes).number 0 h) refl)

  module _ (reads : (reading_of bytes).number ≡ 0) where
    -- 16
    pub fills_law : (law_place laws a ≡ 0 → ⊥) → Leaves (no_state 16 (law_place laws a)) bytes list
    unfolding filling_of
    fills_law h = refusal 16 (law_place laws a) (λ e. omega arith) (rw (eq-eqb (reading_of bytes).number 0 reads, ne_eqb (law_place laws a) 0 h) refl)

    module _ (finite : law_place laws a ≡ 0) where
      -- 17 and 18
      pub fills_closed : ((lanes_fault a).number ≡ 0 → ⊥) → Leaves (no_state (lanes_fault a).number (lanes_fault a).place) bytes list
      unfolding filling_of
      fills_closed h =
          refusal (lanes_fault a).number (lanes_fault a).place h
          (rw (eq-eqb (reading_of bytes).number 0 reads, eq-eqb (law_place laws a) 0 finite, ne_eqb (lanes_fault a).number 0 h) refl)

      module _ (opens : (lanes_fault a).number ≡ 0) where
        -- 11
        pub fills_short : length list < table_size a → Leaves (no_state 11 0) bytes list
        unfolding filling_of
        fills_short l =
            refusal 11 0 (λ e. omega arith)
            (rw (eq-eqb (reading_of bytes).number 0 reads, eq-eqb (law_place laws a) 0 finite, eq-eqb (lanes_fault a).number 0 opens)
            (ap (λ (b : Bool). unless b (no_state 11 0) finished) (lt-leb (table_size a) (length list) l)))

        -- all steps are made
        pub fills_all : table_size a ≤ length list → Leaves finished (filled_bytes laws bytes lanes) (table_of (filled_study laws a) list a.steps)
        unfolding filling_of record_after filled_list
        fills_all l =
            let e : filling_of laws bytes lanes list ≡ finished =
            rw (
              eq-eqb (reading_of bytes).number 0 reads,
              eq-eqb (law_place laws a) 0 finite,
              eq-eqb (lanes_fault a).number 0 opens,
              le-leb (table_size a) (length list) l,
            ) in
            record { answers = e; bytes_are = rw e; list_is = rw e }

  -- which of the five cases applies
  pub data Case : Type 0 where
    refused : ((reading_of bytes).number ≡ 0 → ⊥) → Case
    law : (reading_of bytes).number ≡ 0 → (law_place laws a ≡ 0 → ⊥) → Case
    closed : (reading_of bytes).number ≡ 0 → law_place laws a ≡ 0 → ((lanes_fault a).number ≡ 0 → ⊥) → Case
    short : Openable bytes lanes → law_place laws a ≡ 0 → length list < table_size a → Case
    all : Openable bytes lanes → law_place laws a ≡ 0 → table_size a ≤ length list → Case

  pub case_of : Case
  case_of =
      fault_elim (reading_of bytes).number refused (λ reads.
      fault_elim (law_place laws a) (law reads) (λ finite.
      fault_elim (lanes_fault a).number (closed reads finite) (λ opens.
      let openable : Openable bytes lanes = record { reads = reads; opens = opens } in
      ⊎_elim (all openable finite) (short openable finite) (order (table_size a) (length list)))))
