-- Laws of a record opened with a table of lanes. Assumes nothing.
use Rattle.std.specs.Prelude.{◌≡◌, List, [], ℕ, eqb}
use Rattle.std.proofs.Math.Path.{refl}
use Rattle.std.proofs.Common.{◌∙◌}
use borrow.Author.Tests.{eq-eqb, ne_eqb}
use Rattle.numbers.specs.Tests.{unless_elim, fault_elim}
use Rattle.model.specs.Reading.{ReadAnswer, refused_of, reading_of, study_by, study_of}
use Rattle.theory.specs.StepLaws.{number_of_lem, table_empty}
use Rattle.model.specs.Demand.{Openable}
use Rattle.model.specs.Running.{lanes_fault, opening_of}
use Rattle.theory.specs.Readable.{Readable, readable}

module _ (bytes lanes : List ℕ) where
  -- opening refuses what reading refuses
  pub opening_refused : ((reading_of bytes).number ≡ 0 → ⊥) → opening_of bytes lanes ≡ reading_of bytes
  unfolding opening_of
  opening_refused h = rw (ne_eqb (reading_of bytes).number 0 h) refl

  -- opening reports 17 or 18
  pub opening_closed : (reading_of bytes).number ≡ 0 → ((lanes_fault (study_of bytes lanes)).number ≡ 0 → ⊥)
      → opening_of bytes lanes ≡ refused_of (lanes_fault (study_of bytes lanes)).number (lanes_fault (study_of bytes lanes)).place
  unfolding opening_of
  opening_closed h n = rw (eq-eqb (reading_of bytes).number 0 h, ne_eqb (lanes_fault (study_of bytes lanes)).number 0 n) refl

  -- a table without a fault changes nothing
  pub opening_same : (lanes_fault (study_of bytes lanes)).number ≡ 0 → opening_of bytes lanes ≡ reading_of bytes
  unfolding opening_of
  opening_same z =
      rw (eq-eqb (lanes_fault (study_of bytes lanes)).number 0 z)
      (unless_elim (λ (x : ReadAnswer). x ≡ reading_of bytes) (eqb (reading_of bytes).number 0) (λ _. refl) (λ _. refl))

  pub openable_opening : Openable bytes lanes → opening_of bytes lanes ≡ reading_of bytes
  openable_opening t = opening_same t.opens

  -- if opening has no refusal, neither reading nor the table has one
  pub opening_opens : (opening_of bytes lanes).number ≡ 0 → Openable bytes lanes
  opening_opens h =
      fault_elim (reading_of bytes).number (λ n. absurd (n (rw (opening_refused n) at h))) (λ reads.
      fault_elim (lanes_fault (study_of bytes lanes)).number (λ n. absurd (n (rw (opening_closed reads n) at h))) (λ opens.
      record { reads = reads; opens = opens }))

-- x is the answer of opening without a refusal
module _ (bytes lanes : List ℕ) {x : ReadAnswer} (e : x ≡ opening_of bytes lanes) (h : x.number ≡ 0) where
  pub opened_openable : Openable bytes lanes
  opened_openable = opening_opens bytes lanes (rw e at h)

  -- x is reading's answer
  pub opened_reads : x ≡ reading_of bytes
  opened_reads = e ∙ openable_opening bytes lanes opened_openable

  pub opened_readable : Readable bytes (study_by bytes lanes x.road x.state x.steps)
  opened_readable = readable bytes lanes x opened_reads h (rw opened_reads opened_openable.opens)

-- the empty table has no fault
pub opening_empty : (bytes : List ℕ) → opening_of bytes [] ≡ reading_of bytes
opening_empty bytes = opening_same bytes [] (number_of_lem (table_empty [] (reading_of bytes).road.n (reading_of bytes).steps refl))
