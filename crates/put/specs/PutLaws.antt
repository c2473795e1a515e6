-- Laws of putting a release: its tests, and each case of its answer. Assumes nothing.
use Rattle.std.specs.Prelude.{List, ℕ, ◌≤◌, zero, suc, ◌-◌, ◌<◌, ◌≡◌, refl, true, false, leb, ltb, eqb}
use Rattle.std.proofs.Common.{sym, ap, ◌∙◌, arith}
use borrow.Author.Tests.{eqb-true, eq-eqb, ne_eqb, leb-true, ltb-true, le-leb, lt-leb, lt-ltb}
use Rattle.fields.specs.FieldsLaws.{HoldsRow}
use Rattle.model.specs.Numbers.{at}
use Rattle.numbers.specs.Tests.{not_both, and_true, both_true, le_head}
use Rattle.model.specs.Road.{most_rate}
use Rattle.model.specs.Refusals.{FaultAnswer, fault}
use Rattle.model.specs.Reading.{ReadAnswer, reading_of}
use Rattle.model.specs.Put.{ramp_ok, step_and_rate_ok, with_release, putting_of, released_record, Ramp}

-- what putting a release requires: the bytes hold the row, and the cell is on the road
pub record Place (bytes : List ℕ) (n step cell : ℕ) : Type 0 where
  pub row : HoldsRow bytes n step
  pub within : cell ≤ n

pub ramp_facts : (ramp : List ℕ) (n cell : ℕ) → ramp_ok ramp n cell ≡ true → Ramp ramp n cell
unfolding ramp_ok
ramp_facts ramp n zero h = absurd (not_both h refl)
ramp_facts ramp n (suc i) h =
    let a = le_head (suc i) n (eqb (at ramp i) 1) h in
    let e : suc i - 1 ≡ i = omega arith in
    record { some = omega arith; within = a.0; mark = ap (at ramp) e ∙ eqb-true (at ramp i) 1 a.1 }

pub facts_ramp : (ramp : List ℕ) (n cell : ℕ) → Ramp ramp n cell → ramp_ok ramp n cell ≡ true
unfolding ramp_ok
facts_ramp ramp n zero h = absurd (omega (arith, h.some))
facts_ramp ramp n (suc i) h =
    let e : suc i - 1 ≡ i = omega arith in
    both_true (leb (suc i) n) (eqb (at ramp i) 1) (le-leb (suc i) n h.within) (eq-eqb (at ramp i) 1 (sym (ap (at ramp) e) ∙ h.mark))

-- the code's tests of a cell
pub no_cell : (ramp : List ℕ) (n cell : ℕ) → cell < 1 → false ≡ ramp_ok ramp n cell
unfolding ramp_ok
no_cell ramp n zero l = refl
no_cell ramp n (suc i) l = absurd (omega arith)

pub past_cells : (ramp : List ℕ) (n cell : ℕ) → n < cell → false ≡ ramp_ok ramp n cell
unfolding ramp_ok
past_cells ramp n zero l = refl
past_cells ramp n (suc i) l = rw (lt-leb (suc i) n l)

pub at_cell : (ramp : List ℕ) (n cell : ℕ) → 1 ≤ cell → cell ≤ n → eqb (at ramp (cell - 1)) 1 ≡ ramp_ok ramp n cell
unfolding ramp_ok
at_cell ramp n zero l m = absurd (omega arith)
at_cell ramp n (suc i) l m =
    let e : suc i - 1 ≡ i = omega arith in
    rw (le-leb (suc i) n m, e)

-- the tests of the step and the release, as facts
pub rates_facts : (step T release : ℕ) → step_and_rate_ok step T release ≡ true → (step < T) × (release ≤ most_rate)
rates_facts step T release h =
    let a = and_true (ltb step T) (leb release most_rate) h in
    (ltb-true step T a.0, leb-true release most_rate a.1)

pub facts_rates : (step T release : ℕ) → step < T → release ≤ most_rate → step_and_rate_ok step T release ≡ true
facts_rates step T release l m = both_true (ltb step T) (leb release most_rate) (lt-ltb step T l) (le-leb release most_rate m)

-- putting's answer, and the record that it leaves
pub record PutOutcome (bytes : List ℕ) (step cell release : ℕ) (a : FaultAnswer) (left : List ℕ) : Type 0 where
  pub answer : a ≡ putting_of bytes step cell release
  pub leaves : left ≡ released_record bytes step cell release

-- an answer with a refusal leaves the record unchanged; one without puts the release
left_refused : (bytes : List ℕ) (step cell release : ℕ) (a : FaultAnswer) → (a.number ≡ 0 → ⊥) → a ≡ putting_of bytes step cell release
    → PutOutcome bytes step cell release a bytes
unfolding released_record
left_refused bytes step cell release a n e = record { answer = e; leaves = rw (← e, ne_eqb a.number 0 n) }

module _ (bytes : List ℕ) (step cell release : ℕ) {x : ReadAnswer} (e : x ≡ reading_of bytes) where
  pub ends_unread : (x.number ≡ 0 → ⊥) → PutOutcome bytes step cell release (fault x.number x.place) bytes
  unfolding putting_of
  ends_unread n = left_refused bytes step cell release (fault x.number x.place) n (rw (← e, ne_eqb x.number 0 n))

  module _ (z : x.number ≡ 0) where
    pub ends_ramp : ramp_ok x.road.ramp x.road.n cell ≡ false → PutOutcome bytes step cell release (fault 5 cell) bytes
    unfolding putting_of
    ends_ramp f = left_refused bytes step cell release (fault 5 cell) (λ k. omega arith) (rw (← e, eq-eqb x.number 0 z, f) refl)

    module _ (r : ramp_ok x.road.ramp x.road.n cell ≡ true) where
      pub ends_rates : step_and_rate_ok step x.steps release ≡ false → PutOutcome bytes step cell release (fault 6 step) bytes
      unfolding putting_of
      ends_rates f = left_refused bytes step cell release (fault 6 step) (λ k. omega arith) (rw (← e, eq-eqb x.number 0 z, r, f) refl)

      pub ends_put : step_and_rate_ok step x.steps release ≡ true
          → PutOutcome bytes step cell release (fault 0 0) (with_release bytes x.road.n step cell release)
      unfolding putting_of released_record
      ends_put f = record { answer = rw (← e, eq-eqb x.number 0 z, r, f); leaves = rw (← e, eq-eqb x.number 0 z, r, f) }
