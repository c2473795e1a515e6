-- The theorems of putting a release: exactly that number changes, and the record reads as before; each refusal applies exactly as
-- on the page, and leaves the record unchanged. Assumes nothing.
use Rattle.std.specs.Prelude.{◌≡◌, refl, ◌⊎◌, List, ℕ, ◌+◌, ◌-◌, ◌*◌, ◌≤◌, ◌<◌, eqb, set}
use Rattle.std.proofs.Common.{sym, ap, ◌∙◌, ⊎_elim, inl, mul-le-mul_right, arith, length-set, get_or-set_same, get_or-set_other}
use borrow.Author.Tests.{eqb-true, eqb-false}
use Rattle.model.specs.Numbers.{at, unless}
use Rattle.numbers.specs.Tests.{unless_elim, not_both}
use Rattle.model.specs.declared.Road.{Road}
use Rattle.model.specs.Road.{most_rate}
use Rattle.model.specs.Refusals.{FaultAnswer, fault}
use Rattle.model.specs.Record.{row_size, record_row}
use Rattle.limits.specs.LimitsLaws.{RowOk, row_ok_lem}
use Rattle.model.specs.Reading.{reading_of}
use Rattle.reading.specs.Cases.{AcceptedRecord}
use Rattle.reading.specs.Within.{read_within_lem, read_row_lem}
use Rattle.put.specs.Bytes.{compare}
use Rattle.model.specs.Put.{NumberPut, ramp_ok, step_and_rate_ok, with_release, putting_of, released_record, Ramp, PutRequest, ReleasePut, PutEnds}
use Rattle.put.specs.ReleasesLaws.{put_entry_lem}
use Rattle.put.specs.SameReading.{rows_replaced}
use Rattle.put.specs.PutLaws.{ramp_facts, facts_ramp, rates_facts, facts_rates, PutOutcome}

-- a row within its limits stays within them if a ramp's release is put into it
module _ (r : Road) (row : List ℕ) (h : RowOk r row) (cell x : ℕ) (ramp : Ramp r.ramp r.n cell) (l : x ≤ most_rate) where
  other : (j : ℕ) → (2 * cell ≡ j → ⊥) → at (set row (2 * cell) x) j ≡ at row j
  other j d = get_or-set_other row (2 * cell) j x 0 (λ e. d (sym e))

  release : (i : ℕ) → i < r.n → (at (set row (2 * cell) x) (2 * i + 2) ≤ most_rate) × (at r.ramp i ≡ 0 → at (set row (2 * cell) x) (2 * i + 2) ≡ 0)
  release i m = ⊎_elim
      (λ (e : i + 1 ≡ cell).
      let k : 2 * i + 2 ≡ 2 * cell = omega arith in
      let v : at (set row (2 * cell) x) (2 * i + 2) ≡ x = rw k (get_or-set_same row (2 * cell) x 0 (omega (arith, h.numbers))) in
      let c : cell - 1 ≡ i = omega arith in
      (omega arith, λ z. absurd (omega (arith, ramp.mark, ap (at r.ramp) c))))
      (λ (o : (i + 1 < cell) ⊎ (cell < i + 1)).
      let d : 2 * cell ≡ 2 * i + 2 → ⊥ = λ e. ⊎_elim (λ (a : i + 1 < cell). omega arith) (λ (a : cell < i + 1). omega arith) o in
      let v = other (2 * i + 2) d in
      (omega (arith, h.release i m), λ z. v ∙ h.no_release i m z))
      (compare (i + 1) cell)

  row_with : RowOk r (set row (2 * cell) x)
  row_with = record {
    numbers = length-set row (2 * cell) x ∙ h.numbers;
    gate = omega (arith, other 0 (λ e. omega (arith, ramp.some)), h.gate);
    arrivals = λ i m. omega (arith, other (2 * i + 1) (λ e. omega arith), h.arrivals i m);
    release = λ i m. (release i m).0;
    no_arrivals = λ i m z. other (2 * i + 1) (λ e. omega arith) ∙ h.no_arrivals i m z;
    no_release = λ i m z. (release i m).1 z;
  }

module _ (bytes : List ℕ) (step cell release : ℕ) (request : PutRequest bytes step cell release) where
  abbrev n : ℕ
  n = (reading_of bytes).road.n

  abbrev after : List ℕ
  after = with_release bytes n step cell release

  accepted : AcceptedRecord bytes (reading_of bytes).steps (reading_of bytes).road (reading_of bytes).state
  accepted = read_within_lem bytes (reading_of bytes) refl request.reads

  is_put : NumberPut bytes after n step (2 * cell) release
  is_put =
      put_entry_lem bytes n step (2 * cell) release (omega (arith, request.ramp.within))
      (read_row_lem bytes (reading_of bytes) refl request.reads step request.before) (omega (arith, request.rate))

  row_within : (t : ℕ) → t < (reading_of bytes).steps → RowOk (reading_of bytes).road (record_row after n t)
  row_within t l = ⊎_elim
      (λ (e : t ≡ step).
      rw (e, is_put.row) (row_with (reading_of bytes).road (record_row bytes n step) (accepted.row step request.before) cell release request.ramp request.rate))
      (λ (o : (t < step) ⊎ (step < t)).
      let d : t ≡ step → ⊥ = λ e. ⊎_elim (λ (a : t < step). omega arith) (λ (a : step < t). omega arith) o in
      rw (is_put.rows t d) (accepted.row t l))
      (compare t step)

  release_put : ReleasePut bytes after step cell release
  release_put = record {
    put = is_put;
    reads =
        rows_replaced bytes after is_put.size request.reads
        (λ b l. is_put.byte b (inl (omega (arith, mul-le-mul_right {m = 0} {n = step} (row_size n) (omega arith)))))
        (λ t l. row_ok_lem (reading_of bytes).road (record_row after n t) accepted.road (row_within t l));
  }

-- 1: every answer is one of the cases
module _ (bytes : List ℕ) (step cell release : ℕ) where
  abbrev r : Road
  r = (reading_of bytes).road

  abbrev T : ℕ
  T = (reading_of bytes).steps

  -- an answer, with the record that it leaves
  abbrev End : FaultAnswer → Type 0
  End x = PutEnds bytes step cell release x (unless (eqb x.number 0) bytes (with_release bytes r.n step cell release))

  pub ends : PutEnds bytes step cell release (putting_of bytes step cell release) (released_record bytes step cell release)
  unfolding putting_of released_record
  ends =
      unless_elim End (eqb (reading_of bytes).number 0) (λ e. rw e (PutEnds.unread (eqb-false (reading_of bytes).number 0 e))) (λ e.
      let reads = eqb-true (reading_of bytes).number 0 e in
      unless_elim End (ramp_ok r.ramp r.n cell) (λ f. PutEnds.no_ramp reads (λ h. not_both (facts_ramp r.ramp r.n cell h) f)) (λ f.
      let ramp = ramp_facts r.ramp r.n cell f in
      unless_elim End (step_and_rate_ok step T release) (λ g. PutEnds.no_rate reads ramp (λ l m. not_both (facts_rates step T release l m) g)) (λ g.
      let rates = rates_facts step T release g in
      let request : PutRequest bytes step cell release = record { reads = reads; ramp = ramp; before = rates.0; rate = rates.1 } in
      PutEnds.put request (release_put bytes step cell release request))))

-- an answer and a record that the definitions give are one of the cases, so a contract may promise all three
pub meets_contract : (bytes : List ℕ) (step cell release : ℕ) {a : FaultAnswer} {left : List ℕ} → PutOutcome bytes step cell release a left
    → (a ≡ putting_of bytes step cell release) × ((left ≡ released_record bytes step cell release) × PutEnds bytes step cell release a left)
meets_contract bytes step cell release h = (h.answer, (h.leaves, rw (h.answer, h.leaves) (ends bytes step cell release)))

-- 2: without a refusal the release is there and nothing else changes
put_leaves : {bytes : List ℕ} {step cell release : ℕ} {a : FaultAnswer} {after : List ℕ} → PutEnds bytes step cell release a after → a.number ≡ 0
    → PutRequest bytes step cell release × ReleasePut bytes after step cell release
put_leaves (PutEnds.unread h) e = absurd (h e)
put_leaves (PutEnds.no_ramp q h) e = absurd (omega arith)
put_leaves (PutEnds.no_rate q p h) e = absurd (omega arith)
put_leaves (PutEnds.put request s) e = (request, s)

pub puts : (bytes : List ℕ) (step cell release : ℕ) → (putting_of bytes step cell release).number ≡ 0
    → PutRequest bytes step cell release × ReleasePut bytes (released_record bytes step cell release) step cell release
puts bytes step cell release = put_leaves (ends bytes step cell release)

-- there is no refusal exactly if all of these conditions hold
request_puts : {bytes : List ℕ} {step cell release : ℕ} {a : FaultAnswer} {after : List ℕ} → PutEnds bytes step cell release a after → PutRequest bytes step cell release
    → a ≡ fault 0 0
request_puts (PutEnds.unread h) q = absurd (h q.reads)
request_puts (PutEnds.no_ramp z h) q = absurd (h q.ramp)
request_puts (PutEnds.no_rate z p h) q = absurd (h q.before q.rate)
request_puts (PutEnds.put request s) q = refl

pub put_if : (bytes : List ℕ) (step cell release : ℕ) → PutRequest bytes step cell release → putting_of bytes step cell release ≡ fault 0 0
put_if bytes step cell release = request_puts (ends bytes step cell release)

-- 3: a refusal leaves the record unchanged
refused_left : {bytes : List ℕ} {step cell release : ℕ} {a : FaultAnswer} {after : List ℕ} → PutEnds bytes step cell release a after → (a.number ≡ 0 → ⊥)
    → after ≡ bytes
refused_left (PutEnds.unread h) n = refl
refused_left (PutEnds.no_ramp q h) n = refl
refused_left (PutEnds.no_rate q p h) n = refl
refused_left (PutEnds.put request s) n = absurd (n refl)

pub refused_unchanged : (bytes : List ℕ) (step cell release : ℕ) → ((putting_of bytes step cell release).number ≡ 0 → ⊥)
    → released_record bytes step cell release ≡ bytes
refused_unchanged bytes step cell release = refused_left (ends bytes step cell release)
