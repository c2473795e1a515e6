-- Theorem about putting a release and running. The record that putting leaves runs under the same tables of lanes. Its run checks the release
-- against queue and supply, and demand 3 holds for it against its own rivals. Assumes nothing.
use Rattle.std.specs.Prelude.{◌≡◌, refl, List, ℕ, ◌+◌, ◌*◌, ◌≤◌, ◌<◌, length, set}
use Rattle.std.proofs.Common.{ap, ◌∙◌, le_refl, arith}
use Rattle.model.specs.Numbers.{at}
use Rattle.model.specs.Refusals.{fault}
use Rattle.model.specs.Schedules.{Study, road_at, scheduled_at}
use Rattle.model.specs.Street.{grants_of, GrantRequest}
use Rattle.street.specs.StreetLaws.{grants_wish}
use Rattle.fields.specs.FieldsLaws.{row_at_lem}
use Rattle.model.specs.Reading.{ReadAnswer, reading_of, study_of}
use Rattle.model.specs.Flow.{release_at, most_release_at, supply_at}
use Rattle.model.specs.Put.{putting_of, released_record, Ramp, PutRequest, ReleasePut}
use Rattle.put.specs.Theorems.{puts, put_if}
use Rattle.model.specs.Running.{steps_made, running_of, list_after}
use Rattle.theory.specs.Readable.{readable}
use Rattle.model.specs.Demand.{Openable, DemandAndGrounds}
use Rattle.theory.proofs.DemandWhole.{demand_and_grounds}

-- a release at i in the state before a step of a table of outflows: it is at most queue plus arrivals, and at most the supply
pub record ReleaseChecked (a : Study) (out : List ℕ) (step release i : ℕ) : Type 0 where
  pub queue : release ≤ most_release_at (scheduled_at a out step) (a.rows step) i
  pub supply : release ≤ supply_at (road_at a step) (scheduled_at a out step) i

module _ (bytes lanes : List ℕ) (openable : Openable bytes lanes) (step cell release : ℕ) (put : (putting_of bytes step cell release).number ≡ 0) where
  abbrev after : List ℕ
  after = released_record bytes step cell release

  abbrev a : Study
  a = study_of (released_record bytes step cell release) lanes

  release_put : ReleasePut bytes (released_record bytes step cell release) step cell release
  release_put = (puts bytes step cell release put).1

  request : PutRequest bytes step cell release
  request = (puts bytes step cell release put).0

  -- the new record is opened as the old one was
  pub put_openable : Openable (released_record bytes step cell release) lanes
  put_openable = record {
    reads = ap (λ (x : ReadAnswer). x.number) release_put.reads ∙ openable.reads;
    opens = rw release_put.reads openable.opens;
  }

  -- its study has the release in that step's row; the other rows are unchanged
  pub put_row_lem : (study_of (released_record bytes step cell release) lanes).rows step ≡ set ((study_of bytes lanes).rows step) (2 * cell) release
  put_row_lem = rw release_put.reads release_put.put.row

  pub put_rows_lem : (k : ℕ) → (k ≡ step → ⊥) → (study_of (released_record bytes step cell release) lanes).rows k ≡ (study_of bytes lanes).rows k
  put_rows_lem k d = rw release_put.reads (release_put.put.rows k d)

  -- demand 3 holds for it: each road is compared with its own rivals
  pub put_promised : (list : List ℕ)
      → DemandAndGrounds (released_record bytes step cell release) lanes (list_after (released_record bytes step cell release) lanes list)
      (running_of (released_record bytes step cell release) lanes list)
  put_promised list = demand_and_grounds (released_record bytes step cell release) lanes put_openable list

  -- the release is in the row where the model reads it
  pub put_release_lem : (i : ℕ) → i + 1 ≡ cell → release_at ((study_of (released_record bytes step cell release) lanes).rows step) i ≡ release
  put_release_lem i e =
      let k : 2 * i + 2 ≡ 2 * cell = omega arith in
      let n = (reading_of bytes).road.n in
      rw (release_put.reads, k) (row_at_lem after n step (2 * cell) (omega (arith, request.ramp.within)) ∙ release_put.put.number)

  -- a run that makes that step has checked it: against queue plus arrivals, and against the supply
  module _ (list : List ℕ)
      (made : step < steps_made (study_of (released_record bytes step cell release) lanes) (running_of (released_record bytes step cell release) lanes list)) where
    pub put_checked : (i : ℕ) → i + 1 ≡ cell → ReleaseChecked (study_of (released_record bytes step cell release) lanes)
        (list_after (released_record bytes step cell release) lanes list) step release i
    put_checked i e =
        let own = (((put_promised list).grounds.own (steps_made a (running_of after lanes list)) (le_refl _)).obeys step made).released in
        let ok = (readable after lanes (reading_of after) refl put_openable.reads put_openable.opens).ok in
        let n : i < (road_at a step).n =
        omega (arith, (ok.roads step).n, request.ramp.within, ap (λ (x : ReadAnswer). x.road.n) release_put.reads) in
        record { queue = omega (arith, put_release_lem i e, own.queue i n); supply = omega (arith, put_release_lem i e, own.supply i n) }

-- putting never refuses a granted release for its size, at a ramp of the road and a step of the record
pub granted_put : (limit : ℕ) (guarantees wishes : List ℕ) → GrantRequest limit guarantees wishes → (i : ℕ) → i < length guarantees
    → (bytes : List ℕ) (step cell : ℕ) → (reading_of bytes).number ≡ 0 → Ramp (reading_of bytes).road.ramp (reading_of bytes).road.n cell
    → step < (reading_of bytes).steps → putting_of bytes step cell (at (grants_of limit guarantees wishes) i) ≡ fault 0 0
granted_put limit guarantees wishes request i l bytes step cell reads ramp before =
    put_if bytes step cell (at (grants_of limit guarantees wishes) i)
    (record { reads = reads; ramp = ramp; before = before; rate = omega (arith, grants_wish limit guarantees wishes i l, request.wished i (omega (arith, request.same))) })
