-- Theorem about a wanted queue, putting and running: a table found for a ramp's own start queue and arrivals is put into the record, one release
-- per step. No put is refused, nothing else changes, the record reads as before, and running never refuses that ramp with 9. Assumes nothing.
use Rattle.std.specs.Prelude.{◌≡◌, true, List, length, set}
use Rattle.std.proofs.Math.Path.{refl, subst⁻¹}
use Rattle.std.proofs.Common.{sym, ap, ◌∙◌, ⊎_elim, le_refl, eq-or-lt_of_le, le_of_suc-le-suc, arith, get_or-set_same, get_or-set_other}
use Prim.Native.Nat.{ℕ, zero, suc, ◌+◌, ◌-◌, ◌*◌, ◌≤◌, ◌<◌}
use Rattle.model.specs.Numbers.{at, list_of}
use Rattle.numbers.specs.RowsLaws.{length_list, list_at}
use Rattle.model.specs.Road.{most_rate}
use Rattle.model.specs.Refusals.{FaultAnswer, fault}
use Rattle.model.specs.Schedules.{Study, schedule_after}
use Rattle.model.specs.Wanted.{TableObeys, wanted_of, table_after}
use Rattle.wanted.proofs.Theorems.{found_least, found_request}
use Rattle.model.specs.Flow.{arrivals_at, release_at}
use Rattle.model.specs.Record.{number_size, version_of, entry_start, record_row}
use Rattle.fields.specs.FieldsLaws.{length_row}
use Rattle.model.specs.Reading.{ReadAnswer, reading_of, study_by, study_of}
use Rattle.model.specs.Put.{Outside}
use Rattle.model.specs.Put.{putting_of, released_record, Ramp, ReleasePut}
use Rattle.put.specs.Theorems.{puts, put_if}
use Rattle.model.specs.Running.{running_of}
use Rattle.model.specs.Demand.{Openable}
use Rattle.theory.specs.Readable.{readable}
use Rattle.freeway.specs.WantedRun.{Follows, ceiling_kept, running_never_nine}

-- a record after the releases of k steps were put at one cell, one after the other
unfoldable pub put_steps : List ℕ → ℕ → List ℕ → ℕ → List ℕ
put_steps bytes cell table zero = bytes
put_steps bytes cell table (suc k) = released_record (put_steps bytes cell table k) k cell (at table k)

-- after k puts: no put was refused, the record reads as before, its rows have the table's releases, and every other number and byte is unchanged
pub record PutSteps (bytes : List ℕ) (cell : ℕ) (table : List ℕ) (k : ℕ) (after : List ℕ) : Type 0 where
  pub accepted : (t : ℕ) → t < k → putting_of (put_steps bytes cell table t) t cell (at table t) ≡ fault 0 0
  pub reads : reading_of after ≡ reading_of bytes
  pub version : version_of after ≡ version_of bytes
  pub row : (t : ℕ) → t < k → record_row after (reading_of bytes).road.n t ≡ set (record_row bytes (reading_of bytes).road.n t) (2 * cell) (at table t)
  pub later : (t : ℕ) → k ≤ t → record_row after (reading_of bytes).road.n t ≡ record_row bytes (reading_of bytes).road.n t
  pub byte : (b : ℕ) → ((t : ℕ) → t < k → Outside b (entry_start (version_of bytes) (reading_of bytes).road.n t (2 * cell)) number_size)
      → at after b ≡ at bytes b

-- a table of rates for a ramp of a record that reads
module _ (bytes : List ℕ) (cell : ℕ) (table : List ℕ) (reads : (reading_of bytes).number ≡ 0)
    (ramp : Ramp (reading_of bytes).road.ramp (reading_of bytes).road.n cell)
    (rates : (t : ℕ) → t < (reading_of bytes).steps → at table t ≤ most_rate) where
  -- one more put
  put_more : (k : ℕ) → k < (reading_of bytes).steps → {u : List ℕ} → u ≡ put_steps bytes cell table k → PutSteps bytes cell table k u
      → PutSteps bytes cell table (suc k) (released_record u k cell (at table k))
  put_more k l {u} e p =
      let same = p.reads in
      let ok : putting_of u k cell (at table k) ≡ fault 0 0 =
      put_if u k cell (at table k) (record {
        reads = ap (λ (x : ReadAnswer). x.number) same ∙ reads;
        ramp = subst⁻¹ (λ (x : ReadAnswer). Ramp x.road.ramp x.road.n cell) same ramp;
        before = subst⁻¹ (λ (x : ReadAnswer). k < x.steps) same l;
        rate = rates k l;
      }) in
      let s : ReleasePut u (released_record u k cell (at table k)) k cell (at table k) =
      (puts u k cell (at table k) (ap (λ (q : FaultAnswer). q.number) ok)).1 in
      let put = rw same at s.put in
      record {
        accepted = λ t m. ⊎_elim
            (λ (q : t ≡ k). rw (q, ← e) ok)
            (λ (q : t < k). p.accepted t q)
            (eq-or-lt_of_le (le_of_suc-le-suc m));
        reads = s.reads ∙ same;
        version = put.version ∙ p.version;
        row = λ t m. ⊎_elim
            (λ (q : t ≡ k). rw q (put.row ∙ ap (λ (r : List ℕ). set r (2 * cell) (at table k)) (p.later k (le_refl k))))
            (λ (q : t < k). put.rows t (λ z. omega arith) ∙ p.row t q)
            (eq-or-lt_of_le (le_of_suc-le-suc m));
        later = λ t m. put.rows t (λ z. omega arith) ∙ p.later t (omega arith);
        byte = λ b o. put.byte b (rw p.version (o k (omega arith))) ∙ p.byte b (λ t m. o t (omega arith));
      }

  -- at most as many puts as the record has steps
  pub steps_put : (k : ℕ) → k ≤ (reading_of bytes).steps → PutSteps bytes cell table k (put_steps bytes cell table k)
  unfolding put_steps
  steps_put zero l = record {
    accepted = λ t m. absurd (omega arith);
    reads = refl;
    version = refl;
    row = λ t m. absurd (omega arith);
    later = λ t m. refl;
    byte = λ b o. refl;
  }
  steps_put (suc k) l = put_more k l refl (steps_put k (omega arith))

-- the arrivals of the ramp of the cell at i in every step of a record
unfoldable pub ramp_arrivals : List ℕ → ℕ → List ℕ
ramp_arrivals bytes i = list_of (λ k. arrivals_at (record_row bytes (reading_of bytes).road.n k) i) (reading_of bytes).steps

-- what holds after a found table was put: for every schedule and for running, with any lent list
pub record QueueKept (bytes lanes : List ℕ) (i ceiling : ℕ) (table after : List ℕ) : Type 0 where
  pub put : PutSteps bytes (i + 1) table (reading_of bytes).steps after
  pub openable : Openable after lanes
  pub follows : Follows (study_of after lanes) i (at (reading_of bytes).state.queue i) (ramp_arrivals bytes i) table
  pub under : (ys : ℕ → List ℕ) (k : ℕ) → k < (study_of after lanes).steps → at (schedule_after (study_of after lanes) ys (suc k)).queue i ≤ ceiling
  pub no_nine : (list : List ℕ) → (running_of after lanes list).number ≡ 9 → (running_of after lanes list).place ≡ i + 1 → ⊥

-- a record and a table of lanes without a refusal, and a ramp of the record
module _ (bytes lanes : List ℕ) (openable : Openable bytes lanes) (i : ℕ)
    (ramp : Ramp (reading_of bytes).road.ramp (reading_of bytes).road.n (i + 1)) where
  abbrev n : ℕ
  n = (reading_of bytes).road.n

  arrivals_length : length (ramp_arrivals bytes i) ≡ (reading_of bytes).steps
  unfolding ramp_arrivals
  arrivals_length = length_list _ _

  arrivals_at_lem : (k : ℕ) → k < (reading_of bytes).steps → at (ramp_arrivals bytes i) k ≡ arrivals_at (record_row bytes (reading_of bytes).road.n k) i
  unfolding ramp_arrivals
  arrivals_at_lem k l = list_at (λ j. arrivals_at (record_row bytes n j) i) (reading_of bytes).steps k l

  -- T puts of any table of rates give a record that follows the table
  module _ (table after : List ℕ) (p : PutSteps bytes (i + 1) table (reading_of bytes).steps after) where
    comes : (k : ℕ) → k < (reading_of bytes).steps → arrivals_at (record_row after (reading_of bytes).road.n k) i ≡ at (ramp_arrivals bytes i) k
    comes k l =
        ap (λ (row : List ℕ). arrivals_at row i) (p.row k l)
        ∙ get_or-set_other (record_row bytes n k) (2 * (i + 1)) (2 * i + 1) (at table k) 0 (λ e. omega arith)
        ∙ sym (arrivals_at_lem k l)

    goes : (k : ℕ) → k < (reading_of bytes).steps → release_at (record_row after (reading_of bytes).road.n k) i ≡ at table k
    goes k l =
        let e : 2 * i + 2 ≡ 2 * (i + 1) = omega arith in
        ap (λ (row : List ℕ). at row (2 * i + 2)) (p.row k l)
        ∙ ap (at (set (record_row bytes n k) (2 * (i + 1)) (at table k))) e
        ∙ get_or-set_same (record_row bytes n k) (2 * (i + 1)) (at table k) 0 (omega (arith, ramp.within, length_row bytes n k))

    pub puts_follow : Follows (study_of after lanes) i (at (reading_of bytes).state.queue i) (ramp_arrivals bytes i) table
    puts_follow =
        subst⁻¹ (λ (x : ReadAnswer). Follows (study_by after lanes x.road x.state x.steps) i
        (at (reading_of bytes).state.queue i) (ramp_arrivals bytes i) table) p.reads
        (record { cell = omega (arith, ramp.within); steps = arrivals_length; queue = refl; comes = comes; goes = goes })

    pub puts_openable : Openable after lanes
    puts_openable = record {
      reads = ap (λ (x : ReadAnswer). x.number) p.reads ∙ openable.reads;
      opens = rw p.reads openable.opens;
    }

  -- a table found for the ramp's own queue and arrivals is put without a refusal, and keeps the queue
  module _ (ceiling rate : ℕ) (lent : List ℕ)
      (found : (wanted_of (at (reading_of bytes).state.queue i) ceiling rate (ramp_arrivals bytes i) (length lent)).found ≡ true) where
    abbrev start : ℕ
    start = at (reading_of bytes).state.queue i

    abbrev arrivals : List ℕ
    arrivals = ramp_arrivals bytes i

    abbrev table : List ℕ
    table = table_after start ceiling rate arrivals lent

    obeys : TableObeys (at (reading_of bytes).state.queue i) ceiling rate (ramp_arrivals bytes i)
        (table_after (at (reading_of bytes).state.queue i) ceiling rate (ramp_arrivals bytes i) lent)
    obeys = (found_least start ceiling rate arrivals lent found).obeys

    rates : (t : ℕ) → t < (reading_of bytes).steps
        → at (table_after (at (reading_of bytes).state.queue i) ceiling rate (ramp_arrivals bytes i) lent) t ≤ most_rate
    rates t l =
        omega (arith, obeys.slow t (omega (arith, arrivals_length)), (found_request start ceiling rate arrivals lent found).limits.rates)

    pub found_kept : QueueKept bytes lanes i ceiling
        (table_after (at (reading_of bytes).state.queue i) ceiling rate (ramp_arrivals bytes i) lent)
        (put_steps bytes (i + 1) (table_after (at (reading_of bytes).state.queue i) ceiling rate (ramp_arrivals bytes i) lent) (reading_of bytes).steps)
    found_kept =
        let T = (reading_of bytes).steps in
        let after = put_steps bytes (i + 1) table T in
        let p = steps_put bytes (i + 1) table openable.reads ramp rates T (le_refl T) in
        let f = puts_follow table after p in
        let t = puts_openable table after p in
        record {
          put = p;
          openable = t;
          follows = f;
          under = ceiling_kept (study_of after lanes) (readable after lanes (reading_of after) refl t.reads t.opens).ok
              i start ceiling rate arrivals table f obeys;
          no_nine = running_never_nine after lanes t i start ceiling rate arrivals table f obeys;
        }
