-- The theorems of filling: it changes only the record's releases; running the filled record gives its list, road and state; each release is the
-- law's; and demand 3 holds for the filled record. Assumes nothing.
use Rattle.std.specs.Prelude.{◌≡◌, refl, List, ℕ, ◌≤◌, ◌<◌, length}
use Rattle.std.proofs.Common.{sym, ap, ◌∙◌, arith}
use Rattle.model.specs.Numbers.{one_of}
use Rattle.model.specs.Refusals.{began}
use Rattle.model.specs.Schedules.{Study, road_at, table_size}
use Rattle.model.specs.declared.Law.{Law}
use Rattle.model.specs.Reading.{reading_of, study_of}
use Rattle.model.specs.Flow.{gate_arrivals, arrivals_at}
use Rattle.model.specs.Filling.{metered_after, filled_bytes, law_place, filling_of, record_after, filled_list, OnlyReleases}
use Rattle.theory.specs.RunsLaws.{StudyOk}
use Rattle.theory.proofs.RunsLaws.{shared_less}
use Rattle.model.specs.Running.{EndAnswer, running_of, list_after}
use Rattle.theory.proofs.RunEnds.{runs_refused, writes_refused, runs_closed, writes_closed, runs_short, writes_short}
use Rattle.theory.specs.Readable.{readable}
use Rattle.model.specs.Demand.{Openable, DemandAndGrounds}
use Rattle.theory.proofs.DemandWhole.{unbegun, demand_and_grounds}
use Rattle.ramps.specs.RampsLaws.{filled_gate, filled_arrivals}
use Rattle.filling.specs.Rerun.{filled_table, filled_rows_lem, filled_reads, same_study, filled_shared, filled_openable, filled_runs, filled_writes}
use Rattle.filling.specs.Cases.{Leaves, fills_refused, fills_law, fills_closed, fills_short, fills_all, Case, case_of}
use Rattle.filling.specs.ByLaw.{ByLaw, filled_by_law, shared_by_law}

unchanged : (bytes : List ℕ) → OnlyReleases bytes bytes
unchanged bytes = record { size = refl; byte = λ b o. refl; reads = refl; gate = λ t l. refl; arrivals = λ t i l. refl }

module _ (laws : List Law) (bytes lanes : List ℕ) (openable : Openable bytes lanes) where
  abbrev a : Study
  a = study_of bytes lanes

  filled_only : OnlyReleases bytes (filled_bytes laws bytes lanes)
  filled_only = record {
    size = (filled_table laws bytes lanes openable).size;
    byte = (filled_table laws bytes lanes openable).byte;
    reads = filled_reads laws bytes lanes openable;
    gate = λ t l.
        ap gate_arrivals (filled_rows_lem laws bytes lanes openable t l) ∙ filled_gate laws (road_at a t) (metered_after laws a t) (a.rows t);
    arrivals = λ t i l.
        ap (λ (row : List ℕ). arrivals_at row i) (filled_rows_lem laws bytes lanes openable t l)
        ∙ filled_arrivals laws (road_at a t) (metered_after laws a t) (a.rows t) i;
  }

  by_law : (t i : ℕ) → t < a.steps → i < a.road.n → ByLaw laws (study_of (filled_bytes laws bytes lanes) lanes) t i
  by_law t i l j =
      let ok : StudyOk (study_of bytes lanes) = (readable bytes lanes (reading_of bytes) refl openable.reads openable.opens).ok in
      rw (same_study laws bytes lanes openable)
      (shared_by_law i t refl (shared_less (filled_shared laws bytes lanes openable) _ l) (filled_by_law laws a ok i j t l))

-- 1: filling changes only the record's releases
pub only_releases : (laws : List Law) (bytes lanes list : List ℕ) → OnlyReleases bytes (record_after laws bytes lanes list)
only_releases laws bytes lanes list = go (case_of laws bytes lanes list)
  where
    go : Case laws bytes lanes list → OnlyReleases bytes (record_after laws bytes lanes list)
    go (Case.refused h) = rw (fills_refused laws bytes lanes list h).bytes_are (unchanged bytes)
    go (Case.law r h) = rw (fills_law laws bytes lanes list r h).bytes_are (unchanged bytes)
    go (Case.closed r h n) = rw (fills_closed laws bytes lanes list r h n).bytes_are (unchanged bytes)
    go (Case.short k h l) = rw (fills_short laws bytes lanes list k.reads h k.opens l).bytes_are (unchanged bytes)
    go (Case.all k h l) = rw (fills_all laws bytes lanes list k.reads h k.opens l).bytes_are (filled_only laws bytes lanes k)

-- 2: running the record afterwards, under the table that it was filled with, gives the answer and the list; only 16 is not a refusal of running
pub record Rerun (laws : List Law) (bytes lanes list : List ℕ) : Type 0 where
  pub answer : running_of (record_after laws bytes lanes list) lanes list ≡ filling_of laws bytes lanes list
  pub written : list_after (record_after laws bytes lanes list) lanes list ≡ filled_list laws bytes lanes list

rerun_by : {laws : List Law} {bytes lanes list : List ℕ} {e : EndAnswer} {after out : List ℕ} → Leaves laws bytes lanes list e after out
    → running_of after lanes list ≡ e → list_after after lanes list ≡ out → Rerun laws bytes lanes list
rerun_by h ea eo = record { answer = rw (h.bytes_are, h.answers) ea; written = rw (h.bytes_are, h.list_is) eo }

pub rerun : (laws : List Law) (bytes lanes list : List ℕ) → ((filling_of laws bytes lanes list).number ≡ 16 → ⊥) → Rerun laws bytes lanes list
rerun laws bytes lanes list n = go (case_of laws bytes lanes list)
  where
    go : Case laws bytes lanes list → Rerun laws bytes lanes list
    go (Case.refused h) = rerun_by (fills_refused laws bytes lanes list h) (runs_refused bytes lanes h list) (writes_refused bytes lanes h list)
    go (Case.law r h) = absurd (n (ap (λ (e : EndAnswer). e.number) (fills_law laws bytes lanes list r h).answers))
    go (Case.closed r h m) = rerun_by (fills_closed laws bytes lanes list r h m) (runs_closed bytes lanes r m list) (writes_closed bytes lanes r m list)
    go (Case.short k h l) =
        rerun_by (fills_short laws bytes lanes list k.reads h k.opens l) (runs_short bytes lanes k list l) (writes_short bytes lanes k list l)
    go (Case.all k h l) =
        rerun_by (fills_all laws bytes lanes list k.reads h k.opens l) (filled_runs laws bytes lanes k list l) (filled_writes laws bytes lanes k list l)

-- so filling is never refused with 9 or 10
pub never_refused : (laws : List Law) (bytes lanes list : List ℕ) → Openable bytes lanes → law_place laws (study_of bytes lanes) ≡ 0
    → table_size (study_of bytes lanes) ≤ length list → (filling_of laws bytes lanes list).number ≡ 0
never_refused laws bytes lanes list k h l = ap (λ (e : EndAnswer). e.number) (fills_all laws bytes lanes list k.reads h k.opens l).answers

-- 3: each filled release is the law's, in the run's own states
pub each_by_law : (laws : List Law) (bytes lanes list : List ℕ) → (filling_of laws bytes lanes list).number ≡ 0
    → (t i : ℕ) → t < (study_of bytes lanes).steps → i < (study_of bytes lanes).road.n → ByLaw laws (study_of (record_after laws bytes lanes list) lanes) t i
each_by_law laws bytes lanes list z t i lt li = go (case_of laws bytes lanes list)
  where
    number : {e : EndAnswer} → filling_of laws bytes lanes list ≡ e → e.number ≡ 0
    number g = ap (λ (x : EndAnswer). x.number) (sym g) ∙ z

    go : Case laws bytes lanes list → ByLaw laws (study_of (record_after laws bytes lanes list) lanes) t i
    go (Case.refused h) = absurd (h (number (fills_refused laws bytes lanes list h).answers))
    go (Case.law r h) = absurd (let q = number (fills_law laws bytes lanes list r h).answers in omega arith)
    go (Case.closed r h n) = absurd (n (number (fills_closed laws bytes lanes list r h n).answers))
    go (Case.short k h l) = absurd (let q = number (fills_short laws bytes lanes list k.reads h k.opens l).answers in omega arith)
    go (Case.all k h l) = rw (fills_all laws bytes lanes list k.reads h k.opens l).bytes_are (by_law laws bytes lanes k t i lt li)

-- 4: demand 3 for the filled record, its list and the answer: every rival has the filled releases
pub filled_promised : (laws : List Law) (bytes lanes list : List ℕ) → Openable bytes lanes
    → DemandAndGrounds (record_after laws bytes lanes list) lanes (filled_list laws bytes lanes list) (filling_of laws bytes lanes list)
unfolding began one_of
filled_promised laws bytes lanes list openable = go (case_of laws bytes lanes list)
  where
    by : {e : EndAnswer} {after out : List ℕ} → Leaves laws bytes lanes list e after out → DemandAndGrounds after lanes out e
        → DemandAndGrounds (record_after laws bytes lanes list) lanes (filled_list laws bytes lanes list) (filling_of laws bytes lanes list)
    by h p = rw (h.bytes_are, h.list_is, h.answers) p

    go : Case laws bytes lanes list
        → DemandAndGrounds (record_after laws bytes lanes list) lanes (filled_list laws bytes lanes list) (filling_of laws bytes lanes list)
    go (Case.refused h) = absurd (h openable.reads)
    go (Case.law r h) =
        by (fills_law laws bytes lanes list r h) (unbegun bytes lanes openable list 16 (law_place laws (study_of bytes lanes)) (λ e. omega arith) refl)
    go (Case.closed r h n) = absurd (n openable.opens)
    go (Case.short k h l) =
        by (fills_short laws bytes lanes list k.reads h k.opens l) (unbegun bytes lanes openable list 11 0 (λ e. omega arith) refl)
    go (Case.all k h l) =
        by (fills_all laws bytes lanes list k.reads h k.opens l)
        (rw (← filled_runs laws bytes lanes k list l, ← filled_writes laws bytes lanes k list l)
        (demand_and_grounds (filled_bytes laws bytes lanes) lanes (filled_openable laws bytes lanes k) list))
