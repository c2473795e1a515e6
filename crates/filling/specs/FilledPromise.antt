-- What filling promises, from the results of its code. Assumes nothing.
use Rattle.std.specs.Prelude.{◌≡◌, List, ℕ, ◌≤◌, ◌<◌, length}
use Rattle.std.proofs.Math.Path.{refl, ap}
use Rattle.std.proofs.Common.{sym, ◌∙◌}
use Rattle.model.specs.declared.State.{State}
use Rattle.model.specs.Schedules.{table_size}
use Rattle.model.specs.declared.Law.{Law}
use Rattle.model.specs.Reading.{ReadAnswer, study_by}
use Rattle.model.specs.Put.{put_table}
use Rattle.model.specs.Running.{EndAnswer, end_with, no_state, table_of}
use Rattle.model.specs.Demand.{Openable, DemandAndGrounds}
use Rattle.model.specs.Filling.{metered_after, granted_in, filled_study, filled_bytes, filling_of, record_after, filled_list, OnlyReleases}
use Rattle.filling.specs.Cases.{Leaves, refusal, fills_short, fills_all}
use Rattle.filling.specs.FillReading.{NoRefusal, FillReading}
use Rattle.model.specs.Longest.{Queues, longest_fill}
use Rattle.counts.specs.Longest.{no_queues}
use Rattle.filling.specs.LongestFill.{longest_from_start, longest_refused, longest_all}
use Rattle.filling.specs.Theorems.{only_releases, filled_promised}

-- the answer, the record and the list afterwards, and what is promised about them
abbrev pub Promise : List Law → List ℕ → List ℕ → List ℕ → EndAnswer → List ℕ → List ℕ → Type 0
Promise laws bytes lanes list e after out =
    (e ≡ filling_of laws bytes lanes list) × ((after ≡ record_after laws bytes lanes list) × ((out ≡ filled_list laws bytes lanes list)
    × ((Openable bytes lanes → DemandAndGrounds after lanes out e) × OnlyReleases bytes after)))

-- the same with the promise of the longest queues
abbrev pub LongestPromise : List Law → List ℕ → List ℕ → List ℕ → EndAnswer → List ℕ → List ℕ → Type 0 → Type 0
LongestPromise laws bytes lanes list e after out longest =
    (e ≡ filling_of laws bytes lanes list) × ((after ≡ record_after laws bytes lanes list) × ((out ≡ filled_list laws bytes lanes list)
    × ((Openable bytes lanes → DemandAndGrounds after lanes out e) × (OnlyReleases bytes after × longest))))

pub with_longest : {A B C D E F : Type 0} → A × (B × (C × (D × E))) → F → A × (B × (C × (D × (E × F))))
with_longest p q = (p.0, (p.1.0, (p.1.1.0, (p.1.1.1.0, (p.1.1.1.1, q)))))

-- after a refusal no step is done
pub refused_longest : (laws : List Law) (bytes lanes list : List ℕ) (number place : ℕ) {A : Type 0} {e : EndAnswer} {after out : List ℕ} {q : Queues}
    → (number ≡ 0 → ⊥) → e ≡ no_state number place → Promise laws bytes lanes list e after out → q ≡ no_queues
    → LongestPromise laws bytes lanes list e after out (A → q ≡ longest_fill laws bytes lanes list)
refused_longest laws bytes lanes list number place d ee p eq =
    (p.0, (p.1.0, (p.1.1.0, (p.1.1.1.0, (p.1.1.1.1, λ wanted. eq ∙ sym (longest_refused laws bytes lanes list number place d ee p.0))))))

promise : {laws : List Law} {bytes lanes list : List ℕ} {e x : EndAnswer} {after out left written : List ℕ} → Leaves laws bytes lanes list x left written
    → e ≡ x → after ≡ left → out ≡ written → Promise laws bytes lanes list e after out
promise {laws} {bytes} {lanes} {list} {after = after} h ee ea eo =
    let answer = ee ∙ sym h.answers in
    let record_left = ea ∙ sym h.bytes_are in
    let list_left = eo ∙ sym h.list_is in
    let releases : OnlyReleases bytes after = rw record_left (only_releases laws bytes lanes list) in
    (answer, (record_left, (list_left, (λ openable. rw (answer, record_left, list_left) (filled_promised laws bytes lanes list openable), releases))))

module _ (laws : List Law) (bytes lanes list : List ℕ) {x : ReadAnswer} (h : FillReading laws bytes lanes x) where
  pub promise_refused : {e : EndAnswer} → (x.number ≡ 0 → ⊥) → e ≡ no_state x.number x.place → Promise laws bytes lanes list e bytes list
  unfolding filling_of
  promise_refused n ee = promise (refusal laws bytes lanes list x.number x.place n (h.refused n _)) ee refl refl

  module _ (z : x.number ≡ 0) where
    p : NoRefusal laws bytes lanes x
    p = h.passed z

    pub promise_short : {e : EndAnswer} → length list < table_size (study_by bytes lanes x.road x.state x.steps) → e ≡ no_state 11 0
        → Promise laws bytes lanes list e bytes list
    promise_short l ee = promise (fills_short laws bytes lanes list p.reads p.finite p.opens (rw p.same at l)) ee refl refl

    pub promise_all : {e : EndAnswer} {t : State} {after out : List ℕ} → table_size (study_by bytes lanes x.road x.state x.steps) ≤ length list
        → e ≡ end_with 0 0 0 x.road t
        → after ≡ put_table bytes x.road.n (granted_in laws (study_by bytes lanes x.road x.state x.steps)) x.steps
        → out ≡ table_of (filled_study laws (study_by bytes lanes x.road x.state x.steps)) list x.steps
        → t ≡ (metered_after laws (study_by bytes lanes x.road x.state x.steps) x.steps).state
        → Promise laws bytes lanes list e after out
    unfolding filled_bytes
    promise_all l ee ea eo et =
        promise (fills_all laws bytes lanes list p.reads p.finite p.opens (rw p.same at l)) (ee ∙ ap (end_with 0 0 0 x.road) et ∙ rw p.same)
        (rw p.same at ea) (rw p.same at eo)

    pub longs_all : {A : Type 0} {q : Queues} → table_size (study_by bytes lanes x.road x.state x.steps) ≤ length list
        → (A → q ≡ longest_from_start laws (study_by bytes lanes x.road x.state x.steps)) → A → q ≡ longest_fill laws bytes lanes list
    longs_all l e wanted = rw p.same at (e wanted) ∙ sym (longest_all laws bytes lanes list p.reads p.finite p.opens (rw p.same at l))
