-- What running promises over a record that was opened, from its own start or from a state. Assumes nothing.
use Rattle.std.specs.Prelude.{◌≡◌, refl, Bool, true, cond, List, ℕ, ◌≤◌, ◌<◌, leb, length}
use Rattle.std.proofs.Common.{sym, ap, ◌∙◌, arith, le-leb, ne_eqb}
use Rattle.std.proofs.lemmas.Bool.{lt-leb}
use Rattle.model.specs.Numbers.{unless}
use Rattle.model.specs.declared.State.{State}
use Rattle.model.specs.Schedules.{Study, table_size, engine_after}
use Rattle.model.specs.Reading.{ReadAnswer}
use Rattle.model.specs.Running.{EndAnswer, no_state, steps_made, opening_of, run_fault, first_step, run_end, running_of, table_of, list_after}
use Rattle.model.specs.Demand.{Openable, DemandAndGrounds, WeightedDemand}
use Rattle.model.specs.Weights.{weighted_total, weighted_total_of_run}
use Rattle.model.specs.Longest.{Queues, longest_of, longest_run}
use Rattle.model.specs.GoingOn.{running_on, list_on, weighted_total_on, longest_on}
use Rattle.theory.specs.SchedulesLaws.{run_table}
use Rattle.theory.proofs.SchedulesLaws.{end_made}
use Rattle.theory.proofs.TableLaws.{table_none}
use Rattle.theory.specs.WeightsLaws.{weighted_total_none}
use Rattle.theory.proofs.DemandWhole.{demand_and_grounds}
use Rattle.theory.proofs.DemandByWeights.{weighted_demand}
use Rattle.theory.specs.StartingState.{starting_of}
use Rattle.counts.specs.Longest.{no_queues}
use Rattle.counts.specs.LongestLaws.{longest_none}
use Rattle.counts.specs.LongestRun.{longest_end}
use Rattle.opening.specs.OpenedStudy.{opened_study, end_by, steps_by, ends_unopened, ends_opened, opened_ends, opened_made, started_ends, started_made}
use Rattle.running.specs.WeightedTotal.{weighted_total_end, weighted_none}

-- the end over a study: 11, then step by step
abbrev pub run_from : List ℕ → Study → EndAnswer
run_from list a = unless (leb (table_size a) (length list)) (no_state 11 0) (run_end a)

-- the weighted total and the longest queues of a run over k steps
abbrev pub weighted_over : (ℕ → ℕ) → (ℕ → ℕ) → Study → ℕ → ℕ
weighted_over w u a = weighted_total w u a.road.n (engine_after a)

abbrev pub longest_over : Study → ℕ → Queues
longest_over a = longest_of a.road.n (engine_after a)

-- x is opening's answer
module _ (sums longs : Bool) (w u : ℕ → ℕ) (list bytes lanes : List ℕ) (x : ReadAnswer) where
  abbrev a : Study
  a = opened_study bytes lanes x

  -- the answer, the list at exit, the weighted total and the longest queues, where these are wanted
  abbrev pub RunGives : EndAnswer → List ℕ → ℕ → Queues → Type 0
  RunGives e out t q =
      (e ≡ end_by (run_from list) bytes lanes x)
      × ((out ≡ table_of (opened_study bytes lanes x) list (steps_by (run_from list) bytes lanes x))
      × ((t ≡ cond sums (weighted_over w u (opened_study bytes lanes x) (steps_by (run_from list) bytes lanes x)) 0)
      × (longs ≡ true → q ≡ longest_over (opened_study bytes lanes x) (steps_by (run_from list) bytes lanes x))))

  by_steps : {e : EndAnswer} {out : List ℕ} {t : ℕ} {q : Queues} (k : ℕ) → e ≡ end_by (run_from list) bytes lanes x → steps_made (opened_study bytes lanes x) e ≡ k
      → out ≡ table_of (opened_study bytes lanes x) list k → t ≡ cond sums (weighted_over w u (opened_study bytes lanes x) k) 0
      → (longs ≡ true → q ≡ longest_over (opened_study bytes lanes x) k) → RunGives e out t q
  by_steps k ee ek eo et eq =
      let m : k ≡ steps_by (run_from list) bytes lanes x = sym ek ∙ ap (steps_made a) ee in
      (ee, (eo ∙ ap (table_of a list) m, (et ∙ ap (λ (j : ℕ). cond sums (weighted_over w u a j) 0) m, λ on. eq on ∙ ap (longest_over a) m)))

  -- after a refusal that names no state no step is made
  none : {e : EndAnswer} {t : ℕ} {q : Queues} (number place : ℕ) → (number ≡ 0 → ⊥) → e ≡ no_state number place → e ≡ end_by (run_from list) bytes lanes x
      → (q ≡ no_queues) × (t ≡ 0) → RunGives e list t q
  none number place n ee er nothing =
      by_steps 0 er (ap (steps_made a) ee ∙ rw (ne_eqb number 0 n) refl) (sym (table_none a list)) (nothing.1 ∙ (weighted_none sums w u a).sum)
      (λ on. nothing.0 ∙ sym (longest_none a.road.n (engine_after a)))

  pub ran_unopened : {e : EndAnswer} {t : ℕ} {q : Queues} → (x.number ≡ 0 → ⊥) → e ≡ no_state x.number x.place → (q ≡ no_queues) × (t ≡ 0)
      → RunGives e list t q
  ran_unopened n ee nothing = none x.number x.place n ee (ends_unopened (run_from list) bytes lanes x n ee) nothing

  module _ (z : x.number ≡ 0) where
    pub ran_short : {e : EndAnswer} {t : ℕ} {q : Queues} → length list < table_size (opened_study bytes lanes x) → e ≡ no_state 11 0 → (q ≡ no_queues) × (t ≡ 0)
        → RunGives e list t q
    ran_short l ee nothing =
        none 11 0 (λ i. omega arith) ee (ends_opened (run_from list) bytes lanes x z (ee ∙ rw (lt-leb (table_size a) (length list) l) refl)) nothing

    pub ran_long : {e : EndAnswer} {out : List ℕ} {t : ℕ} {q : Queues} → table_size (opened_study bytes lanes x) ≤ length list
        → (e ≡ run_end (opened_study bytes lanes x)) × ((out ≡ run_table (opened_study bytes lanes x) list)
        × ((t ≡ weighted_total_end sums w u (opened_study bytes lanes x)) × (longs ≡ true → q ≡ longest_end (opened_study bytes lanes x))))
        → RunGives e out t q
    ran_long l r =
        by_steps (first_step (run_fault a) a.steps)
        (ends_opened (run_from list) bytes lanes x z (r.0 ∙ rw (le-leb (table_size a) (length list) l) refl))
        (ap (steps_made a) r.0 ∙ end_made a (run_fault a) (engine_after a)) r.1.0 r.1.1.0 r.1.1.1

-- before the first step every study has the same list, weighted total and longest queues
same_list : (list : List ℕ) (a b : Study) → table_of a list 0 ≡ table_of b list 0
same_list list a b = table_none a list ∙ sym (table_none b list)

same_total : (w u : ℕ → ℕ) (a b : Study) → weighted_over w u a 0 ≡ weighted_over w u b 0
same_total w u a b = weighted_total_none w u a.road.n (engine_after a) ∙ sym (weighted_total_none w u b.road.n (engine_after b))

same_queues : (a b : Study) → longest_over a 0 ≡ longest_over b 0
same_queues a b = longest_none a.road.n (engine_after a) ∙ sym (longest_none b.road.n (engine_after b))

-- the answer, the list afterwards and what is promised about both
abbrev pub Promise : List ℕ → List ℕ → List ℕ → EndAnswer → List ℕ → Type 0
Promise bytes lanes list e out =
    (e ≡ running_of bytes lanes list) × ((out ≡ list_after bytes lanes list) × (Openable bytes lanes → DemandAndGrounds bytes lanes out e))

-- every run of one record, table and list gives the same answer and leaves the same list, with weights or without
pub same_run : (bytes lanes list : List ℕ) (e f : EndAnswer) (out left : List ℕ) → Promise bytes lanes list e out → Promise bytes lanes list f left
    → (e ≡ f) × (out ≡ left)
same_run bytes lanes list e f out left p q = (p.0 ∙ sym q.0, p.1.0 ∙ sym q.1.0)

-- from the record's own start
module _ (bytes lanes list : List ℕ) {x : ReadAnswer} (ex : x ≡ opening_of bytes lanes) where
  opened_run : {e : EndAnswer} → e ≡ end_by (run_from list) bytes lanes x → e ≡ running_of bytes lanes list
  unfolding running_of
  opened_run ee = ee ∙ opened_ends bytes lanes ex (run_from list)

  opened_list : {out : List ℕ} → out ≡ table_of (opened_study bytes lanes x) list (steps_by (run_from list) bytes lanes x) → out ≡ list_after bytes lanes list
  unfolding running_of list_after
  opened_list eo = eo ∙ opened_made bytes lanes ex (run_from list) (λ a. table_of a list) (λ a. same_list list a _)

  pub run_promise : {e : EndAnswer} {out : List ℕ} → e ≡ end_by (run_from list) bytes lanes x
      → out ≡ table_of (opened_study bytes lanes x) list (steps_by (run_from list) bytes lanes x) → Promise bytes lanes list e out
  run_promise {e} {out} ee eo =
      let run : e ≡ running_of bytes lanes list = opened_run ee in
      let left : out ≡ list_after bytes lanes list = opened_list eo in
      (run, (left, λ t. rw (run, left) (demand_and_grounds bytes lanes t list)))

  opened_weighted : (w u : ℕ → ℕ) {t : ℕ} → t ≡ weighted_over w u (opened_study bytes lanes x) (steps_by (run_from list) bytes lanes x)
      → t ≡ weighted_total_of_run w u bytes lanes list
  unfolding running_of weighted_total_of_run
  opened_weighted w u et = et ∙ opened_made bytes lanes ex (run_from list) (weighted_over w u) (λ a. same_total w u a _)

  -- the whole promise of a weighted run
  pub run_weighted_promise : (w u : ℕ → ℕ) {e : EndAnswer} {out : List ℕ} {t : ℕ} → Promise bytes lanes list e out
      → t ≡ weighted_over w u (opened_study bytes lanes x) (steps_by (run_from list) bytes lanes x)
      → (e ≡ running_of bytes lanes list) × ((out ≡ list_after bytes lanes list) × ((t ≡ weighted_total_of_run w u bytes lanes list)
      × ((Openable bytes lanes → DemandAndGrounds bytes lanes out e) × (Openable bytes lanes → WeightedDemand bytes lanes w u out e t))))
  run_weighted_promise w u {t = t} p et =
      let total : t ≡ weighted_total_of_run w u bytes lanes list = opened_weighted w u et in
      (p.0, (p.1.0, (total, (p.1.1, λ openable. rw (p.0, p.1.0, total) (weighted_demand bytes lanes openable list w u)))))

  -- the longest queues of a run
  pub run_longest_promise : {q : Queues} → q ≡ longest_over (opened_study bytes lanes x) (steps_by (run_from list) bytes lanes x) → q ≡ longest_run bytes lanes list
  unfolding running_of longest_run
  run_longest_promise eq = eq ∙ opened_made bytes lanes ex (run_from list) longest_over (λ a. same_queues a _)

-- from a state
pub run_on_promise : (w u : ℕ → ℕ) (bytes lanes : List ℕ) (s : State) (list : List ℕ) {x : ReadAnswer} → x ≡ starting_of bytes lanes s
    → {e : EndAnswer} {out : List ℕ} {t : ℕ} {q : Queues} → RunGives true true w u list bytes lanes x e out t q
    → (e ≡ running_on bytes lanes s list)
    × ((out ≡ list_on bytes lanes s list) × ((t ≡ weighted_total_on w u bytes lanes s list) × (q ≡ longest_on bytes lanes s list)))
unfolding running_on list_on weighted_total_on longest_on
run_on_promise w u bytes lanes s list ex r = (
  r.0 ∙ started_ends bytes lanes s ex (run_from list),
  (
    r.1.0 ∙ started_made bytes lanes s ex (run_from list) (λ a. table_of a list) (λ a. same_list list a _),
    (
      r.1.1.0 ∙ started_made bytes lanes s ex (run_from list) (weighted_over w u) (λ a. same_total w u a _),
      r.1.1.1 refl ∙ started_made bytes lanes s ex (run_from list) longest_over (λ a. same_queues a _),
    ),
  ),
)
