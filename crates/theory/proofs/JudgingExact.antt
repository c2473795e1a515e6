-- Judging accepts exactly the schedules of the right length that obey the rules, and otherwise names the first broken one. Assumes nothing.
use Rattle.std.specs.Prelude.{◌≡◌, refl, List, ℕ, ◌<◌, length}
use Rattle.std.proofs.Common.{sym, ap, ◌∙◌, le_refl, arith}
use Rattle.model.specs.Schedules.{Study, road_at, table_size, Obeys, proposed_at, scheduled_at}
use Rattle.theory.specs.RunsLaws.{StudyOk}
use Rattle.model.specs.Reading.{reading_of, study_of}
use Rattle.model.specs.Judging.{judge_fault, judge_end, judging_of}
use Rattle.model.specs.Running.{first_step, EndAnswer, end_with}
use Rattle.theory.proofs.SchedulesLaws.{step_within, end_all, end_fault, end_number, obeys_faults, faults_obeys}
use Rattle.theory.proofs.RunEnds.{judges_length, judges_ends}
use Rattle.theory.specs.Readable.{readable}
use Rattle.model.specs.Demand.{Openable, Reaches}

module _ (bytes lanes zs : List ℕ) (openable : Openable bytes lanes) (right : length zs ≡ table_size (study_of bytes lanes)) where
  abbrev a : Study
  a = study_of bytes lanes

  abbrev J : ℕ
  J = first_step (judge_fault a zs) a.steps

  ok : StudyOk (study_of bytes lanes)
  ok = (readable bytes lanes (reading_of bytes) refl openable.reads openable.opens).ok

  answer : judging_of bytes lanes zs ≡ judge_end (study_of bytes lanes) zs
  answer = judges_ends bytes lanes openable zs right

  -- an accepted schedule obeys the rules in all T steps
  pub accepted_obeys : (judging_of bytes lanes zs).number ≡ 0 → Reaches (study_of bytes lanes) zs (study_of bytes lanes).steps
  accepted_obeys h =
      let f : J ≡ a.steps = end_number a (judge_fault a zs) (scheduled_at a zs) (sym (ap (λ (e : EndAnswer). e.number) answer) ∙ h) in
      record { within = le_refl a.steps; obeys = λ j l. faults_obeys a ok zs j (omega (arith, f)) }

  -- a schedule that obeys them is accepted, with the final state
  pub obeys_accepted : Reaches (study_of bytes lanes) zs (study_of bytes lanes).steps
      → judging_of bytes lanes zs ≡ end_with 0 0 0 (study_of bytes lanes).road (scheduled_at (study_of bytes lanes) zs (study_of bytes lanes).steps)
  obeys_accepted h =
      let f : J ≡ a.steps = omega (arith, step_within (judge_fault a zs) a.steps, obeys_faults a ok zs a.steps h.within h.obeys) in
      answer ∙ end_all a (judge_fault a zs) (scheduled_at a zs) f

  -- otherwise the answer is the verdict on the first row that does not obey, in the schedule's own state before it
  pub refused_first : (k : ℕ) → k < (study_of bytes lanes).steps → Reaches (study_of bytes lanes) zs k
      → (Obeys (road_at (study_of bytes lanes) k) (scheduled_at (study_of bytes lanes) zs k) ((study_of bytes lanes).rows k) (proposed_at (study_of bytes lanes) zs k) → ⊥)
      → judging_of bytes lanes zs
      ≡ end_with (judge_fault (study_of bytes lanes) zs k).number k (judge_fault (study_of bytes lanes) zs k).place (study_of bytes lanes).road
      (scheduled_at (study_of bytes lanes) zs k)
  refused_first k l h n =
      let far = obeys_faults a ok zs k h.within h.obeys in
      let not_past : k < J → ⊥ = λ m. n (faults_obeys a ok zs k m) in
      let f : J ≡ k = omega arith in
      let g = end_fault a (judge_fault a zs) (scheduled_at a zs) (omega arith) in
      answer ∙ rw f at g

-- a schedule of another length is refused with 12
pub refused_length : (bytes lanes zs : List ℕ) → Openable bytes lanes → (length zs ≡ table_size (study_of bytes lanes) → ⊥)
    → ((judging_of bytes lanes zs).number ≡ 12) × ((judging_of bytes lanes zs).place ≡ 0)
refused_length bytes lanes zs openable n =
    let e = judges_length bytes lanes openable zs n in
    (ap (λ (a : EndAnswer). a.number) e, ap (λ (a : EndAnswer). a.place) e)
