-- Theorem about a wanted queue and running: a ramp has the start queue, the arrivals and the releases of a table that obeys. Then the queue
-- after every step is the table's, whatever the outflows, and that ramp is never refused with 9. Assumes nothing.
use Rattle.std.specs.Prelude.{◌≡◌, refl, Bool, true, false, cond, List, leb, eqb, length}
use Rattle.std.proofs.Common.{sym, ap, ◌∙◌, ⊎_elim, le-leb, eqb-true}
use Prim.Native.Nat.{ℕ, zero, suc, ◌+◌, ◌≤◌, ◌<◌}
use native.Mathlib.Omega.{arith}
use Rattle.std.proofs.lemmas.Bool.{eqb-false}
use Rattle.model.specs.Refusals.{fault, FaultAnswer}
use Rattle.model.specs.Numbers.{at, unless, first_fault}
use Rattle.numbers.specs.Tests.{order}
use Rattle.model.specs.Schedules.{Study, road_at, table_size, schedule_after, engine_after, outflows_at}
use Rattle.model.specs.Flow.{arrivals_at, release_at, most_release_at, supply_at}
use Rattle.theory.specs.MoveLaws.{next_queue}
use Rattle.theory.specs.RulesLaws.{Sized}
use Rattle.model.specs.Stepping.{lowest_of, release_fault, release_fault_at}
use Rattle.theory.specs.RunsLaws.{StudyOk}
use Rattle.theory.proofs.RunsLaws.{schedule_sized, engine_schedule}
use Rattle.model.specs.Reading.{reading_of, study_of}
use Rattle.model.specs.Running.{run_fault, first_step, EndAnswer, run_end, running_of}
use Rattle.theory.proofs.SchedulesLaws.{step_within, end_all, end_fault}
use Rattle.theory.proofs.RunEnds.{runs_long, runs_short}
use Rattle.theory.specs.Readable.{readable}
use Rattle.model.specs.Demand.{Openable}
use Rattle.model.specs.Wanted.{ramp_queue_after, TableObeys}

-- the ramp of the cell at i has this start queue, these arrivals and this table's releases
pub record Follows (a : Study) (i start : ℕ) (arrivals table : List ℕ) : Type 0 where
  pub cell : i < a.road.n
  pub steps : length arrivals ≡ a.steps
  pub queue : at a.start.queue i ≡ start
  pub comes : (k : ℕ) → k < a.steps → arrivals_at (a.rows k) i ≡ at arrivals k
  pub goes : (k : ℕ) → k < a.steps → release_at (a.rows k) i ≡ at table k

-- if the lowest fault is 9 at place i + 1, the cell at i has fault 9
nine_there : (f : ℕ → ℕ) (n i : ℕ) → (lowest_of f n 1).number ≡ 9 → (lowest_of f n 1).place ≡ i + 1 → f i ≡ 9
unfolding lowest_of
nine_there f n i e p = go (eqb (first_fault f n) n) e p
  where
    there : Bool → FaultAnswer
    there b = cond b (fault 0 0) (fault (f (first_fault f n)) (first_fault f n + 1))

    go : (b : Bool) → (there b).number ≡ 9 → (there b).place ≡ i + 1 → f i ≡ 9
    go true x y = absurd (omega arith)
    go false x y = let z : first_fault f n ≡ i = omega arith in sym (ap f z) ∙ x

fits_no_nine : (release most supply : ℕ) → release ≤ most → release_fault release most supply ≡ 9 → ⊥
fits_no_nine release most supply h = rw (le-leb release most h) (go (leb release supply))
  where
    go : (b : Bool) → unless {A = ℕ} b 10 0 ≡ 9 → ⊥
    go true e = omega arith
    go false e = omega arith

module _ (a : Study) (ok : StudyOk a) (i start ceiling rate : ℕ) (arrivals table : List ℕ) (follows : Follows a i start arrivals table)
    (obeys : TableObeys start ceiling rate arrivals table) where
  -- the queue is the table's, in the run's own states and in those of every schedule
  pub queue_kept : (ys : ℕ → List ℕ) (k : ℕ) → k ≤ a.steps → at (schedule_after a ys k).queue i ≡ ramp_queue_after start arrivals table k
  unfolding schedule_after ramp_queue_after
  queue_kept ys zero l = follows.queue
  queue_kept ys (suc k) l =
      let r = road_at a k in
      let s = schedule_after a ys k in
      let z : Sized a.road s = schedule_sized a ys ok k in
      let n : r.n ≡ a.road.n = (ok.roads k).n in
      let sized : Sized r s =
      record { held = omega (arith, z.held); queue = omega (arith, z.queue); cumulative = omega (arith, z.cumulative) } in
      omega (
        arith,
        next_queue r s (a.rows k) (ys k) sized i (omega (arith, follows.cell)),
        queue_kept ys k (omega arith),
        follows.comes k l,
        follows.goes k l,
      )

  -- so it stays at or under the ceiling after every step
  pub ceiling_kept : (ys : ℕ → List ℕ) (k : ℕ) → k < a.steps → at (schedule_after a ys (suc k)).queue i ≤ ceiling
  ceiling_kept ys k l = omega (arith, queue_kept ys (suc k) l, obeys.under k (omega (arith, follows.steps)))

  -- each release is at most queue plus arrivals
  pub release_fits : (ys : ℕ → List ℕ) (k : ℕ) → k < a.steps → release_at (a.rows k) i ≤ most_release_at (schedule_after a ys k) (a.rows k) i
  unfolding most_release_at
  release_fits ys k l =
      omega (
        arith,
        queue_kept ys k (omega arith),
        follows.comes k l,
        follows.goes k l,
        obeys.there k (omega (arith, follows.steps)),
      )

  -- running never refuses that ramp with 9
  no_nine_in : (k : ℕ) → k < a.steps → release_fault_at (road_at a k) (engine_after a k) (a.rows k) i ≡ 9 → ⊥
  no_nine_in k l =
      fits_no_nine (release_at (a.rows k) i) (most_release_at (engine_after a k) (a.rows k) i) (supply_at (road_at a k) (engine_after a k) i)
      (rw (engine_schedule a k) (release_fits (outflows_at a) k l))

  pub never_nine : (run_end a).number ≡ 9 → (run_end a).place ≡ i + 1 → ⊥
  never_nine = go (eqb (first_step (run_fault a) a.steps) a.steps) refl
    where
      go : (b : Bool) → eqb (first_step (run_fault a) a.steps) a.steps ≡ b → (run_end a).number ≡ 9 → (run_end a).place ≡ i + 1 → ⊥
      go true e n p =
          let z = ap (λ (x : EndAnswer). x.number) (end_all a (run_fault a) (engine_after a) (eqb-true _ _ e)) in
          omega arith
      go false e n p =
          let k = first_step (run_fault a) a.steps in
          let l : k < a.steps = omega (arith, step_within (run_fault a) a.steps, eqb-false k a.steps e) in
          let end = end_fault a (run_fault a) (engine_after a) l in
          no_nine_in k l
          (nine_there (release_fault_at (road_at a k) (engine_after a k) (a.rows k)) (road_at a k).n i
          (sym (ap (λ (x : EndAnswer). x.number) end) ∙ n) (sym (ap (λ (x : EndAnswer). x.place) end) ∙ p))

-- the same for running's answer for a record, with any lent list
module _ (bytes lanes : List ℕ) (openable : Openable bytes lanes) (i start ceiling rate : ℕ) (arrivals table : List ℕ)
    (follows : Follows (study_of bytes lanes) i start arrivals table) (obeys : TableObeys start ceiling rate arrivals table) where
  within : StudyOk (study_of bytes lanes)
  within = (readable bytes lanes (reading_of bytes) refl openable.reads openable.opens).ok

  pub running_never_nine : (list : List ℕ) → (running_of bytes lanes list).number ≡ 9 → (running_of bytes lanes list).place ≡ i + 1 → ⊥
  running_never_nine list n p = ⊎_elim
      (λ (l : table_size (study_of bytes lanes) ≤ length list).
      let e = runs_long bytes lanes openable list l in
      never_nine (study_of bytes lanes) within i start ceiling rate arrivals table follows obeys
      (sym (ap (λ (x : EndAnswer). x.number) e) ∙ n) (sym (ap (λ (x : EndAnswer). x.place) e) ∙ p))
      (λ (l : length list < table_size (study_of bytes lanes)).
      let z = ap (λ (x : EndAnswer). x.number) (runs_short bytes lanes openable list l) in
      omega (arith, n))
      (order (table_size (study_of bytes lanes)) (length list))
