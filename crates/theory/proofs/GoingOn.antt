-- Theorem: going on after k steps is the whole. Two studies have the same road, rows and lanes, and one begins where the other is after k steps.
-- Then each state, fault, end and row of outflows is that of the other, k steps later. Assumes nothing.
use Rattle.std.specs.Prelude.{◌≡◌, refl}
use Rattle.std.proofs.Math.Path.{sym, ap}
use Rattle.std.proofs.Common.{◌∙◌, le_refl, add-zero, arith, ⊎_elim}
use mathlib.Core.List.{List, ◌++◌, append_assoc, append-nil}
use Prim.Native.Nat.{ℕ, zero, suc, ◌+◌, ◌-◌, ◌≤◌, ◌<◌}
use Rattle.std.proofs.Math.Nat.{add-suc}
use Rattle.numbers.specs.Tests.{order}
use Rattle.numbers.specs.FirstLaws.{Faultless, fault_there, faultless_stop, faultless_end}
use Rattle.model.specs.Numbers.{concat_of}
use Rattle.model.specs.declared.State.{State}
use Rattle.model.specs.declared.Road.{Road}
use Rattle.model.specs.declared.Law.{Law}
use Rattle.model.specs.Refusals.{FaultAnswer}
use Rattle.model.specs.Schedules.{Study, road_at, schedule_after, engine_after, outflows_at, proposed_at, scheduled_at}
use Rattle.model.specs.Running.{EndAnswer, end_with, run_fault, first_step, end_of, run_end}
use Rattle.model.specs.Judging.{judge_fault, judge_end}
use Rattle.model.specs.Filling.{MeterState, metered_of}
use Rattle.model.specs.Filling.{metered_from}
use Rattle.theory.specs.StepLaws.{number_of_lem}
use Rattle.theory.proofs.SchedulesLaws.{step_within, step_before, end_all, end_fault, end_made, end_state, end_road}
use Rattle.theory.specs.TableLaws.{flows_of}
use Rattle.theory.specs.GoingOn.{Rest, EndsAs}

-- after k steps without a fault: from the faults of each step, and from the states
module _ {a b : Study} {k : ℕ} (h : Rest a b k) (faults faults' : ℕ → FaultAnswer) (after then : ℕ → State)
    (none : (j : ℕ) → j < k → (faults j).number ≡ 0) (same : (j : ℕ) → j < b.steps → faults' j ≡ faults (k + j))
    (states : (j : ℕ) → j ≤ b.steps → then j ≡ after (k + j)) where
  abbrev K : ℕ
  K = first_step faults' b.steps

  within : first_step faults' b.steps ≤ b.steps
  within = step_within faults' b.steps

  faultless : Faultless (λ j. (faults j).number) a.steps (k + K)
  faultless = record {
    within = omega (arith, h.steps, within);
    before = λ j l. ⊎_elim
        (λ (m : k ≤ j).
        let e : k + (j - k) ≡ j = omega arith in
        ap (λ (i : ℕ). (faults i).number) (sym e)
        ∙ sym (number_of_lem (same (j - k) (omega (arith, within))))
        ∙ step_before faults' b.steps (j - k) (omega arith))
        (λ (m : j < k). none j m)
        (order k j);
  }

  pub first_rest : first_step faults a.steps ≡ k + first_step faults' b.steps
  first_rest = ⊎_elim
      (λ (l : b.steps ≤ K). sym (faultless_end faultless (omega (arith, h.steps))))
      (λ (l : K < b.steps). sym (faultless_stop faultless (omega (arith, h.steps)) (number_of_lem (same K l)) (fault_there (λ j. (faults' j).number) b.steps l)))
      (order b.steps K)

  pub end_rest : EndsAs a b k (end_of a faults after) (end_of b faults' then)
  end_rest = ⊎_elim
      (λ (l : b.steps ≤ K).
      let e : K ≡ b.steps = omega (arith, within) in
      let x = end_all a faults after (omega (arith, first_rest, h.steps)) in
      let y = end_all b faults' then e in
      rw (x, y) (record {
        number = refl;
        made = sym h.steps;
        place = refl;
        road = sym h.road;
        state = ap after (sym h.steps) ∙ sym (states b.steps (le_refl b.steps));
      }))
      (λ (l : K < b.steps).
      let f : faults (k + K) ≡ faults' K = sym (same K l) in
      let x : end_of a faults after ≡ end_with (faults (k + K)).number (k + K) (faults (k + K)).place a.road (after (k + K)) =
      rw first_rest at (end_fault a faults after (omega (arith, first_rest, h.steps))) in
      record {
        number = ap (λ (e : EndAnswer). e.number) x ∙ ap (λ (q : FaultAnswer). q.number) f ∙ sym (ap (λ (e : EndAnswer). e.number) (end_fault b faults' then l));
        made = end_made a faults after ∙ first_rest ∙ ap (λ (j : ℕ). k + j) (sym (end_made b faults' then));
        place = ap (λ (e : EndAnswer). e.place) x ∙ ap (λ (q : FaultAnswer). q.place) f ∙ sym (ap (λ (e : EndAnswer). e.place) (end_fault b faults' then l));
        road = end_road a faults after ∙ sym h.road ∙ sym (end_road b faults' then);
        state = end_state a faults after ∙ ap after first_rest ∙ sym (states K within) ∙ sym (end_state b faults' then);
      })
      (order b.steps K)

module _ {a b : Study} {k : ℕ} (h : Rest a b k) where
  -- a schedule's states, from its own state after k steps
  pub schedule_rest : (ys zs : ℕ → List ℕ) → b.start ≡ schedule_after a ys k → ((j : ℕ) → j < b.steps → zs j ≡ ys (k + j))
      → (j : ℕ) → j ≤ b.steps → schedule_after b zs j ≡ schedule_after a ys (k + j)
  unfolding schedule_after
  schedule_rest ys zs s same zero l = s ∙ ap (schedule_after a ys) (sym (add-zero k))
  schedule_rest ys zs s same (suc j) l =
      rw (schedule_rest ys zs s same j (omega arith), h.roads j l, h.rows j l, same j l, add-suc k j)

  -- what the wishes of filling are computed from
  pub metered_rest : (laws : List Law) (m p : MeterState) → p ≡ metered_from laws a m k
      → (j : ℕ) → j ≤ b.steps → metered_from laws b p j ≡ metered_from laws a m (k + j)
  unfolding metered_from
  metered_rest laws m p s zero l = s ∙ ap (metered_from laws a m) (sym (add-zero k))
  metered_rest laws m p s (suc j) l =
      ap (λ (x : MeterState). metered_of laws (road_at b j) x (b.rows j)) (metered_rest laws m p s j (omega arith))
      ∙ ap (λ (q : Road). metered_of laws q (metered_from laws a m (k + j)) (b.rows j)) (h.roads j l)
      ∙ ap (metered_of laws (road_at a (k + j)) (metered_from laws a m (k + j))) (h.rows j l)
      ∙ ap (metered_from laws a m) (sym (add-suc k j))

  -- from the engine's state after k steps: its states, faults and outflows
  module _ (s : b.start ≡ engine_after a k) where
    pub engine_rest : (j : ℕ) → j ≤ b.steps → engine_after b j ≡ engine_after a (k + j)
    unfolding engine_after
    engine_rest zero l = s ∙ ap (engine_after a) (sym (add-zero k))
    engine_rest (suc j) l = rw (engine_rest j (omega arith), h.roads j l, h.rows j l, add-suc k j)

    pub faults_rest : (j : ℕ) → j < b.steps → run_fault b j ≡ run_fault a (k + j)
    faults_rest j l = rw (engine_rest j (omega arith), h.roads j l, h.rows j l)

    pub outflows_rest : (j : ℕ) → j < b.steps → outflows_at b j ≡ outflows_at a (k + j)
    outflows_rest j l = rw (engine_rest j (omega arith), h.roads j l, h.rows j l)

    -- the rows of outflows of the whole are those of both parts, one after the other
    pub flows_rest : (j : ℕ) → j ≤ b.steps → flows_of a (k + j) ≡ flows_of a k ++ flows_of b j
    unfolding concat_of
    flows_rest zero l = ap (flows_of a) (add-zero k) ∙ sym (append-nil (flows_of a k))
    flows_rest (suc j) l =
        ap (flows_of a) (add-suc k j)
        ∙ ap (λ (x : List ℕ). x ++ outflows_at a (k + j)) (flows_rest j (omega arith))
        ∙ ap (λ (x : List ℕ). (flows_of a k ++ flows_of b j) ++ x) (sym (outflows_rest j l))
        ∙ append_assoc (flows_of a k) (flows_of b j) (outflows_at b j)

    -- if the first k steps have no fault, the whole run ends as the rest does
    pub run_rest : ((j : ℕ) → j < k → (run_fault a j).number ≡ 0) → EndsAs a b k (run_end a) (run_end b)
    run_rest none = end_rest h (run_fault a) (run_fault b) (engine_after a) (engine_after b) none faults_rest engine_rest

  -- so does judging a schedule whose first k rows have no fault; the rest begins with its own state after them
  pub judge_rest : (ys zs : List ℕ) → b.start ≡ scheduled_at a ys k → ((j : ℕ) → j < b.steps → proposed_at b zs j ≡ proposed_at a ys (k + j))
      → ((j : ℕ) → j < k → (judge_fault a ys j).number ≡ 0) → EndsAs a b k (judge_end a ys) (judge_end b zs)
  judge_rest ys zs s same none =
      let states = schedule_rest (proposed_at a ys) (proposed_at b zs) s same in
      end_rest h (judge_fault a ys) (judge_fault b zs) (scheduled_at a ys) (scheduled_at b zs) none
      (λ j l. rw (states j (omega arith), h.roads j l, h.rows j l, same j l)) states
