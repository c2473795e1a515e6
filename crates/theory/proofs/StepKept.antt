-- The limits of 7 after a step, so a run is never refused with 7, nor with 8 before step 1,440. Assumes nothing.
use Rattle.std.specs.Prelude.{◌≡◌, true, List, ℕ, suc, ◌+◌, ◌<◌}
use Rattle.std.proofs.Common.{arith}
use Rattle.model.specs.Refusals.{fault}
use Rattle.model.specs.declared.Road.{Road}
use Rattle.model.specs.declared.State.{State}
use Rattle.model.specs.Numbers.{first_of}
use Rattle.model.specs.Road.{most_steps}
use Rattle.model.specs.Schedules.{open_road, ReleasesFit, Obeys, outflows_of}
use Rattle.model.specs.Lanes.{lanes_at}
use Rattle.model.specs.Limits.{input_ok}
use Rattle.limits.specs.LimitsLaws.{StateOk, RowOk, InputOk, input_facts, input_ok_lem}
use Rattle.model.specs.Flow.{cumulative_at}
use Rattle.model.specs.Move.{next_of}
use Rattle.theory.specs.RulesLaws.{Sized, outflows_obey}
use Rattle.model.specs.Stepping.{answer, stepping_of}
use Rattle.theory.specs.MoveLaws.{next_done, next_total}
use Rattle.theory.specs.StepLaws.{stepping_next}
use Rattle.theory.specs.Roads.{StepRoad, step_state, step_row, state_back}
use Rattle.theory.proofs.LimitsKept.{T, held_kept, queue_kept, no_ramp_kept, cumulative_kept, gate_queue_kept, present_bound}

module _ (r : Road) (s : State) (row y : List ℕ) (ok : InputOk r s row) (z : Sized r s) (obeys : Obeys r s row y) where
  module _ (d : s.done < most_steps) where
    -- the limits after s steps become those after s + 1
    pub limits_kept : StateOk r (T r s row y ok z obeys)
    unfolding cumulative_at
    limits_kept = record {
      done = omega (arith, next_done r s row y);
      total = rw (next_done r s row y) (omega (arith, next_total r s row y, ok.state.total, present_bound r s row y ok z obeys d));
      gate_queue = rw (next_done r s row y) (gate_queue_kept r s row y ok z obeys);
      gate_cumulative = rw (next_done r s row y) (cumulative_kept r s row y ok z obeys 0 (omega arith) ok.state.gate_cumulative);
      held = (held_kept r s row y ok z obeys);
      queue = rw (next_done r s row y) (queue_kept r s row y ok z obeys);
      no_ramp = (no_ramp_kept r s row y ok z obeys);
      cumulative = rw (next_done r s row y) (λ i l. (cumulative_kept r s row y ok z obeys) (suc i) l (ok.state.cumulative i l));
    }

-- a step on its road q is not refused. Then the next step is not refused with 7 if its row is within the limits, nor with 8 before step 1,440
module _ (r q : Road) (h : StepRoad r q) (s : State) (row : List ℕ) (z : Sized q s) (in_limits : input_ok r s row ≡ true) (d : s.done < most_steps)
    (ok : ReleasesFit q s row) where
  abbrev N : State
  N = next_of q s row (outflows_of q s row)

  input_on : InputOk q s row
  input_on =
      let i = input_facts r s row in_limits in
      record { road = h.ok; state = step_state h s i.state; row = step_row h row i.row }

  pub step_kept : (later : List ℕ) → RowOk r later → input_ok r N later ≡ true
  step_kept later l =
      input_ok_lem r N later (record {
        road = (input_facts r s row in_limits).road;
        state = state_back h N (limits_kept q s row (outflows_of q s row) input_on z (outflows_obey q s row ok) d);
        row = l;
      })

  pub step_goes_on : (later built usable : List ℕ) → RowOk r later → first_of (lanes_at built usable) r.n ≡ r.n → s.done + 1 < most_steps
      → ReleasesFit (open_road r built usable) N later
      → stepping_of r N later built usable
      ≡ answer (fault 0 0) (next_of (open_road r built usable) N later (outflows_of (open_road r built usable) N later))
  step_goes_on later built usable l lanes m rel =
      stepping_next r N later built usable (step_kept later l) lanes (λ e. omega (arith, e, next_done q s row (outflows_of q s row))) rel
