-- Every step that obeys the rules keeps the limits of 7, so a run is never refused with 7, nor with 8 before step 1,440. Assumes nothing.
use Rattle.std.specs.Prelude.{◌≡◌, List, ℕ, ◌+◌, ◌≤◌, ◌<◌}
use Rattle.std.proofs.Common.{arith}
use Rattle.flow.specs.FlowLaws.{supply_space, room_release}
use Rattle.numbers.specs.SumLaws.{sum_bound}
use Rattle.model.specs.declared.Road.{Road}
use Rattle.model.specs.declared.State.{State}
use Rattle.model.specs.Numbers.{at}
use Rattle.model.specs.Road.{most_steps, most_rate, most_present}
use Rattle.model.specs.Schedules.{Obeys}
use Rattle.model.specs.Limits.{most_queue, most_cumulative}
use Rattle.limits.specs.LimitsLaws.{InputOk}
use Rattle.model.specs.Flow.{release_at, supply_at, capacity_at, cumulative_at}
use Rattle.model.specs.Move.{next_of, present_of}
use Rattle.theory.specs.RulesLaws.{Sized, demand_rate}
use Rattle.theory.specs.MoveLaws.{next_gate_queue, next_held, next_queue, next_cumulative, next_sized}

module _ (r : Road) (s : State) (row y : List ℕ) (ok : InputOk r s row) (z : Sized r s) (obeys : Obeys r s row y) where
  abbrev pub T : State
  T = next_of r s row y

  -- with what enters and with its release a cell stays within its jam count
  pub held_kept : (i : ℕ) → i < r.n → at T.held i ≤ at r.jam i
  held_kept i l =
      omega (
        arith,
        next_held r s row y z i l,
        obeys.enters i l,
        room_release (supply_at r s i) (release_at row i) (obeys.released.supply i l),
        supply_space (at r.wave i) (capacity_at r i) (at r.jam i) (at s.held i) (ok.road.wave i l),
        ok.state.held i l,
      )

  pub queue_kept : (i : ℕ) → i < r.n → at T.queue i ≤ most_queue (s.done + 1)
  queue_kept i l = omega (arith, next_queue r s row y z i l, ok.state.queue i l, ok.row.arrivals i l)

  pub no_ramp_kept : (i : ℕ) → i < r.n → at r.ramp i ≡ 0 → at T.queue i ≡ 0
  no_ramp_kept i l e = omega (arith, next_queue r s row y z i l, ok.state.no_ramp i l e, ok.row.no_arrivals i l e)

  pub cumulative_kept : (p : ℕ) → p ≤ r.n → cumulative_at s p ≤ most_cumulative s.done → cumulative_at T p ≤ most_cumulative (s.done + 1)
  cumulative_kept p l h = omega (arith, next_cumulative r s row y z p l, obeys.demand p l, demand_rate r ok.road s p l)

  pub gate_queue_kept : T.gate_queue ≤ most_queue (s.done + 1)
  gate_queue_kept = omega (arith, next_gate_queue r s row y, ok.state.gate_queue, ok.row.gate)

  module _ (d : s.done < most_steps) where
    -- present on a full road is within the growth of the total's limit
    pub present_bound : present_of r T ≤ most_present
    present_bound =
        let w = next_sized r s row y z in
        omega (
          arith,
          ok.road.cells,
          gate_queue_kept,
          sum_bound T.held most_rate r.n w.held (λ i l. omega (arith, held_kept i l, ok.road.jam i l)),
          sum_bound T.queue (most_queue most_steps) r.n w.queue (λ i l. omega (arith, queue_kept i l, d)),
        )
