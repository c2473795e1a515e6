-- What a step on lent columns requires, and the invariant of the loop that moves them. Assumes nothing.
use Rattle.std.specs.Prelude.{◌≡◌, List, ℕ, ◌+◌, ◌-◌, ◌≤◌, ◌<◌, set, take}
use Rattle.std.proofs.Math.Path.{ap}
use Rattle.std.proofs.Common.{◌∙◌, le_refl, arith}
use Rattle.std.proofs.Math.ListN.{length}
use Rattle.model.specs.Flow.{entering_of}
use Rattle.model.specs.Numbers.{sum_of, at}
use Rattle.numbers.specs.SumLaws.{SummedRow}
use Rattle.numbers.specs.RowsLaws.{fill_past, length_fill}
use Rattle.model.specs.declared.Road.{Road}
use Rattle.model.specs.declared.State.{State}
use Rattle.model.specs.Road.{most_steps}
use Rattle.model.specs.Flow.{arrivals_at, release_at}
use Rattle.model.specs.Move.{held_of, queue_of, cumulative_of, moved_to, moved_of, counted_of, next_of}
use Rattle.theory.specs.MoveLaws.{counted_is, counted_present}
use Rattle.theory.proofs.LimitsKept.{present_bound}
use Rattle.model.specs.Schedules.{outflows_of}
use Rattle.theory.specs.RulesLaws.{Sized}
use Rattle.stepping.specs.StepNeeds.{Movable, Countable, MovedCells, moved_cell, moved_end}
use Rattle.outflows.specs.declared.Ledger.{Ledger}
use Rattle.outflows.specs.Columns.{with_share_column, state_of}

-- what `advance` requires: the row may be used for a move on some road with these shares, and a step is left
pub record AdvanceLent (n : ℕ) (share : List ℕ) (l : Ledger) (held queue cumulative row y : List ℕ) : Type 0 where
  pub road : Road
  pub movable : Movable (with_share_column road n share) (state_of l held queue cumulative) row y
  pub left : l.done < most_steps

-- the state after a step of the engine
abbrev pub engine_next : Road → State → List ℕ → State
engine_next r s row = next_of r s row (outflows_of r s row)

module _ {r : Road} {s : State} {row y : List ℕ} {t : State} {entering i : ℕ} (h : MovedCells r s row y t entering i) where
  -- the cell at i is not moved yet
  pub held_there : at t.held i ≡ at s.held i
  unfolding moved_to
  held_there = ap (λ (x : State). at x.held i) h.moved ∙ fill_past (held_of r s row y) i s.held i (le_refl i)

  pub queue_there : at t.queue i ≡ at s.queue i
  unfolding moved_to
  queue_there = ap (λ (x : State). at x.queue i) h.moved ∙ fill_past (queue_of s row) i s.queue i (le_refl i)

  pub cumulative_there : at t.cumulative i ≡ at s.cumulative i
  unfolding moved_to
  cumulative_there = ap (λ (x : State). at x.cumulative i) h.moved ∙ fill_past (cumulative_of s y) i s.cumulative i (le_refl i)

  -- the columns have an entry for it
  pub long_there : Sized r s → i < r.n → (i < length t.held) × (i < length t.queue)
  unfolding moved_to
  long_there z l =
      let eh = ap (λ (x : State). length x.held) h.moved ∙ length_fill (held_of r s row y) i s.held in
      let eq = ap (λ (x : State). length x.queue) h.moved ∙ length_fill (queue_of s row) i s.queue in
      (omega (arith, eh, z.held), omega (arith, eq, z.queue))

  -- so it is moved in place
  pub moved_there : {next : ℕ} → i < r.n → next ≡ entering_of (at r.share i) (at t.cumulative i) (at y (i + 1))
      → MovedCells r s row y (record {
        done = t.done;
        gate_time = t.gate_time;
        road_time = t.road_time;
        ramp_time = t.ramp_time;
        gate_queue = t.gate_queue;
        gate_cumulative = t.gate_cumulative;
        held = set t.held i (at t.held i + entering + release_at row i - at y (i + 1));
        queue = set t.queue i (at t.queue i + arrivals_at row i - release_at row i);
        cumulative = set t.cumulative i (at t.cumulative i + at y (i + 1));
      }) next (i + 1)
  moved_there l e =
      let g = rw cumulative_there at e in
      rw (held_there, queue_there, cumulative_there) (moved_cell h l g)

  -- when all cells are moved, the step is counted
  pub counted_there : {gate road ramp : ℕ} → r.n ≤ i → gate ≡ t.gate_queue → SummedRow t.held road i → SummedRow t.queue ramp i
      → record {
        done = t.done + 1;
        gate_time = t.gate_time + gate;
        road_time = t.road_time + road;
        ramp_time = t.ramp_time + ramp;
        gate_queue = t.gate_queue;
        gate_cumulative = t.gate_cumulative;
        held = t.held;
        queue = t.queue;
        cumulative = t.cumulative;
      } ≡ next_of r s row y
  counted_there l eg er eq =
      let e : i ≡ r.n = omega (arith, h.within) in
      counted_is r t eg (er.is ∙ ap (λ (k : ℕ). sum_of (take k t.held)) e) (eq.is ∙ ap (λ (k : ℕ). sum_of (take k t.queue)) e)
      ∙ ap (counted_of r) (moved_end h l)

-- after a move, counting has no further precondition
pub countable : {r : Road} {s : State} {row y : List ℕ} {t : State} → Movable r s row y → s.done < most_steps → t ≡ moved_of r s row y → Countable r t
unfolding moved_to
countable {r} {s} {row} {y} {t} m d e = rw e (record {
  done = d;
  total = omega (arith, m.input.state.total, m.input.state.done);
  present = omega (arith, present_bound r s row y m.input m.sized m.obeys d, counted_present r (moved_of r s row y));
})
