-- The page's sentences about a step, place by place, for a step with any row of outflows. Assumes nothing.
use Rattle.std.specs.Prelude.{◌≡◌, List, set}
use Rattle.std.proofs.Math.Path.{refl}
use Rattle.std.proofs.Common.{◌∙◌, arith}
use Prim.Native.Nat.{ℕ, zero, suc, ◌+◌, ◌-◌, ◌≤◌, ◌<◌}
use Rattle.std.proofs.Math.Numerals.{add-one}
use Rattle.flow.specs.FlowLaws.{onward_entering}
use Rattle.numbers.specs.RowsLaws.{fill_more, fill_at, fill_past, length_fill}
use Rattle.model.specs.declared.Road.{Road}
use Rattle.model.specs.declared.State.{State}
use Rattle.model.specs.Numbers.{at}
use Rattle.model.specs.Road.{total_of}
use Rattle.model.specs.Flow.{gate_arrivals, arrivals_at, release_at, share_at, cumulative_at, entering_at}
use Rattle.theory.specs.RulesLaws.{onward_at, Sized}
use Rattle.model.specs.Move.{held_of, queue_of, cumulative_of, moved_to, held_sum, queue_sum, present_of, counted_of, next_of}

module _ (r : Road) (s : State) (row y : List ℕ) where
  -- steps done grow by one
  pub next_done : (next_of r s row y).done ≡ s.done + 1
  unfolding counted_of moved_to
  next_done = refl

  -- each time grows by its part of present after the step
  pub next_gate_time : (next_of r s row y).gate_time ≡ s.gate_time + (next_of r s row y).gate_queue
  unfolding counted_of moved_to
  next_gate_time = refl

  pub next_road_time : (next_of r s row y).road_time ≡ s.road_time + held_sum r (next_of r s row y)
  unfolding counted_of moved_to
  next_road_time = refl

  pub next_ramp_time : (next_of r s row y).ramp_time ≡ s.ramp_time + queue_sum r (next_of r s row y)
  unfolding counted_of moved_to
  next_ramp_time = refl

  -- so the total grows by present
  pub next_total : total_of (next_of r s row y) ≡ total_of s + present_of r (next_of r s row y)
  next_total = omega (arith, next_gate_time, next_road_time, next_ramp_time)

  -- the gate's queue becomes queue + arrivals − outflow
  pub next_gate_queue : (next_of r s row y).gate_queue ≡ s.gate_queue + gate_arrivals row - at y 0
  unfolding counted_of moved_to
  next_gate_queue = refl

  -- entries past cell n are unchanged
  pub next_held_past : (i : ℕ) → r.n ≤ i → at (next_of r s row y).held i ≡ at s.held i
  unfolding counted_of moved_to
  next_held_past i l = fill_past (held_of r s row y) r.n s.held i l

  pub next_queue_past : (i : ℕ) → r.n ≤ i → at (next_of r s row y).queue i ≡ at s.queue i
  unfolding counted_of moved_to
  next_queue_past i l = fill_past (queue_of s row) r.n s.queue i l

  pub next_cumulative_past : (i : ℕ) → r.n ≤ i → at (next_of r s row y).cumulative i ≡ at s.cumulative i
  unfolding counted_of moved_to
  next_cumulative_past i l = fill_past (cumulative_of s y) r.n s.cumulative i l

  module _ (z : Sized r s) where
    -- held becomes held + entering + release − outflow
    pub next_held : (i : ℕ) → i < r.n
        → at (next_of r s row y).held i ≡ at s.held i + entering_at r s y i + release_at row i - at y (suc i)
    unfolding counted_of moved_to
    next_held i l = fill_at (held_of r s row y) r.n s.held i l z.held ∙ rw add-one

    -- a ramp's queue becomes queue + arrivals − release
    pub next_queue : (i : ℕ) → i < r.n → at (next_of r s row y).queue i ≡ at s.queue i + arrivals_at row i - release_at row i
    unfolding counted_of moved_to
    next_queue i l = fill_at (queue_of s row) r.n s.queue i l z.queue

    -- F of a place grows by its outflow
    pub next_cumulative : (p : ℕ) → p ≤ r.n → cumulative_at (next_of r s row y) p ≡ cumulative_at s p + at y p
    unfolding cumulative_at counted_of moved_to
    next_cumulative zero l = refl
    next_cumulative (suc i) l = fill_at (cumulative_of s y) r.n s.cumulative i (omega arith) z.cumulative ∙ rw add-one

    -- the onward total of a place grows by what enters the next cell
    pub next_onward : (p : ℕ) → p ≤ r.n → onward_at r (next_of r s row y) p ≡ onward_at r s p + entering_at r s y p
    next_onward p l = rw (next_cumulative p l) (onward_entering (share_at r p) (cumulative_at s p) (at y p))

    pub next_sized : Sized r (next_of r s row y)
    unfolding counted_of moved_to
    next_sized = record {
      held = omega (arith, length_fill (held_of r s row y) r.n s.held, z.held);
      queue = omega (arith, length_fill (queue_of s row) r.n s.queue, z.queue);
      cumulative = omega (arith, length_fill (cumulative_of s y) r.n s.cumulative, z.cumulative);
    }

-- counting a step does not change present
pub counted_present : (r : Road) (s : State) → present_of r (counted_of r s) ≡ present_of r s
unfolding counted_of
counted_present r s = refl

-- counting a step, with the parts of present given by equations
pub counted_is : (r : Road) (s : State) {gate held queues : ℕ} → gate ≡ s.gate_queue → held ≡ held_sum r s → queues ≡ queue_sum r s
    → ◌≡◌ {A = State} (record {
      done = s.done + 1;
      gate_time = s.gate_time + gate;
      road_time = s.road_time + held;
      ramp_time = s.ramp_time + queues;
      gate_queue = s.gate_queue;
      gate_cumulative = s.gate_cumulative;
      held = s.held;
      queue = s.queue;
      cumulative = s.cumulative;
    })
    (counted_of r s)
unfolding counted_of
counted_is r s g h q = rw (g, h, q)

-- one more cell moved, as in a loop over the cells
pub moved_more : (r : Road) (s : State) (row y : List ℕ) (i : ℕ) (t : State) (enter : ℕ)
    → t ≡ moved_to r s row y i → enter ≡ entering_at r s y i
    → ◌≡◌ {A = State} (record {
      done = t.done;
      gate_time = t.gate_time;
      road_time = t.road_time;
      ramp_time = t.ramp_time;
      gate_queue = t.gate_queue;
      gate_cumulative = t.gate_cumulative;
      held = set t.held i (at s.held i + enter + release_at row i - at y (i + 1));
      queue = set t.queue i (at s.queue i + arrivals_at row i - release_at row i);
      cumulative = set t.cumulative i (at s.cumulative i + at y (i + 1));
    })
    (moved_to r s row y (i + 1))
unfolding moved_to
moved_more r s row y i t enter e h = simp (e, h, fill_more)
