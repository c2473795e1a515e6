-- The loop of `outflows::lent::outflows` has filled the first i places, on any road and any state with these columns whose rooms these are.
use Rattle.std.proofs.Common.{◌-◌, ◌≤◌, List, ℕ}
use Rattle.model.specs.declared.Road.{Road}
use Rattle.outflows.specs.declared.Ledger.{Ledger}
use Rattle.outflows.specs.Columns.{with_demands, with_gate, state_of}
use Rattle.outflows.specs.Outflows.{FilledOutflows}
use Rattle.outflows.specs.Rooms.{Rooms}
use Rattle.outflows.proofs.lent.outflows.Given as goal

abbrev pub invariant-loop-i : goal.invariant-loop-i
invariant-loop-i l = record {
  within : l.i ≤ l.n;
  filled : (r : Road) (g : Ledger) (queue row : List ℕ) →
      let q = with_demands r l.n l.gate_capacity l.speed l.share l.capacity in
      let s = state_of (with_gate g l.gate_queue l.gate_cumulative) l.held queue l.cumulative in
      Rooms q s row l.room → FilledOutflows q s row l.initial.y l.y l.part l.before l.demand l.i;
}

abbrev pub decreases-loop-i : goal.decreases-loop-i
decreases-loop-i l = l.n - l.i
