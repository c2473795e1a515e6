-- In the loop of `stepping::lent::advance` the gate and the first i cells are moved, and their held counts and ramp queues are added.
use Rattle.std.proofs.Common.{◌+◌, ◌-◌}
use Rattle.numbers.specs.SumLaws.{SummedRow}
use Rattle.model.specs.declared.Road.{Road}
use Rattle.outflows.specs.Columns.{with_share_column, with_gate, state_of}
use Rattle.stepping.specs.StepNeeds.{MovedCells}
use Rattle.stepping.proofs.lent.advance.Given as goal

abbrev pub invariant-loop-i : goal.invariant-loop-i
invariant-loop-i l = record {
  moved : (r : Road) → MovedCells (with_share_column r l.n l.share) (state_of l.fn.l l.fn.held l.fn.queue l.fn.cumulative) l.row l.y
      (state_of (with_gate l.fn.l l.waiting (l.fn.l.gate_cumulative + l.first)) l.held l.queue l.cumulative) l.entering l.i;
  on_road : SummedRow l.held l.on_road l.i;
  at_ramps : SummedRow l.queue l.at_ramps l.i;
}

abbrev pub decreases-loop-i : goal.decreases-loop-i
decreases-loop-i l = l.n - l.i
