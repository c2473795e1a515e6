-- After k steps: no step had a fault, the columns hold the schedule's own state, and the lists hold the states so far if they are written; the road
-- differs from the record's only in its capacities; the array for a row is long enough. The measure is the steps that are left.
use Rattle.std.proofs.Common.{◌-◌, ◌≤◌, length}
use Rattle.model.specs.Reading.{study_by}
use Rattle.model.specs.Record.{row_numbers}
use Rattle.model.specs.Schedules.{with_capacity}
use Rattle.theory.specs.OpenRoad.{OnRoad}
use Rattle.outflows.specs.Columns.{state_of}
use Rattle.judging.specs.WrittenStates.{JudgedSoFar}
use Rattle.judging.proofs.judge_rows.Given as goal

abbrev pub invariant-loop-k : goal.invariant-loop-k
invariant-loop-k l = record {
  judged : JudgedSoFar (study_by l.bytes l.table l.r l.fn.s l.steps) l.schedule l.writes l.fn.held l.fn.queue l.held l.queue
      (state_of l.l l.cells l.ramps l.cumulative) l.k;
  road : OnRoad (study_by l.bytes l.table l.r l.fn.s l.steps) (with_capacity l.r l.capacity);
  numbers : row_numbers l.r.n ≤ length l.row;
}

abbrev pub decreases-loop-k : goal.decreases-loop-k
decreases-loop-k l = l.steps - l.k
