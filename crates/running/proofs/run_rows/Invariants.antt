-- After k steps: their rows are in the list and no step had a fault; the road differs from the record's only in its capacities; the weighted total
-- and the longest queues are those of these steps; the arrays of the passes are kept. The measure is the steps that are left.
use Rattle.std.proofs.Common.{◌-◌, ◌≡◌, length}
use Rattle.model.specs.Numbers.{at}
use Rattle.model.specs.Longest.{queues_of}
use Rattle.model.specs.Reading.{study_by}
use Rattle.model.specs.Schedules.{engine_after}
use Rattle.theory.specs.OpenRoad.{OnRoad}
use Rattle.passes.specs.Tables.{road_in, state_in, cell_col}
use Rattle.passes.specs.Step.{Arrays}
use Rattle.counts.specs.LongestSoFar.{LongestSoFar}
use Rattle.running.specs.LentList.{RowsInList}
use Rattle.running.specs.WeightedTotal.{WeightedSoFar}
use Rattle.running.proofs.run_rows.Given as goal

abbrev pub invariant-loop-k : goal.invariant-loop-k
invariant-loop-k l = record {
  rows : RowsInList (study_by l.bytes l.table l.r l.fn.s l.steps) l.fn.out l.out (state_in l.l l.state) l.k l.to;
  road : OnRoad (study_by l.bytes l.table l.r l.fn.s l.steps) (road_in l.r l.size l.rates l.sizes);
  columns : length l.sizes ≡ 3;
  total : WeightedSoFar l.sums (at l.weights.places) (at l.weights.ramps) (study_by l.bytes l.table l.r l.fn.s l.steps) l.total l.k;
  arrays : Arrays l.r l.size.ramps (cell_col l.sizes) l.state l.work;
  longest : LongestSoFar l.longs l.r.n (engine_after (study_by l.bytes l.table l.r l.fn.s l.steps)) (queues_of l.gate.gate l.gate.waiting l.most) l.k;
}

abbrev pub decreases-loop-k : goal.decreases-loop-k
decreases-loop-k l = l.steps - l.k
