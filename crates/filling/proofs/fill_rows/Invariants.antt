-- The invariant of `filling::fill_rows`: k steps are filled by the laws and their outflows are written, and the road differs from the record's only in
-- its capacities. Assumes nothing.
use Rattle.std.proofs.Common.{◌≡◌, ◌-◌, length}
use Rattle.model.specs.Reading.{study_by}
use Rattle.model.specs.Filling.{metered_from}
use Rattle.model.specs.GoingOn.{progressed}
use Rattle.model.specs.Longest.{queues_of}
use Rattle.theory.specs.OpenRoad.{OnRoad}
use Rattle.passes.specs.Tables.{road_in, cell_col}
use Rattle.counts.specs.LongestSoFar.{LongestSoFar}
use Rattle.filling.specs.FillingLoop.{FilledSteps}
use Rattle.filling.proofs.fill_rows.Given as goal

abbrev pub invariant-loop-k : goal.invariant-loop-k
invariant-loop-k l =
    let a = study_by l.fn.bytes l.table l.r l.fn.from.state l.steps in
    let m = progressed l.fn.from in
    record {
      road : OnRoad a (road_in l.r l.size l.rates l.sizes);
      columns : length l.sizes ≡ 3;
      filled : FilledSteps l.fn.laws l.fn.bytes a m l.fn.out l.bytes l.out l.l l.state l.size.ramps (cell_col l.sizes) l.work l.k l.to;
      longest : LongestSoFar l.longs l.r.n (λ j. (metered_from l.fn.laws a m j).state) (queues_of l.gate.gate l.gate.waiting l.most) l.k;
    }

abbrev pub decreases-loop-k : goal.decreases-loop-k
decreases-loop-k l = l.steps - l.k
