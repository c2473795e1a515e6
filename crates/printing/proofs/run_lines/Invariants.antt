-- After k steps: they are made without a fault, their lines are after the header, and the arrays of the passes are kept. The measure is the steps
-- that are left.
use Rattle.std.proofs.Common.{[], ◌-◌}
use Rattle.model.specs.Reading.{study_by}
use Rattle.passes.specs.Tables.{road_in, state_in, cell_col}
use Rattle.passes.specs.Step.{Arrays}
use Rattle.printing.specs.Lines.{LinesInBuffer}
use Rattle.printing.proofs.run_lines.Given as goal

abbrev pub invariant-loop-k : goal.invariant-loop-k
invariant-loop-k l = record {
  lines : LinesInBuffer (study_by l.bytes [] (road_in l.r l.size l.rates l.sizes) (state_in l.initial.l l.initial.state) l.steps) l.initial.buffer
      l.initial.end l.buffer (state_in l.l l.state) l.end l.k;
  arrays : Arrays (road_in l.r l.size l.rates l.sizes) l.size.ramps (cell_col l.sizes) l.state l.work;
}

abbrev pub decreases-loop-k : goal.decreases-loop-k
decreases-loop-k l = l.steps - l.k
