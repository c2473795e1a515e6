-- The first i cells are put.
use Rattle.std.proofs.Common.{◌-◌, ◌≤◌}
use Rattle.model.specs.Road.{start_state}
use Rattle.model.specs.Record.{cell_size}
use Rattle.model.specs.Encoding.{cell_bytes}
use Rattle.encoding.specs.Encoding.{PuttingLists}
use Rattle.encoding.proofs.put_cells.Given as goal

abbrev pub invariant-loop-i : goal.invariant-loop-i
invariant-loop-i l = record {
  within : l.i ≤ l.n;
  put : PuttingLists l.initial.target l.at (cell_bytes l.road (start_state l.start)) cell_size l.i l.target l.end;
}

abbrev pub decreases-loop-i : goal.decreases-loop-i
decreases-loop-i l = l.n - l.i
