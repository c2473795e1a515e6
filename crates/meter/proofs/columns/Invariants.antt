-- The laws of the first i cells are stored.
use Rattle.std.proofs.Common.{◌-◌}
use Rattle.model.specs.Road.{most_cells}
use Rattle.meter.specs.LawColumns.{SplitLaws}
use Rattle.meter.proofs.columns.Given as goal

abbrev pub invariant-loop-i : goal.invariant-loop-i
invariant-loop-i l = SplitLaws l.laws l.kinds l.numbers l.i

abbrev pub decreases-loop-i : goal.decreases-loop-i
decreases-loop-i l = most_cells - l.i
