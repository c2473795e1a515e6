-- The capacities of the first i cells are those of their open lanes.
use Rattle.std.proofs.Common.{◌-◌, ◌≤◌}
use Rattle.lanes.specs.LanesLaws.{OpenedCells}
use Rattle.lanes.proofs.open_capacities.Given as goal

abbrev pub invariant-loop-i : goal.invariant-loop-i
invariant-loop-i l = record { within : l.i ≤ l.n; opened : OpenedCells l.capacity l.built l.usable l.left l.i }

abbrev pub decreases-loop-i : goal.decreases-loop-i
decreases-loop-i l = l.n - l.i
