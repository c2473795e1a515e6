-- The lanes of the first i cells pass.
use Rattle.std.proofs.Common.{◌-◌}
use Rattle.model.specs.Lanes.{lanes_at}
use Rattle.numbers.specs.FirstLaws.{PassedTests}
use Rattle.lanes.proofs.first_cell.Given as goal

abbrev pub invariant-loop-i : goal.invariant-loop-i
invariant-loop-i l = PassedTests (lanes_at l.built l.usable) l.n l.i

abbrev pub decreases-loop-i : goal.decreases-loop-i
decreases-loop-i l = l.n - l.i
