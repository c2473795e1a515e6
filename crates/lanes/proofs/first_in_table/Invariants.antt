-- The first i cells pass in all rows.
use Rattle.std.proofs.Common.{◌-◌}
use Rattle.model.specs.Lanes.{table_at}
use Rattle.numbers.specs.FirstLaws.{PassedTests}
use Rattle.lanes.proofs.first_in_table.Given as goal

abbrev pub invariant-loop-i : goal.invariant-loop-i
invariant-loop-i l = PassedTests (table_at l.table l.n l.steps) l.n l.i

abbrev pub decreases-loop-i : goal.decreases-loop-i
decreases-loop-i l = l.n - l.i
