-- The invariant of `many::put_arrivals`: the rows of the first t steps have the table's arrivals. Assumes nothing.
use Rattle.std.proofs.Common.{◌-◌}
use Rattle.many.specs.Putting.{RowsPut}
use Rattle.many.proofs.put_arrivals.Given as goal

abbrev pub invariant-loop-t : goal.invariant-loop-t
invariant-loop-t l = RowsPut l.fn.bytes l.n l.steps l.table l.bytes l.from l.t

abbrev pub decreases-loop-t : goal.decreases-loop-t
decreases-loop-t l = l.steps - l.t
