-- The loop of `rows`: the rows of the first t steps are in the list.
use Rattle.std.proofs.Common.{◌-◌}
use Rattle.taking.specs.TakingLaws.{RowsSoFar}
use Rattle.taking.proofs.rows.Given as goal

abbrev pub invariant-loop-t : goal.invariant-loop-t
invariant-loop-t l = RowsSoFar l.bytes l.n l.steps l.initial.list l.list l.from l.t

abbrev pub decreases-loop-t : goal.decreases-loop-t
decreases-loop-t l = l.steps - l.t
