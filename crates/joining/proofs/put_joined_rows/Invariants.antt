-- The joined rows of the first t steps are put.
use Rattle.std.proofs.Common.{◌-◌}
use Rattle.joining.specs.JoinedBytes.{JoinedRowsSoFar}
use Rattle.joining.proofs.put_joined_rows.Given as goal

abbrev pub invariant-loop-t : goal.invariant-loop-t
invariant-loop-t l = JoinedRowsSoFar l.initial.target l.at l.upstream l.n l.downstream l.m l.steps l.t l.target l.end

abbrev pub decreases-loop-t : goal.decreases-loop-t
decreases-loop-t l = l.steps - l.t
