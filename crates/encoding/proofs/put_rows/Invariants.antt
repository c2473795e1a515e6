-- The rows of t steps are put.
use Rattle.std.proofs.Common.{◌-◌}
use Rattle.encoding.specs.Encoding.{RowsPutSoFar}
use Rattle.encoding.proofs.put_rows.Given as goal

abbrev pub invariant-loop-t : goal.invariant-loop-t
invariant-loop-t l = RowsPutSoFar l.initial.target l.at l.rows l.n l.steps l.t l.from l.target l.end

abbrev pub decreases-loop-t : goal.decreases-loop-t
decreases-loop-t l = l.steps - l.t
