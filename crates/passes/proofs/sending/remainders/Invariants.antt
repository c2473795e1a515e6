-- The first i entries are remainders.
use Rattle.std.proofs.Common.{◌-◌}
use Rattle.passes.specs.Rest.{rest_in}
use Rattle.passes.specs.Supplies.{FilledTo}
use Rattle.passes.proofs.sending.remainders.Given as goal

abbrev pub invariant-loop-i : goal.invariant-loop-i
invariant-loop-i l = FilledTo (rest_in l.share l.cumulative) l.n l.fn.rest l.rest l.i

abbrev pub decreases-loop-i : goal.decreases-loop-i
decreases-loop-i l = l.n - l.i
