-- In the loop of `counts::exits` the sum is the exits of the first i cells.
use Rattle.std.proofs.Common.{◌-◌}
use Rattle.counts.specs.Cells.{ExitsSoFar}
use Rattle.counts.proofs.exits.Given as goal

abbrev pub invariant-loop-i : goal.invariant-loop-i
invariant-loop-i l = ExitsSoFar l.r l.s l.n l.sum l.i

abbrev pub decreases-loop-i : goal.decreases-loop-i
decreases-loop-i l = l.n - l.i
