-- The loop keeps: the lowest queue after k steps, and none so far was above the ceiling.
use Rattle.std.proofs.Common.{◌-◌, length}
use Rattle.wanted.specs.Loops.{ReleasedSoFar}
use Rattle.wanted.proofs.possible.Given as goal

abbrev pub invariant-loop-k : goal.invariant-loop-k
invariant-loop-k l = ReleasedSoFar l.start l.ceiling l.rate l.arrivals l.queue l.k

abbrev pub decreases-loop-k : goal.decreases-loop-k
decreases-loop-k l = length l.arrivals - l.k
