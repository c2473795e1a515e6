-- The loop keeps: the start queue and k arrivals are added.
use Rattle.std.proofs.Common.{◌-◌, length}
use Rattle.wanted.specs.Loops.{InflowSoFar}
use Rattle.wanted.proofs.inflow.Given as goal

abbrev pub invariant-loop-k : goal.invariant-loop-k
invariant-loop-k l = InflowSoFar l.start l.arrivals l.total l.k

abbrev pub decreases-loop-k : goal.decreases-loop-k
decreases-loop-k l = length l.arrivals - l.k
