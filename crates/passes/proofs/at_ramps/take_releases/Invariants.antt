-- The releases of the first k listed cells fit, and are stored.
use Rattle.std.proofs.Common.{◌-◌}
use Rattle.passes.specs.RampList.{Upto}
use Rattle.passes.specs.TakeReleases.{TakeSoFar}
use Rattle.passes.proofs.at_ramps.take_releases.Given as goal

abbrev pub invariant-loop-k : goal.invariant-loop-k
invariant-loop-k l = record {
  upto : Upto l.ramps l.k;
  taken : TakeSoFar l.bytes l.start l.ramps l.cell l.queue l.fn.work l.work l.k;
}

abbrev pub decreases-loop-k : goal.decreases-loop-k
decreases-loop-k l = l.ramps - l.k
