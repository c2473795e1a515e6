-- The first j entries are last releases.
use Rattle.std.proofs.Common.{◌-◌}
use Rattle.model.specs.Numbers.{at}
use Rattle.passes.specs.Supplies.{FilledTo}
use Rattle.ramps.proofs.last_releases.Given as goal

abbrev pub invariant-loop-j : goal.invariant-loop-j
invariant-loop-j l = FilledTo (λ k. at l.releases (at l.cell k)) l.ramps l.fn.release l.release l.j

abbrev pub decreases-loop-j : goal.decreases-loop-j
decreases-loop-j l = l.ramps - l.j
