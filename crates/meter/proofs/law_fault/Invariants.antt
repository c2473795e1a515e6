-- Each of the first i cells has no ramp, or a law with finite numbers.
use Rattle.std.proofs.Common.{◌-◌}
use Rattle.model.specs.Meter.{law_ok}
use Rattle.numbers.specs.FirstLaws.{PassedTests}
use Rattle.meter.proofs.law_fault.Given as goal

abbrev pub invariant-loop-i : goal.invariant-loop-i
invariant-loop-i l = PassedTests (law_ok l.laws l.ramp) l.n l.i

abbrev pub decreases-loop-i : goal.decreases-loop-i
decreases-loop-i l = l.n - l.i
