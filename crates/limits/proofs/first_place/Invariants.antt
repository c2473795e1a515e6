-- The loop keeps: places 0 to i are within their limits.
use Rattle.std.proofs.Common.{◌-◌, ◌+◌}
use Rattle.numbers.specs.FirstLaws.{PassedTests}
use Rattle.model.specs.Limits.{place_ok}
use Rattle.limits.proofs.first_place.Given as goal

abbrev pub invariant-loop-i : goal.invariant-loop-i
invariant-loop-i l = PassedTests (place_ok l.r l.s) (l.r.n + 1) (l.i + 1)

abbrev pub decreases-loop-i : goal.decreases-loop-i
decreases-loop-i l = l.n - l.i
