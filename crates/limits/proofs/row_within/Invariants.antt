-- The loop keeps: the gate's arrivals and the rates of the first i cells are within their limits.
use Rattle.std.proofs.Common.{◌-◌, ◌≤◌}
use Rattle.model.specs.Numbers.{at}
use Rattle.numbers.specs.FirstLaws.{PassedTests}
use Rattle.model.specs.Road.{most_rate}
use Rattle.model.specs.Limits.{rates_at}
use Rattle.limits.proofs.row_within.Given as goal

abbrev pub invariant-loop-i : goal.invariant-loop-i
invariant-loop-i l = record { gate : at l.row 0 ≤ most_rate; rates : PassedTests (rates_at l.ramp l.row) l.n l.i }

abbrev pub decreases-loop-i : goal.decreases-loop-i
decreases-loop-i l = l.n - l.i
