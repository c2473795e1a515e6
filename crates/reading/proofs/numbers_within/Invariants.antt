-- The loop of `numbers_within`: the gate's arrivals and the rates of the first i cells are within their limits.
use Rattle.std.proofs.Common.{◌-◌, ◌≤◌}
use Rattle.model.specs.Numbers.{at}
use Rattle.model.specs.Road.{most_rate}
use Rattle.model.specs.Limits.{rates_at}
use Rattle.numbers.specs.FirstLaws.{PassedTests}
use Rattle.reading.specs.Greatest.{row_at}
use Rattle.reading.proofs.numbers_within.Given as goal

abbrev pub invariant-loop-i : goal.invariant-loop-i
invariant-loop-i l = record {
  gate : at (row_at l.bytes l.n l.start) 0 ≤ most_rate;
  passed : PassedTests (rates_at l.ramp (row_at l.bytes l.n l.start)) l.n l.i;
}

abbrev pub decreases-loop-i : goal.decreases-loop-i
decreases-loop-i l = l.n - l.i
