-- The loop of `first_row`: the rows of the first t steps are within their limits.
use Rattle.std.proofs.Common.{◌-◌}
use Rattle.numbers.specs.FirstLaws.{PassedTests}
use Rattle.model.specs.Record.{record_row}
use Rattle.model.specs.Limits.{row_ok}
use Rattle.reading.proofs.first_row.Given as goal

abbrev pub invariant-loop-t : goal.invariant-loop-t
invariant-loop-t l = PassedTests (λ j. row_ok l.ramp l.n (record_row l.bytes l.n j)) l.steps l.t

abbrev pub decreases-loop-t : goal.decreases-loop-t
decreases-loop-t l = l.steps - l.t
