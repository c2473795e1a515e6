-- The rows of the first t steps are within their limits, and the next begins at `from`.
use Rattle.std.proofs.Common.{◌≡◌, ◌-◌, ◌*◌}
use Rattle.numbers.specs.FirstLaws.{PassedTests}
use Rattle.model.specs.Numbers.{row_at}
use Rattle.model.specs.Record.{row_numbers}
use Rattle.model.specs.Limits.{row_ok}
use Rattle.writing.proofs.first_row.Given as goal

abbrev pub invariant-loop-t : goal.invariant-loop-t
invariant-loop-t l = record {
  place : l.from ≡ l.t * row_numbers l.n;
  passed : PassedTests (λ j. row_ok l.ramp l.n (row_at l.rows (row_numbers l.n) j)) l.steps l.t;
}

abbrev pub decreases-loop-t : goal.decreases-loop-t
decreases-loop-t l = l.steps - l.t
