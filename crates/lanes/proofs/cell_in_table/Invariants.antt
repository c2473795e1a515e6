-- The cell passes in the first k steps, and its byte of the last row is at `at`.
use Rattle.std.proofs.Common.{◌≡◌, ◌+◌, ◌*◌, ◌-◌}
use Rattle.model.specs.Lanes.{lanes_at, built_in, open_in}
use Rattle.numbers.specs.FirstLaws.{PassedTests}
use Rattle.lanes.proofs.cell_in_table.Given as goal

abbrev pub invariant-loop-k : goal.invariant-loop-k
invariant-loop-k l = record {
  place : l.at ≡ l.k * l.n + l.i;
  passed : PassedTests (λ j. lanes_at (built_in l.table l.n) (open_in l.table l.n j) l.i) l.steps l.k;
}

abbrev pub decreases-loop-k : goal.decreases-loop-k
decreases-loop-k l = l.steps - l.k
