-- The loop of `numbers`: the first k numbers of the row are stored.
use Rattle.std.proofs.Common.{◌-◌}
use Rattle.model.specs.Record.{row_numbers}
use Rattle.taking.specs.RowLaws.{RowSoFar}
use Rattle.taking.proofs.numbers.Given as goal

abbrev pub invariant-loop-k : goal.invariant-loop-k
invariant-loop-k l = RowSoFar l.bytes l.n l.t l.r l.k

abbrev pub decreases-loop-k : goal.decreases-loop-k
decreases-loop-k l = row_numbers l.n - l.k
