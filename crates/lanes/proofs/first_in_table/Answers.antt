-- The search stops at the first cell that does not pass in some row, or at n.
use Rattle.std.proofs.Common.{arith, rules}
use Rattle.numbers.specs.FirstLaws.{passed_stop, passed_end}
use Rattle.lanes.proofs.first_in_table.Goals as goal

pub returns-then-not-cell_in_table : goal.returns-then-not-cell_in_table
returns-then-not-cell_in_table c = passed_stop c.loop-i.invariant c.loop-i-test.true c.cell_in_table.ensures (search rules)

pub returns : goal.returns
returns c = passed_end c.loop-i.invariant (omega arith)
