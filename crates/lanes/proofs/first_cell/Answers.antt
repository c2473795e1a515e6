-- The search stops at the first cell that does not pass, or at n.
use Rattle.std.proofs.Common.{arith, rules}
use Rattle.numbers.specs.FirstLaws.{passed_stop, passed_end}
use Rattle.lanes.proofs.first_cell.Goals as goal

pub returns-then-not-lanes_ok : goal.returns-then-not-lanes_ok
returns-then-not-lanes_ok c = passed_stop c.loop-i.invariant c.loop-i-test.true c.lanes_ok.ensures (search rules)

pub returns : goal.returns
returns c = passed_end c.loop-i.invariant (omega arith)
