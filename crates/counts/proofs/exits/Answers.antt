-- `counts::exits` meets its contract: a turn adds the exits of one more cell.
use Rattle.std.proofs.Common.{rules}
use Rattle.counts.specs.Cells.{exits_none, exits_more, exits_end}
use Rattle.counts.proofs.exits.Goals as goal

pub loop-i-init : goal.loop-i-init
loop-i-init c = exits_none c.cells-n.ensures

pub loop-i-preserved : goal.loop-i-preserved
loop-i-preserved c = exits_more c.loop-i.invariant c.loop-i-test.true c.exit-sum.ensures

pub returns : goal.returns
returns c = exits_end c.loop-i.invariant c.loop-i-test.false (search rules)
