-- The next queue is the lowest, and the first above the ceiling, or none, decides, by the laws of `Loops`.
use Rattle.std.proofs.Common.{rules}
use Rattle.wanted.specs.Loops.{lowered_none, lowered_more, lowered_stop, lowered_end}
use Rattle.wanted.proofs.possible.Goals as goal

pub loop-k-init : goal.loop-k-init
loop-k-init c = lowered_none c.requires

pub returns-then-ceiling-queue : goal.returns-then-ceiling-queue
returns-then-ceiling-queue c = lowered_stop c.loop-k.invariant c.loop-k-test.true c.less-queue.ensures c.if-ceiling-queue.true

pub loop-k-preserved : goal.loop-k-preserved
loop-k-preserved c = lowered_more c.loop-k.invariant c.loop-k-test.true c.less-queue.ensures (search rules) (search rules)

pub returns : goal.returns
returns c = lowered_end c.loop-k.invariant (search rules)
