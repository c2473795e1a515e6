-- The smaller of the next wish and guarantee is subtracted, by the laws of `Loops`.
use Rattle.std.proofs.Common.{rules}
use Rattle.street.specs.Loops.{left_none, left_fits, left_more, left_end}
use Rattle.street.proofs.rest.Goals as goal

pub loop-i-init : goal.loop-i-init
loop-i-init c = left_none

pub overflow_sub-left : goal.overflow_sub-left
overflow_sub-left c = left_fits c.loop-i.invariant c.requires c.loop-i-test.true c.smaller-left.ensures

pub loop-i-preserved : goal.loop-i-preserved
loop-i-preserved c = left_more c.loop-i.invariant c.requires c.loop-i-test.true c.smaller-left.ensures

pub returns : goal.returns
returns c = left_end c.loop-i.invariant (search rules)
