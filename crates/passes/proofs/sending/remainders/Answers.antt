-- The list of remainders is filled entry by entry. Assumes nothing.
use Rattle.passes.specs.Supplies.{filled_none, filled_more, filled_end}
use Rattle.passes.proofs.sending.remainders.Goals as goal

pub loop-i-init : goal.loop-i-init
loop-i-init c = filled_none

pub loop-i-preserved : goal.loop-i-preserved
loop-i-preserved c = filled_more c.loop-i.invariant c.loop-i-test.true c.remainder.ensures

pub returns : goal.returns
returns c = filled_end c.loop-i.invariant c.loop-i-test.false
