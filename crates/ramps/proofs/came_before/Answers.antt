-- The list is filled entry by entry. Assumes nothing.
use Rattle.std.proofs.Common.{refl}
use Rattle.passes.specs.Supplies.{filled_none, filled_more, filled_end}
use Rattle.ramps.proofs.came_before.Goals as goal

pub loop-i-init : goal.loop-i-init
loop-i-init c = filled_none

pub loop-i-preserved : goal.loop-i-preserved
loop-i-preserved c = filled_more c.loop-i.invariant c.loop-i-test.true refl

pub returns : goal.returns
returns c = filled_end c.loop-i.invariant c.loop-i-test.false
