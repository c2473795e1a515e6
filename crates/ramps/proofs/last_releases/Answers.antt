-- The list is filled entry by entry. Assumes nothing.
use Rattle.std.proofs.Common.{refl}
use Rattle.passes.specs.Supplies.{filled_none, filled_more, filled_end}
use Rattle.ramps.proofs.last_releases.Goals as goal

pub loop-j-init : goal.loop-j-init
loop-j-init c = filled_none

pub loop-j-preserved : goal.loop-j-preserved
loop-j-preserved c = filled_more c.loop-j.invariant c.loop-j-test.true refl

pub returns : goal.returns
returns c = filled_end c.loop-j.invariant c.loop-j-test.false
