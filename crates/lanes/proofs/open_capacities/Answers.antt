-- Each turn stores one more capacity.
use Rattle.std.proofs.Common.{arith}
use Rattle.lanes.specs.LanesLaws.{opened_none, opened_more}
use Rattle.lanes.proofs.open_capacities.Goals as goal

pub loop-i-init : goal.loop-i-init
loop-i-init c = record { within = omega arith; opened = opened_none }

pub loop-i-preserved : goal.loop-i-preserved
loop-i-preserved c = record { within = omega arith; opened = opened_more c.loop-i.invariant.opened c.open_capacity.ensures }
