-- The list of supplies is filled entry by entry; the product is below 2 ^ 32 by the limits of waves and jams. Assumes nothing.
use Rattle.passes.specs.Supplies.{filled_none, filled_more, filled_end, supply_found}
use Rattle.passes.proofs.supplies.Goals as goal

pub loop-i-init : goal.loop-i-init
loop-i-init c = filled_none

pub loop-i-preserved : goal.loop-i-preserved
loop-i-preserved c =
    let a = c.args in
    filled_more c.loop-i.invariant c.loop-i-test.true (supply_found a.wave.now a.jam.now a.capacity.now a.held.now c.loop-i.i c.least.ensures)

pub returns : goal.returns
returns c = filled_end c.loop-i.invariant c.loop-i-test.false
