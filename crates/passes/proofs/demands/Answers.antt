-- The list of demands is filled entry by entry; the product is below 2 ^ 32 by the limits of speeds and held counts. Assumes nothing.
use Rattle.std.proofs.Common.{arith}
use Rattle.passes.specs.Supplies.{filled_none, filled_more, filled_end, demand_found, demand_product}
use Rattle.passes.proofs.demands.Goals as goal

pub loop-i-init : goal.loop-i-init
loop-i-init c = filled_none

pub loop-i-preserved : goal.loop-i-preserved
loop-i-preserved c =
    let a = c.args in
    filled_more c.loop-i.invariant c.loop-i-test.true (demand_found a.speed.now a.capacity.now a.held.now c.loop-i.i c.least.ensures)

pub returns : goal.returns
returns c = filled_end c.loop-i.invariant c.loop-i-test.false

pub overflow_mul-speed : goal.overflow_mul-speed
overflow_mul-speed c = omega (arith, demand_product c.requires c.loop-i.i c.loop-i-test.true)
