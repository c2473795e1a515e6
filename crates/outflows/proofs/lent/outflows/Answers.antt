-- `outflows::lent::outflows` meets its contract: each turn fills one more place, and the last demand is put after the loop.
use Rattle.std.proofs.Common.{arith}
use Rattle.outflows.specs.Outflows.{filled_none, filled_more, filled_end}
use Rattle.outflows.proofs.lent.outflows.Goals as goal

pub loop-i-init : goal.loop-i-init
loop-i-init c = record {
  within = omega arith;
  filled = λ r g queue row rooms. filled_none c.gate_demand-demand.ensures c.requires.1;
}

pub loop-i-preserved : goal.loop-i-preserved
loop-i-preserved c = record {
  within = omega arith;
  filled = λ r g queue row rooms. filled_more (c.loop-i.invariant.filled r g queue row rooms) c.loop-i-test.true
      (rooms c.loop-i.i c.loop-i-test.true) c.outflow.ensures c.demand-demand.ensures;
}

pub returns : goal.returns
returns c r g queue row rooms = filled_end (c.loop-i.invariant.filled r g queue row rooms) c.loop-i-test.false c.requires.1
