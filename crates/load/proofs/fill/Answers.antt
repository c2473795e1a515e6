-- Each turn stores the arrival of the next number.
use Rattle.std.proofs.Common.{rules}
use Rattle.load.specs.Loop.{filled_none, filled_more, filled_end}
use Rattle.load.proofs.fill.Goals as goal

pub loop-i-init : goal.loop-i-init
loop-i-init c = filled_none

pub loop-i-preserved : goal.loop-i-preserved
loop-i-preserved c = filled_more c.loop-i.invariant c.loop-i-test.true c.next-following.ensures c.arrival.ensures

pub returns : goal.returns
returns c = let e = filled_end c.loop-i.invariant (search rules) in record { last = e.0; list = e.1 }
