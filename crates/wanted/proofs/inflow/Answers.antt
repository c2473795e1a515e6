-- The sum fits, by `added_fits`, and one more arrival is added, by `added_more`.
use Rattle.std.proofs.Common.{arith}
use Rattle.wanted.specs.Loops.{added_none, added_fits, added_more}
use Rattle.wanted.proofs.inflow.Goals as goal

pub loop-k-init : goal.loop-k-init
loop-k-init c = added_none

pub overflow_add-total : goal.overflow_add-total
overflow_add-total c = omega (arith, added_fits c.requires c.loop-k.invariant c.loop-k-test.true, c.requires.most)

pub loop-k-preserved : goal.loop-k-preserved
loop-k-preserved c = added_more c.loop-k.invariant c.loop-k-test.true
