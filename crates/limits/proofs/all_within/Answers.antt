-- The first number above the limit, or none, decides the test, by the laws of `AllWithin`.
use Rattle.std.proofs.Common.{arith, rules}
use Rattle.limits.specs.AllWithin.{within_true, within_fails}
use Rattle.limits.proofs.all_within.Goals as goal

pub returns-then-most-list : goal.returns-then-most-list
returns-then-most-list c = within_fails c.args.list.now c.args.most c.loop-i.i (search rules) (omega arith)

pub returns : goal.returns
returns c = within_true c.args.list.now c.args.most (λ j l. c.loop-i.invariant.below j (omega (arith, c.loop-i-test.false)))
