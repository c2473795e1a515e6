-- The search stops at the first cell with a ramp and a law that is not finite, past the arrays, or at n.
use Rattle.std.proofs.Common.{arith, rules}
use Rattle.numbers.specs.FirstLaws.{passed_more}
use Rattle.meter.specs.MeterLaws.{ok_is, fault_stop, fault_past, fault_end}
use Rattle.meter.proofs.law_fault.Goals as goal

pub returns-then-i-ge-CELLS : goal.returns-then-i-ge-CELLS
returns-then-i-ge-CELLS c = fault_past _ _ c.loop-i.invariant (search rules)

pub returns-then-not-ramp-i : goal.returns-then-not-ramp-i
returns-then-not-ramp-i c =
    let found = ok_is c.args.laws c.args.ramp c.loop-i.i _ (search rules) c.law_finite.ensures in
    fault_stop _ _ c.loop-i.invariant c.loop-i-test.true found c.if-not-ramp-i.true

pub loop-i-preserved : goal.loop-i-preserved
loop-i-preserved c =
    let found = ok_is c.args.laws c.args.ramp c.loop-i.i _ (search rules) c.law_finite.ensures in
    passed_more c.loop-i.invariant c.loop-i-test.true found c.if-not-ramp-i.false

pub returns : goal.returns
returns c = fault_end _ _ c.loop-i.invariant (omega arith)
