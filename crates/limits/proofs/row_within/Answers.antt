-- The gate's arrivals, or the first cell whose rates are above their limits, or none, decide the test.
use Rattle.std.proofs.Common.{arith}
use Rattle.numbers.specs.FirstLaws.{passed_fails, passed_all}
use Rattle.limits.specs.LimitsLaws.{gate_above, gate_within_lem}
use Rattle.limits.proofs.row_within.Goals as goal

pub returns-then-row-gt-RATE : goal.returns-then-row-gt-RATE
returns-then-row-gt-RATE c = gate_above _ _ _ (omega arith)

pub returns-then-not-rates_within : goal.returns-then-not-rates_within
returns-then-not-rates_within c =
    let h = c.loop-i.invariant in
    gate_within_lem _ _ _ h.gate (passed_fails h.rates c.loop-i-test.true c.rates_within.ensures c.if-not-rates_within.true)

pub returns : goal.returns
returns c = let h = c.loop-i.invariant in gate_within_lem _ _ _ h.gate (passed_all h.rates c.loop-i-test.false)
