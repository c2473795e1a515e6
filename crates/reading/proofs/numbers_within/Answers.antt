-- `numbers_within`: each number that the code reads is one of the row at `start`, and each test is the model's test of it.
use Rattle.std.proofs.Common.{◌+◌, ◌*◌, arith}
use Rattle.limits.specs.LimitsLaws.{gate_above, gate_within_lem}
use Rattle.numbers.specs.FirstLaws.{passed_none, passed_more, passed_fails, passed_all}
use Rattle.reading.specs.Greatest.{row_at}
use Rattle.reading.specs.ReadingLaws.{entry_read, rates_read}
use Rattle.reading.proofs.numbers_within.Goals as goal

pub returns-then-number-gt-RATE : goal.returns-then-number-gt-RATE
returns-then-number-gt-RATE c =
    let a = c.args in
    let gate = entry_read a.bytes.now a.n a.start 0 (omega arith) c.number.ensures.0 (omega arith) in
    gate_above _ _ _ (omega arith)

pub loop-i-init : goal.loop-i-init
loop-i-init c =
    let a = c.args in
    let gate = entry_read a.bytes.now a.n a.start 0 (omega arith) c.number.ensures.0 (omega arith) in
    record { gate = omega arith; passed = passed_none }

pub returns-then-not-rates_within : goal.returns-then-not-rates_within
returns-then-not-rates_within c =
    let a = c.args in
    let i = c.loop-i.i in
    let found = rates_read a.ramp.now (row_at a.bytes.now a.n a.start) i c.rates_within.ensures
    (entry_read a.bytes.now a.n a.start (2 * i + 1) (omega arith) c.number-arrivals.ensures.0 (omega arith))
    (entry_read a.bytes.now a.n a.start (2 * i + 2) (omega arith) c.number-release.ensures.0 (omega arith)) in
    gate_within_lem _ _ _ c.loop-i.invariant.gate (passed_fails c.loop-i.invariant.passed c.loop-i-test.true found c.if-not-rates_within.true)

pub loop-i-preserved : goal.loop-i-preserved
loop-i-preserved c =
    let a = c.args in
    let i = c.loop-i.i in
    let found = rates_read a.ramp.now (row_at a.bytes.now a.n a.start) i c.rates_within.ensures
    (entry_read a.bytes.now a.n a.start (2 * i + 1) (omega arith) c.number-arrivals.ensures.0 (omega arith))
    (entry_read a.bytes.now a.n a.start (2 * i + 2) (omega arith) c.number-release.ensures.0 (omega arith)) in
    record { gate = c.loop-i.invariant.gate; passed = passed_more c.loop-i.invariant.passed c.loop-i-test.true found c.if-not-rates_within.false }

pub returns : goal.returns
returns c = gate_within_lem _ _ _ c.loop-i.invariant.gate (passed_all c.loop-i.invariant.passed c.loop-i-test.false)
