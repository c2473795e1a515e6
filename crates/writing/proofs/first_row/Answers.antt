-- `writing::first_row` meets its contract: the loop ends at the first row out of its limits, or without one.
use Rattle.std.proofs.Common.{ap, ◌∙◌, arith}
use Rattle.numbers.specs.FirstLaws.{passed_more, passed_stop, passed_end}
use Rattle.numbers.specs.TablesLaws.{part_row, mul_more}
use Rattle.model.specs.Record.{row_numbers}
use Rattle.model.specs.Limits.{row_ok}
use Rattle.writing.proofs.first_row.Goals as goal

pub returns-then-not-row_within : goal.returns-then-not-row_within
returns-then-not-row_within c =
    let row = part_row c.args.rows.now (row_numbers c.args.n) c.loop-t.t c.loop-t.from c.loop-t.invariant.place in
    let found = c.row_within.ensures ∙ ap (row_ok c.args.ramp c.args.n) row in
    passed_stop c.loop-t.invariant.passed c.loop-t-test.true found c.if-not-row_within.true

pub loop-t-preserved : goal.loop-t-preserved
loop-t-preserved c =
    let row = part_row c.args.rows.now (row_numbers c.args.n) c.loop-t.t c.loop-t.from c.loop-t.invariant.place in
    let found = c.row_within.ensures ∙ ap (row_ok c.args.ramp c.args.n) row in
    record {
      place = omega (arith, c.loop-t.invariant.place, mul_more c.loop-t.t (row_numbers c.args.n));
      passed = passed_more c.loop-t.invariant.passed c.loop-t-test.true found c.if-not-row_within.false;
    }

pub returns : goal.returns
returns c = passed_end c.loop-t.invariant.passed (omega arith)
