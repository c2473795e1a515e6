-- `first_row`: with no early row out of its limits the answer is T, and otherwise the loop stops at the first.
use Rattle.std.proofs.Common.{sym}
use Rattle.numbers.specs.FirstLaws.{passed_stop, passed_end, first_none}
use Rattle.reading.proofs.first_row.Goals as goal

pub returns-then-all_rows_within : goal.returns-then-all_rows_within
returns-then-all_rows_within c = sym (first_none _ c.args.steps (c.all_rows_within.ensures c.if-all_rows_within.true))

pub returns-then-not-row_within : goal.returns-then-not-row_within
returns-then-not-row_within c = passed_stop c.loop-t.invariant c.loop-t-test.true c.row_within.ensures c.if-not-row_within.true

pub returns : goal.returns
returns c = passed_end c.loop-t.invariant c.loop-t-test.false
