-- The byte read in step k is the cell's in row k of the lanes open.
use Rattle.std.proofs.Common.{arith, rules}
use Rattle.numbers.specs.TablesLaws.{mul_more}
use Rattle.numbers.specs.FirstLaws.{passed_more, passed_fails, passed_all}
use Rattle.lanes.specs.LanesLaws.{cell_found}
use Rattle.lanes.proofs.cell_in_table.Goals as goal

pub returns-then-not-lanes_ok : goal.returns-then-not-lanes_ok
returns-then-not-lanes_ok c =
    let found = cell_found c.args.table.now c.args.n c.loop-k.k c.args.i c.loop-k.at c.requires.1 c.loop-k.invariant.place c.lanes_ok.ensures in
    passed_fails c.loop-k.invariant.passed c.loop-k-test.true found c.if-not-lanes_ok.true

pub loop-k-preserved : goal.loop-k-preserved
loop-k-preserved c =
    let found = cell_found c.args.table.now c.args.n c.loop-k.k c.args.i c.loop-k.at c.requires.1 c.loop-k.invariant.place c.lanes_ok.ensures in
    record {
      place = omega (arith, c.loop-k.invariant.place, mul_more c.loop-k.k c.args.n);
      passed = passed_more c.loop-k.invariant.passed c.loop-k-test.true found (search rules);
    }

pub returns : goal.returns
returns c = passed_all c.loop-k.invariant.passed (omega arith)
