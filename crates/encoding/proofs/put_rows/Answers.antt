-- `encoding::put_rows` meets its contract: each row is put after those before it.
use Rattle.numbers.specs.TablesLaws.{part_row, part_length}
use Rattle.model.specs.Record.{row_numbers}
use Rattle.encoding.specs.Encoding.{rowing_none, rowing_more, row_there}
use Rattle.encoding.proofs.put_rows.Goals as goal

pub loop-t-init : goal.loop-t-init
loop-t-init c = rowing_none

pub loop-t-preserved : goal.loop-t-preserved
loop-t-preserved c =
    let h = c.loop-t.invariant in
    rowing_more h c.loop-t-test.true
    (part_row c.args.rows.now (row_numbers c.args.n) c.loop-t.t c.loop-t.from h.place)
    (part_length c.args.rows.now c.loop-t.from (row_numbers c.args.n) (row_there h c.requires.0 c.loop-t-test.true))
    c.put_row-end.ensures
