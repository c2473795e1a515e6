-- `many::put_arrivals`: the part of the table that is lent is the row of the step. Assumes nothing.
use Rattle.std.proofs.Common.{◌+◌}
use Rattle.numbers.specs.TablesLaws.{part_row}
use Rattle.many.specs.Putting.{puts_none, puts_row, puts_more}
use Rattle.many.proofs.put_arrivals.Goals as goal

pub loop-t-init : goal.loop-t-init
loop-t-init c = puts_none

pub put_row-requires : goal.put_row-requires
put_row-requires c =
    let a = c.args in
    let l = c.loop-t in
    puts_row c.requires l.invariant c.version-version.ensures c.loop-t-test.true (part_row a.table.now (a.n + 1) l.t l.from l.invariant.place)

pub loop-t-preserved : goal.loop-t-preserved
loop-t-preserved c =
    let a = c.args in
    let l = c.loop-t in
    puts_more c.requires l.invariant c.loop-t-test.true (part_row a.table.now (a.n + 1) l.t l.from l.invariant.place) c.put_row.ensures
