-- `encoding::put_record` meets its contract: the header, the cells and the rows, one after the other.
use Rattle.std.proofs.Common.{arith}
use Rattle.model.specs.Encoding.{given_study}
use Rattle.encoding.specs.Encoding.{header_ends, cells_end, record_puts}
use Rattle.encoding.proofs.put_record.Goals as goal

pub put_cells-to_rows-requires : goal.put_cells-to_rows-requires
put_cells-to_rows-requires c =
    let a = given_study c.args.road c.args.steps c.args.start c.args.rows.now in
    let k = header_ends a _ _ _ c.put_header-to_cells.ensures in
    (c.requires.counts.cells, omega (arith, k.0, k.1, c.requires.room))

pub put_rows-requires : goal.put_rows-requires
put_rows-requires c =
    let a = given_study c.args.road c.args.steps c.args.start c.args.rows.now in
    let k = cells_end a _ _ _ c.put_header-to_cells.ensures _ _ c.put_cells-to_rows.ensures in
    (record { cells = c.requires.counts.cells; all = c.requires.all }, omega (arith, k.0, k.1, c.requires.room))

pub returns : goal.returns
returns c =
    record_puts (given_study c.args.road c.args.steps c.args.start c.args.rows.now) _ _ _ c.put_header-to_cells.ensures
    _ _ c.put_cells-to_rows.ensures _ _ c.put_rows.ensures
