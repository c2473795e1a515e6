-- `joining::put_joined_row` meets its contract: one row after the other.
use Rattle.std.proofs.Common.{arith}
use Rattle.joining.specs.JoinedBytes.{room_rest, row_puts}
use Rattle.joining.proofs.put_joined_row.Goals as goal

pub put_row-requires : goal.put_row-requires
put_row-requires c =
    omega (arith, room_rest c.args.row.now c.args.next.now c.args.target.now c.args.at _ _ c.put_row-end.ensures c.requires.1)

pub returns : goal.returns
returns c =
    row_puts c.args.row.now c.args.next.now c.args.target.now c.args.at _ _ c.put_row-end.ensures _ _ c.put_row.ensures
