-- `encoding::put_cell` meets its contract: its eight numbers, one after the other.
use Rattle.encoding.specs.Encoding.{cell_puts}
use Rattle.encoding.proofs.put_cell.Goals as goal

pub returns : goal.returns
returns c =
    cell_puts c.put_short-to_wave.ensures c.put_short-to_share.ensures c.put_short-to_ramp.ensures c.put_short-to_jam.ensures
    c.put_number-to_capacity.ensures c.put_number-to_held.ensures c.put_number-to_queue.ensures c.put_number.ensures
