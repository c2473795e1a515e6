-- `encoding::put_header` meets its contract: its numbers, one after the other.
use Rattle.std.proofs.Common.{arith}
use Rattle.fields.specs.HeaderLaws.{size_small}
use Rattle.encoding.specs.Encoding.{header_puts}
use Rattle.encoding.proofs.put_header.Goals as goal

pub overflow_cast-size : goal.overflow_cast-size
overflow_cast-size c = omega (arith, c.row_start-size.ensures, size_small c.args.version c.requires.0)

pub returns : goal.returns
returns c =
    header_puts c.row_start-size.ensures c.put_number-to_version.ensures c.put_byte-to_cells.ensures c.put_byte-to_steps.ensures
    c.put_short-to_seconds.ensures c.put_seconds-to_capacity.ensures c.put_number-to_queue.ensures c.put_number.ensures
