-- `entry`: each return follows from the tests before it.
use Rattle.std.proofs.Common.{arith}
use Rattle.taking.specs.RowLaws.{entry_there, entry_none}
use Rattle.taking.proofs.entry.Goals as goal

pub returns-then-bytes-lt-NUMBER_SIZE : goal.returns-then-bytes-lt-NUMBER_SIZE
returns-then-bytes-lt-NUMBER_SIZE c = entry_none c.args.bytes.now c.args.at (omega arith)

pub returns-then-bytes-at : goal.returns-then-bytes-at
returns-then-bytes-at c = entry_none c.args.bytes.now c.args.at (omega arith)

pub returns : goal.returns
returns c = entry_there c.args.bytes.now c.args.at (omega arith) c.number.ensures.0
