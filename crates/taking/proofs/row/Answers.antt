-- `row`: each return follows from the tests before it.
use Rattle.std.proofs.Common.{arith}
use Rattle.taking.specs.RowLaws.{array_cells, array_steps, array_numbers}
use Rattle.taking.proofs.row.Goals as goal

pub returns-then-n-gt-CELLS : goal.returns-then-n-gt-CELLS
returns-then-n-gt-CELLS c = let a = c.args in array_cells a.bytes.now a.n a.t (omega arith)

pub returns-then-t-ge-STEPS : goal.returns-then-t-ge-STEPS
returns-then-t-ge-STEPS c = let a = c.args in array_steps a.bytes.now a.n a.t (omega arith) (omega arith)

pub returns : goal.returns
returns c = let a = c.args in array_numbers a.bytes.now a.n a.t (omega arith) (omega arith) c.numbers.ensures
