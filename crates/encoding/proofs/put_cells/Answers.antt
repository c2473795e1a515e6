-- `encoding::put_cells` meets its contract: each cell is put after those before it.
use Rattle.std.proofs.Common.{arith}
use Rattle.encoding.specs.Encoding.{putting_none, putting_more, length_cell}
use Rattle.encoding.proofs.put_cells.Goals as goal

pub loop-i-init : goal.loop-i-init
loop-i-init c = record { within = omega arith; put = putting_none _ _ _ _ }

pub loop-i-preserved : goal.loop-i-preserved
loop-i-preserved c = record {
  within = omega arith;
  put = putting_more _ _ _ _ c.loop-i.i (length_cell _ _ _ _ _ _ _ _) c.loop-i.invariant.put c.put_cell-end.ensures;
}
