-- `has_ramp`: each return follows from the tests before it.
use Rattle.put.specs.PutLaws.{no_cell, past_cells, at_cell}
use Rattle.put.proofs.has_ramp.Goals as goal

pub returns-then-cell-lt1 : goal.returns-then-cell-lt1
returns-then-cell-lt1 c = no_cell _ _ _ c.if-cell-lt1.true

pub returns-then-n-cell : goal.returns-then-n-cell
returns-then-n-cell c = past_cells _ _ _ c.if-n-cell.true

pub returns : goal.returns
returns c = at_cell _ _ _ c.if-cell-lt1.false c.if-n-cell.false
