-- The slices are the table's rows.
use Rattle.lanes.specs.LanesLaws.{cut_capacities}
use Rattle.lanes.proofs.step_capacities.Goals as goal

pub returns : goal.returns
returns c = cut_capacities c.args.capacity c.args.table.now c.args.n c.args.k c.open_capacities.ensures
