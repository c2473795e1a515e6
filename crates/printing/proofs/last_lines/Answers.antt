-- There is room for the line of the seconds. The returns need no answer here: specs' `last_steps` follow the test of the version.
use Rattle.printing.specs.Lines.{time_fits}
use Rattle.printing.proofs.last_lines.Goals as goal

pub seconds-requires : goal.seconds-requires
seconds-requires c = time_fits c.requires c.total-total.ensures c.exits-exits.ensures c.total-end.ensures
