-- `laws` keeps that the laws of the first i cells are set. Assumes nothing.
use Rattle.std.proofs.Common.{◌-◌}
use Rattle.model.specs.Road.{most_cells}
use Rattle.exports.specs.LawsGiven.{LawsGiven}
use Rattle.exports.proofs.metering.laws.Given as goal

abbrev pub invariant-loop-i : goal.invariant-loop-i
invariant-loop-i l = LawsGiven l.kinds l.numbers l.all l.i

abbrev pub decreases-loop-i : goal.decreases-loop-i
decreases-loop-i l = most_cells - l.i
