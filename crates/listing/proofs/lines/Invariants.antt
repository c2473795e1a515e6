-- The loop of `listing::lines`: the lines of the first i cells are put after the gate's.
use Rattle.std.proofs.Common.{◌-◌}
use Rattle.listing.specs.ListingLaws.{ListedCells}
use Rattle.listing.proofs.lines.Given as goal

abbrev pub invariant-loop-i : goal.invariant-loop-i
invariant-loop-i l = ListedCells l.initial.buffer l.initial.end l.step l.n l.outflows l.gate_queue l.held l.queue l.buffer l.end l.i

abbrev pub decreases-loop-i : goal.decreases-loop-i
decreases-loop-i l = l.n - l.i
