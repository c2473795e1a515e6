-- The invariant of `many::put_row`: the arrivals of the first p places are put. Assumes nothing.
use Rattle.std.proofs.Common.{◌-◌, length}
use Rattle.many.specs.Putting.{PlacesPut}
use Rattle.many.proofs.put_row.Given as goal

abbrev pub invariant-loop-p : goal.invariant-loop-p
invariant-loop-p l = PlacesPut l.fn.bytes l.version l.n l.t l.row l.bytes l.to l.p

abbrev pub decreases-loop-p : goal.decreases-loop-p
decreases-loop-p l = length l.row - l.p
