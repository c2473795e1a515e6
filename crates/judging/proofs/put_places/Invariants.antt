-- The places before i are written, and x is the number of the next. The measure is the places that are left.
use Rattle.std.proofs.Common.{◌-◌}
use Rattle.judging.specs.PutPlaces.{PuttingPlaces}
use Rattle.judging.proofs.put_places.Given as goal

abbrev pub invariant-loop-i : goal.invariant-loop-i
invariant-loop-i l = PuttingPlaces l.gate l.cells l.n l.fn.list l.from l.list l.i l.x

abbrev pub decreases-loop-i : goal.decreases-loop-i
decreases-loop-i l = l.n - l.i
