-- The loop keeps: the smaller of wish and guarantee of i ramps is subtracted from the limit.
use Rattle.std.proofs.Common.{◌-◌, length}
use Rattle.street.specs.Loops.{RestSoFar}
use Rattle.street.proofs.rest.Given as goal

abbrev pub invariant-loop-i : goal.invariant-loop-i
invariant-loop-i l = RestSoFar l.limit l.guarantees l.wishes l.left l.i

abbrev pub decreases-loop-i : goal.decreases-loop-i
decreases-loop-i l = length l.guarantees - l.i
