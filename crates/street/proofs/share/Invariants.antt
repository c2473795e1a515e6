-- The loop keeps: the grants of i ramps are stored, and the rest is known.
use Rattle.std.proofs.Common.{◌-◌, length}
use Rattle.street.specs.Loops.{StoredGrants}
use Rattle.street.proofs.share.Given as goal

abbrev pub invariant-loop-i : goal.invariant-loop-i
invariant-loop-i l = StoredGrants l.limit l.guarantees l.wishes l.initial.grants l.left l.i l.grants

abbrev pub decreases-loop-i : goal.decreases-loop-i
decreases-loop-i l = length l.guarantees - l.i
