-- The first i entries are supplies.
use Rattle.std.proofs.Common.{◌-◌}
use Rattle.passes.specs.Supplies.{supply_in, FilledTo}
use Rattle.passes.proofs.supplies.Given as goal

abbrev pub invariant-loop-i : goal.invariant-loop-i
invariant-loop-i l = FilledTo (supply_in l.wave l.jam l.capacity l.held) l.count l.fn.room l.room l.i

abbrev pub decreases-loop-i : goal.decreases-loop-i
decreases-loop-i l = l.count - l.i
