-- The invariant of `many::entry`: the longest queues of the first i ramps are stored. Assumes nothing.
use Rattle.std.proofs.Common.{◌-◌}
use Rattle.many.specs.Entries.{RampsPut}
use Rattle.many.proofs.entry.Given as goal

abbrev pub invariant-loop-i : goal.invariant-loop-i
invariant-loop-i l = RampsPut l.ramps l.initial.r l.r l.i

abbrev pub decreases-loop-i : goal.decreases-loop-i
decreases-loop-i l = 64 - l.i
