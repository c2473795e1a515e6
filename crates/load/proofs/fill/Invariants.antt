-- i arrivals are stored, and `number` is the last one's.
use Rattle.std.proofs.Common.{◌-◌, length}
use Rattle.load.specs.Loop.{StoredArrivals}
use Rattle.load.proofs.fill.Given as goal

abbrev pub invariant-loop-i : goal.invariant-loop-i
invariant-loop-i l = StoredArrivals l.seed l.peak l.initial.list l.number l.i l.list

abbrev pub decreases-loop-i : goal.decreases-loop-i
decreases-loop-i l = length l.initial.list - l.i
