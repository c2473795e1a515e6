-- The loop of `raise_to_part`: the first j greatest bytes are raised.
use Rattle.std.proofs.Common.{◌-◌, ◌≤◌}
use Rattle.reading.specs.Greatest.{AbovePart}
use Rattle.reading.proofs.raise_to_part.Given as goal

abbrev pub invariant-loop-j : goal.invariant-loop-j
invariant-loop-j l = record { within : l.j ≤ l.size; raised : AbovePart l.bytes l.start l.j l.initial.greatest l.greatest }

abbrev pub decreases-loop-j : goal.decreases-loop-j
decreases-loop-j l = l.size - l.j
