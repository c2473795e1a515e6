-- The loop of `raise_to_parts`: the greatest bytes are raised to the first k parts.
use Rattle.std.proofs.Common.{◌-◌, ◌≤◌}
use Rattle.reading.specs.Greatest.{AboveParts}
use Rattle.reading.proofs.raise_to_parts.Given as goal

abbrev pub invariant-loop-k : goal.invariant-loop-k
invariant-loop-k l = record { within : l.k ≤ l.count; raised : AboveParts l.bytes l.start l.size l.k l.initial.greatest l.greatest }

abbrev pub decreases-loop-k : goal.decreases-loop-k
decreases-loop-k l = l.count - l.k
