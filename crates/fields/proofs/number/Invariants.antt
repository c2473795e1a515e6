-- The loop keeps: r is the number in the first k bytes, below its bound.
use Rattle.std.proofs.Common.{◌-◌, ◌≡◌, ◌^◌, ◌≤◌, ◌<◌}
use Rattle.model.specs.Record.{number_of}
use Rattle.fields.proofs.number.Given as goal

abbrev pub invariant-loop-k : goal.invariant-loop-k
invariant-loop-k l = record { within : l.k ≤ l.size; value : l.r ≡ number_of l.bytes l.i l.k; bound : l.r < 256 ^ l.k }

abbrev pub decreases-loop-k : goal.decreases-loop-k
decreases-loop-k l = l.size - l.k
