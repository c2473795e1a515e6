-- The loop keeps: the first k numbers are stored.
use Rattle.std.proofs.Common.{◌-◌, ◌≡◌, ◌+◌, ◌*◌, ◌≤◌}
use Rattle.model.specs.Numbers.{fill_of}
use Rattle.model.specs.Record.{entry_of}
use Rattle.fields.proofs.read_row.Given as goal

abbrev pub invariant-loop-k : goal.invariant-loop-k
invariant-loop-k l = record { within : l.k ≤ 1 + 2 * l.n; filled : l.r ≡ fill_of (entry_of l.bytes l.n l.t) l.k l.initial.r }

abbrev pub decreases-loop-k : goal.decreases-loop-k
decreases-loop-k l = 1 + 2 * l.n - l.k
