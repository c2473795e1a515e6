-- The invariant of `filling::entries_within`: the first i entries are at most what their cells hold. Assumes nothing.
use Rattle.std.proofs.Common.{ℕ, ◌-◌, ◌≤◌, ◌<◌}
use Rattle.model.specs.Numbers.{at}
use Rattle.filling.proofs.entries_within.Given as goal

abbrev pub invariant-loop-i : goal.invariant-loop-i
invariant-loop-i l = record { within : l.i ≤ l.n; below : (j : ℕ) → j < l.i → at l.entries j ≤ at l.held j }

abbrev pub decreases-loop-i : goal.decreases-loop-i
decreases-loop-i l = l.n - l.i
