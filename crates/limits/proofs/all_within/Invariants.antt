-- The loop keeps: the first i numbers are within the limit.
use Rattle.std.proofs.Common.{◌-◌, ◌≤◌, ◌<◌, ℕ, length}
use Rattle.model.specs.Numbers.{at}
use Rattle.limits.proofs.all_within.Given as goal

abbrev pub invariant-loop-i : goal.invariant-loop-i
invariant-loop-i l = record { within : l.i ≤ length l.list; below : (j : ℕ) → j < l.i → at l.list j ≤ l.most }

abbrev pub decreases-loop-i : goal.decreases-loop-i
decreases-loop-i l = length l.list - l.i
