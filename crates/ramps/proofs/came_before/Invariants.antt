-- The first i entries are held + F less what entered.
use Rattle.std.proofs.Common.{◌-◌}
use Rattle.passes.specs.Supplies.{FilledTo}
use Rattle.ramps.specs.LastStep.{came_in}
use Rattle.ramps.proofs.came_before.Given as goal

abbrev pub invariant-loop-i : goal.invariant-loop-i
invariant-loop-i l = FilledTo (came_in l.held l.cumulative l.entries) l.n l.fn.came l.came l.i

abbrev pub decreases-loop-i : goal.decreases-loop-i
decreases-loop-i l = l.n - l.i
