-- The first i entries are demands.
use Rattle.std.proofs.Common.{◌-◌}
use Rattle.passes.specs.Supplies.{demand_in, FilledTo}
use Rattle.passes.proofs.demands.Given as goal

abbrev pub invariant-loop-i : goal.invariant-loop-i
invariant-loop-i l = FilledTo (demand_in l.speed l.capacity l.held) l.count l.fn.demand l.demand l.i

abbrev pub decreases-loop-i : goal.decreases-loop-i
decreases-loop-i l = l.count - l.i
