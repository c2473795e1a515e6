-- In the loop of `counts::weighted_cells` the weighted counts of the first i cells are added.
use Rattle.std.proofs.Common.{◌+◌, ◌-◌, ◌*◌}
use Rattle.model.specs.Numbers.{at}
use Rattle.counts.specs.WeightSums.{SummedProducts}
use Rattle.counts.proofs.weighted_cells.Given as goal

abbrev pub invariant-loop-i : goal.invariant-loop-i
invariant-loop-i l = SummedProducts (λ k. at l.weights (l.from + k) * at l.counts k) l.n l.sum l.i

abbrev pub decreases-loop-i : goal.decreases-loop-i
decreases-loop-i l = l.n - l.i
