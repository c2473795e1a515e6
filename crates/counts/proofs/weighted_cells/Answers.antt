-- `counts::weighted_cells` meets its contract: a turn adds one more weighted count.
use Rattle.counts.specs.WeightSums.{summed_none, summed_more}
use Rattle.counts.proofs.weighted_cells.Goals as goal

pub loop-i-init : goal.loop-i-init
loop-i-init c = summed_none

pub loop-i-preserved : goal.loop-i-preserved
loop-i-preserved c =
    let e = c.weighted_count-sum.ensures in
    summed_more c.loop-i.invariant c.loop-i-test.true e.0 e.1
