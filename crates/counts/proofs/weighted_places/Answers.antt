-- `counts::weighted_places` meets its contract: the three sums are the weighted present of any state with these queues and counts.
use Rattle.counts.specs.WeightSums.{weighted_is}
use Rattle.counts.proofs.weighted_places.Goals as goal

pub returns-clause-present : goal.returns-clause-present
returns-clause-present c =
    let a = c.args in
    weighted_is a.places.now a.ramps.now a.n c.weighted_count-gate.ensures.0 c.weighted_cells-road.ensures.0 c.weighted_cells-ramp.ensures.0
