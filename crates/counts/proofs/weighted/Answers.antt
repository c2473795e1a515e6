-- `counts::weighted` meets its contract: a count of cells above 64 gives the same as 64.
use Rattle.std.proofs.Common.{ap, ◌∙◌, refl, ℕ, rules}
use Rattle.model.specs.Numbers.{at}
use Rattle.model.specs.Weights.{weighted_present}
use Rattle.counts.specs.WeightSums.{weighted_min}
use Rattle.counts.proofs.weighted.Goals as goal

pub returns : goal.returns
returns c =
    let a = c.args in
    let w = at a.weights.places in
    let u = at a.weights.ramps in
    c.weighted_places.ensures.present a.s (record { at_gate = refl; on_road = refl; at_ramps = refl })
    ∙ ap (λ (n : ℕ). weighted_present w u n a.s) c.cells-n.ensures
    ∙ weighted_min w u a.r.n a.s (search rules) (search rules)
