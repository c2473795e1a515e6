-- The release is that of the wish. Assumes nothing.
use Rattle.std.proofs.Common.{ap, ◌∙◌}
use Rattle.std.specs.Prelude.{Float}
use Rattle.model.specs.Meter.{whole_below}
use Rattle.ramps.proofs.granted.Goals as goal

pub returns : goal.returns
returns c = c.release.ensures ∙ ap (λ (w : Float). whole_below w c.args.cap) c.wish-wish.ensures
