-- The remainder that the code computes is the one of the model. Assumes nothing.
use Rattle.std.proofs.Common.{refl}
use Rattle.passes.specs.Rest.{rest_found}
use Rattle.passes.proofs.sending.remainder.Goals as goal

pub returns : goal.returns
returns c = rest_found c.args.share c.args.cumulative _ refl
